-- Document 01, "Calls" and "Looking up spots", and document 02, W4 and W7: for each call the table of its refusals, in the order written, and its
-- effect where none holds: what it hands back, stores and shows. Calls see a medium through its observations.
use Rattle.std.specs.Prelude.{ℕ, ◌*◌, Bool, true, false, cond, not, ◌&&◌, List, [], ◌∷◌, ◌++◌, eqb, leb, ltb, length, Result, Ok, Err}
use Rattle.std.proofs.Math.Option.{Option, none, some}
use Rattle.base.specs.declared.Refusal.{Refusal}
use Rattle.base.specs.Refusals.{refusal, refusal_with}
use Rattle.layout.specs.declared.Address.{Address}
use Rattle.layout.specs.declared.Block.{Block}
use Rattle.layout.specs.declared.Spot.{Spot}
use Rattle.layout.specs.Limits.{most_disks, most_growths}
use Rattle.layout.specs.Tally.{open_blocks, live_spot_of, live_block_of, live_address_of, waiting, calls_left_of, moves_now, source_of, target_of, next_block}
use Rattle.layout.specs.Windows.{part_moved}
use Rattle.medium.specs.declared.Geometry.{Geometry}
use Rattle.medium.specs.Medium.{record_bytes, bytes_needed, Observations, Store, no_store, record_store, block_store}
use Rattle.volume.specs.declared.Volume.{Volume}
use Rattle.volume.specs.declared.Advanced.{Advanced}
use Rattle.volume.specs.declared.Advanced.TheVariants.{Copied, Recorded, Finished}
use Rattle.volume.specs.declared.Reply.{Reply}
use Rattle.volume.specs.declared.Told.{Told}
use Rattle.volume.specs.declared.Told.TheVariants as told
use Rattle.volume.specs.States.{geometry, history_of, disks, tally_of, none_pending, new_state, with_pending, after_store, zeros, grown, with_copy, checkpointed}
use Rattle.volume.specs.Sound.{size_holds, rows_hold, disks_hold, sound}
use Rattle.volume.specs.Records.{record_of, state_read, is_sound_record}

-- What a call hands back (the next state beside the answer), its store, and what its piece then holds.
pub record Outcome : Type 0 where
  pub reply : Reply Told
  pub store : Store
  pub piece : List ℕ

-- "state handed back unchanged", or of zeros; nothing stored, the piece as it was
unfoldable pub refused : (v : Volume) (k : ℕ) (piece : List ℕ) → Outcome
refused v k piece = record { reply = record { state = v; answer = Err (refusal_with k) }; store = no_store; piece = piece }

-- an accepted call: its store is pending in the state that it hands back. One that reports nothing; one that reports the advance calls left;
-- one that also tells what an advance did
unfoldable pub doing : (v : Volume) (store : Store) (piece : List ℕ) → Outcome
doing v store piece = record { reply = record { state = after_store v store; answer = Ok told.Done }; store = store; piece = piece }

unfoldable pub reporting : (v : Volume) (store : Store) → Outcome
reporting v store =
    record { reply = record { state = after_store v store; answer = Ok (told.CallsLeft (calls_left_of (tally_of v))) }; store = store; piece = [] }

unfoldable pub telling : (v : Volume) (did : Advanced) (store : Store) → Outcome
telling v did store =
    record { reply = record { state = after_store v store; answer = Ok (told.Advanced did (calls_left_of (tally_of v))) }; store = store; piece = [] }

-- refused by its table, with the number, or accepted
abbrev pub judged : {A : Type 0} (table : List (ℕ × Bool)) (refusing : ℕ → A) (accepted : A) → A
judged table refusing accepted = cond (eqb (refusal table) 0) accepted (refusing (refusal table))

-- what the code finds for a call, such as the spot that it works on, where its table gives k: that, or the refusal of this number
unfoldable pub found_at : {A : Type 0} (k : ℕ) (found : A) → Result A Refusal
found_at k found = cond (eqb k 0) (Ok found) (Err (refusal_with k))

-- "2: medium too short for the record and N[t] disks"
unfoldable pub too_short : (g : Geometry) (n byte_count : ℕ) → Bool
too_short g n byte_count = ltb byte_count (bytes_needed g n)

abbrev pub is_none : (found : Option ℕ) → Bool
is_none none = true
is_none (some x) = false

-- ---- "Format: 8, Z, s or N[0] outside the limits; 2. It stores a record with t = 0. Refused, it hands back a state of zeros."

unfoldable pub format_table : (z s n byte_count : ℕ) → List (ℕ × Bool)
format_table z s n byte_count =
    (8, not (size_holds z))
    ∷ (8, not (rows_hold s))
    ∷ (8, not (disks_hold n))
    ∷ (2, too_short (record { size = z; rows = s }) n byte_count)
    ∷ []

unfoldable pub format_effect : (z s n : ℕ) → Outcome
format_effect z s n = doing (new_state z s n) (record_store (record_of (new_state z s n))) []

unfoldable pub format_outcome : (z s n : ℕ) (o : Observations) → Outcome
format_outcome z s n o = judged (format_table z s n o.byte_count) (λ k. refused zeros k []) (format_effect z s n)

-- ---- "Restart: 2, below 512 bytes; 13, bytes 0 to 511 are no sound state's record; 2. It stores nothing and sets copied to recorded. A
-- refusal gives a state of zeros."

-- the tests of the record's bytes
abbrev pub sector_table : (o : Observations) → List (ℕ × Bool)
sector_table o = (2, ltb o.byte_count record_bytes) ∷ (13, not (is_sound_record o.sector)) ∷ []

unfoldable pub restart_table : (o : Observations) → List (ℕ × Bool)
restart_table o = sector_table o ++ ((2, too_short (geometry (state_read o.sector)) (disks (state_read o.sector)) o.byte_count) ∷ [])

unfoldable pub restart_effect : (o : Observations) → Outcome
restart_effect o = reporting (state_read o.sector) no_store

unfoldable pub restart_outcome : (o : Observations) → Outcome
restart_outcome o = judged (restart_table o) (λ k. refused zeros k []) (restart_effect o)

-- ---- A record sector with no medium behind it, "by restart's rules, 2 for fewer and then 13 but no further 2": document 02, W1.

unfoldable pub sector_outcome : (o : Observations) → Outcome
sector_outcome o = judged (sector_table o) (λ k. refused zeros k []) (restart_effect o)

-- ---- Document 02, W4: "18 when a record store is due and block stores are pending, for grow, checkpoint and advance, and 19 when a record
-- store is pending, for write, copy, grow, checkpoint and advance; both are tested last, 19 before 18." The last rows of a call that stores a
-- block, and of one that stores the record.

abbrev pub block_rows : (v : Volume) → List (ℕ × Bool)
block_rows v = (19, v.pending.records) ∷ []

abbrev pub record_rows : (v : Volume) → List (ℕ × Bool)
record_rows v = (19, v.pending.records) ∷ (18, v.pending.blocks) ∷ []

-- ---- "A call flushed tells us that all earlier stores are down; it refuses only by 1."

unfoldable pub flushed_table : (v : Volume) → List (ℕ × Bool)
flushed_table v = (1, not (sound v)) ∷ []

unfoldable pub flushed_effect : (v : Volume) → Outcome
flushed_effect v = doing (with_pending v none_pending) no_store []

unfoldable pub flushed_outcome : (v : Volume) → Outcome
flushed_outcome v = judged (flushed_table v) (λ k. refused v k []) (flushed_effect v)

-- ---- "Grow to a count: 1; 6, growing already; 9, t = 7; 8, count not above N[t] or above 16; 2. It stores the record with the count
-- added, growing 1, w 0, no marks." Document 02, W7: "20 when the new count exceeds twice N[t], tested after 8 and before 2"; "the one without
-- 20" has every other row.

-- the row of a grow that is limited to doubling
unfoldable pub doubling_rows : (limited : Bool) (v : Volume) (count : ℕ) → List (ℕ × Bool)
doubling_rows true v count = (20, ltb (2 * disks v) count) ∷ []
doubling_rows false v count = []

unfoldable pub grow_table_of : (limited : Bool) (v : Volume) (count byte_count : ℕ) → List (ℕ × Bool)
grow_table_of limited v count byte_count =
    (1, not (sound v))
    ∷ (6, not (eqb v.growing 0))
    ∷ (9, eqb v.growths most_growths)
    ∷ (8, leb count (disks v))
    ∷ (8, ltb most_disks count)
    ∷ (doubling_rows limited v count ++ ((2, too_short (geometry v) count byte_count) ∷ record_rows v))

unfoldable pub grow_effect : (v : Volume) (count : ℕ) → Outcome
grow_effect v count = reporting (grown v count) (record_store (record_of (grown v count)))

unfoldable pub grow_outcome_of : (limited : Bool) (v : Volume) (count : ℕ) (o : Observations) → Outcome
grow_outcome_of limited v count o = judged (grow_table_of limited v count o.byte_count) (λ k. refused v k []) (grow_effect v count)

-- W7's grow, and the one without 20
abbrev pub grow_table : (v : Volume) (count byte_count : ℕ) → List (ℕ × Bool)
grow_table v count byte_count = grow_table_of true v count byte_count

abbrev pub grow_beyond_doubling_table : (v : Volume) (count byte_count : ℕ) → List (ℕ × Bool)
grow_beyond_doubling_table v count byte_count = grow_table_of false v count byte_count

abbrev pub grow_outcome : (v : Volume) (count : ℕ) (o : Observations) → Outcome
grow_outcome v count o = grow_outcome_of true v count o

abbrev pub grow_beyond_doubling_outcome : (v : Volume) (count : ℕ) (o : Observations) → Outcome
grow_beyond_doubling_outcome v count o = grow_outcome_of false v count o

-- ---- "1; 2; 3; 4, piece not Z bytes": the tests that write and read share

abbrev pub piece_table : (v : Volume) (x piece_bytes byte_count : ℕ) → List (ℕ × Bool)
piece_table v x piece_bytes byte_count =
    (1, not (sound v)) ∷ (2, too_short (geometry v) (disks v) byte_count) ∷ (3, leb (open_blocks (tally_of v)) x) ∷ (4, not (eqb piece_bytes v.size)) ∷ []

-- ---- "Write block x from a lent piece: 1; 2; 3; 4, piece not Z bytes; 7, x copied but not recorded. It stores the piece at the live spot."

unfoldable pub write_table : (v : Volume) (x piece_bytes byte_count : ℕ) → List (ℕ × Bool)
write_table v x piece_bytes byte_count = piece_table v x piece_bytes byte_count ++ ((7, waiting (tally_of v) x) ∷ block_rows v)

unfoldable pub write_effect : (v : Volume) (x : ℕ) (piece : List ℕ) → Outcome
write_effect v x piece = doing v (block_store (live_spot_of (tally_of v) x) piece) piece

unfoldable pub write_outcome : (v : Volume) (x : ℕ) (piece : List ℕ) (o : Observations) → Outcome
write_outcome v x piece o = judged (write_table v x (length piece) o.byte_count) (λ k. refused v k piece) (write_effect v x piece)

-- ---- "Read into a lent piece: 1; 2; 3; 4. It fills the piece from the live spot."

unfoldable pub read_table : (v : Volume) (x piece_bytes byte_count : ℕ) → List (ℕ × Bool)
read_table v x piece_bytes byte_count = piece_table v x piece_bytes byte_count

unfoldable pub read_effect : (v : Volume) (x : ℕ) (o : Observations) → Outcome
read_effect v x o = doing v no_store (o.bytes_at (geometry v) (live_spot_of (tally_of v) x))

unfoldable pub read_outcome : (v : Volume) (x : ℕ) (piece : List ℕ) (o : Observations) → Outcome
read_outcome v x piece o = judged (read_table v x (length piece) o.byte_count) (λ k. refused v k piece) (read_effect v x o)

-- ---- "1; 2; 5, not growing": the tests that copy, checkpoint and advance share

abbrev pub growth_table : (v : Volume) (byte_count : ℕ) → List (ℕ × Bool)
growth_table v byte_count = (1, not (sound v)) ∷ (2, too_short (geometry v) (disks v) byte_count) ∷ (5, eqb v.growing 0) ∷ []

-- ---- "Copy block x: 1; 2; 5, not growing; 3; 10, x doesn't move or not in window w; 11, copied already. It stores the old spot's bytes
-- at the new one and sets the copied mark."

unfoldable pub copy_table : (v : Volume) (x byte_count : ℕ) → List (ℕ × Bool)
copy_table v x byte_count =
    growth_table v byte_count
    ++ ((3, leb (open_blocks (tally_of v)) x)
    ∷ (10, not (moves_now (tally_of v) x))
    ∷ (11, (tally_of v).copied x)
    ∷ block_rows v)

-- "It stores the old spot's bytes at the new one"
unfoldable pub copy_store : (v : Volume) (x : ℕ) (o : Observations) → Store
copy_store v x o = block_store (target_of (tally_of v) x) (o.bytes_at (geometry v) (source_of (tally_of v) x))

unfoldable pub copy_effect : (v : Volume) (x : ℕ) (o : Observations) → Outcome
copy_effect v x o = reporting (with_copy v x) (copy_store v x o)

unfoldable pub copy_outcome : (v : Volume) (x : ℕ) (o : Observations) → Outcome
copy_outcome v x o = judged (copy_table v x o.byte_count) (λ k. refused v k []) (copy_effect v x o)

-- ---- "Checkpoint: 1; 2; 5; 12, copied equals recorded. It stores the record with recorded set to copied."

abbrev pub nothing_to_record : (v : Volume) → Bool
nothing_to_record v = eqb v.copied v.recorded

unfoldable pub checkpoint_table : (v : Volume) (byte_count : ℕ) → List (ℕ × Bool)
checkpoint_table v byte_count = growth_table v byte_count ++ ((12, nothing_to_record v) ∷ record_rows v)

unfoldable pub checkpoint_store : (v : Volume) → Store
checkpoint_store v = record_store (record_of (checkpointed v))

unfoldable pub checkpoint_effect : (v : Volume) → Outcome
checkpoint_effect v = reporting (checkpointed v) (checkpoint_store v)

unfoldable pub checkpoint_outcome : (v : Volume) (o : Observations) → Outcome
checkpoint_outcome v o = judged (checkpoint_table v o.byte_count) (λ k. refused v k []) (checkpoint_effect v)

-- ---- "Advance: 1; 2; 5. It copies the lowest unset copied mark of window w or, when none is left, does the checkpoint. It tells which:
-- copied with the block and its head, body or tail; recorded; finished, when that checkpoint ended the whole growth."

unfoldable pub advance_table : (v : Volume) (byte_count : ℕ) → List (ℕ × Bool)
advance_table v byte_count =
    growth_table v byte_count ++ ((19, v.pending.records) ∷ (18, is_none (next_block (tally_of v)) && v.pending.blocks) ∷ [])

-- of the state that the checkpoint hands back
unfoldable pub checkpoint_told : (v : Volume) → Advanced
checkpoint_told v = cond (eqb v.growing 0) Finished Recorded

unfoldable pub advancing : (v : Volume) (next : Option ℕ) (o : Observations) → Outcome
advancing v none o = telling (checkpointed v) (checkpoint_told (checkpointed v)) (checkpoint_store v)
advancing v (some x) o = telling (with_copy v x) (Copied (record { 0 = x }) (part_moved v.rows (history_of v) x)) (copy_store v x o)

unfoldable pub advance_effect : (v : Volume) (o : Observations) → Outcome
advance_effect v o = advancing v (next_block (tally_of v)) o

unfoldable pub advance_outcome : (v : Volume) (o : Observations) → Outcome
advance_outcome v o = judged (advance_table v o.byte_count) (λ k. refused v k []) (advance_effect v o)

-- ---- "Address of block x: 1; 3. It gives the live spot and why it is there". Document 02, W6: "Address also tells by how many growths the
-- block was moved."

unfoldable pub address_table : (v : Volume) (x : ℕ) → List (ℕ × Bool)
address_table v x = (1, not (sound v)) ∷ (3, leb (open_blocks (tally_of v)) x) ∷ []

unfoldable pub address_reply : (v : Volume) (x : ℕ) → Reply Address
address_reply v x =
    judged (address_table v x) (λ k. record { state = v; answer = Err (refusal_with k) })
    (record { state = v; answer = Ok (live_address_of (tally_of v) x) })

-- ---- "Holder of (d, b): 1; 14, d ≥ N[t] or b ≥ s; 15, no open block lives there. It gives the block."

abbrev pub block_found : (found : Option ℕ) → ℕ
block_found none = 0
block_found (some x) = x

unfoldable pub holder_table : (v : Volume) (p : Spot) → List (ℕ × Bool)
holder_table v p =
    (1, not (sound v))
    ∷ (14, leb (disks v) p.disk)
    ∷ (14, leb v.rows p.row.0)
    ∷ (15, is_none (live_block_of (tally_of v) p))
    ∷ []

unfoldable pub holder_reply : (v : Volume) (p : Spot) → Reply Block
holder_reply v p =
    judged (holder_table v p) (λ k. record { state = v; answer = Err (refusal_with k) })
    (record { state = v; answer = Ok (record { 0 = block_found (live_block_of (tally_of v) p) }) })
