-- What is proved of states, records and calls: `VolumeLaws`. `proofs/Theorems.antt` has the proof.
use Rattle.std.specs.Prelude.{ℕ, ◌*◌, ◌%◌, ◌≤◌, ◌<◌, ◌^◌, ◌≡◌, Bool, true, false, List, [], ◌≢◌, ◌⊎◌, length, get_or, Ok}
use Rattle.std.proofs.Math.Option.{none, some}
use Rattle.base.specs.Refusals.{refusal}
use Rattle.layout.specs.declared.Block.{Block}
use Rattle.layout.specs.declared.Part.{Part}
use Rattle.layout.specs.declared.Reason.TheVariants.{MovedBy}
use Rattle.layout.specs.declared.Spot.{Spot}
use Rattle.layout.specs.History.{old_count, added_count}
use Rattle.layout.specs.Laws.{ReasonTrue, LookUps, MovesTrue, LiveMoves}
use Rattle.layout.specs.Limits.{most_disks, most_growths, Limits}
use Rattle.layout.specs.Reasons.{growth_told}
use Rattle.layout.specs.Tally.{is_running, moved_blocks, live_spot_of, growths_of, waiting, moves_now, source_of, next_block}
use Rattle.layout.specs.Windows.{windows, moving_in}
use Rattle.marks.specs.Marks.{mark_count, within}
use Rattle.marks.specs.Words.{marks_of}
use Rattle.medium.specs.declared.Geometry.{Geometry}
use Rattle.medium.specs.Medium.{record_bytes, most_size, bytes_needed, Observations, observe, no_store, StoreFits}
use Rattle.volume.specs.declared.Advanced.TheVariants.{Copied}
use Rattle.volume.specs.declared.Pending.{Pending}
use Rattle.volume.specs.declared.Told.TheVariants as told
use Rattle.volume.specs.declared.Volume.{Volume}
use Rattle.volume.specs.Answers.{number, calls_told, block_copied, part_copied, address_number, spot_told, reason_told, moves_told, part_told, holder_number, block_told}
use Rattle.volume.specs.Calls.{Outcome, format_table, format_outcome, restart_table, restart_outcome, sector_table, sector_outcome, grow_table_of, grow_table, grow_beyond_doubling_table, grow_outcome_of, grow_outcome, grow_beyond_doubling_outcome, write_table, write_outcome, read_table, read_outcome, copy_table, copy_outcome, nothing_to_record, checkpoint_table, checkpoint_outcome, advance_table, advance_outcome, flushed_table, flushed_outcome, address_table, address_reply, holder_table, holder_reply}
use Rattle.volume.specs.AdvanceCases.{PartsTold}
use Rattle.volume.specs.GrowCases.{GrowCases}
use Rattle.volume.specs.LimitCases.{LimitCases}
use Rattle.volume.specs.RefusalOrders.{RefusalOrders}
use Rattle.volume.specs.Records.{record_of, state_read, is_sound_record}
use Rattle.volume.specs.Sound.{size_step, least_size, moving_of, sound}
use Rattle.volume.specs.States.{geometry, history_of, disks, tally_of, new_state, zeros, grown, with_pending, recorded_only, with_copy, checkpointed}

-- ---- what a sound state is

pub record RestFacts (v : Volume) : Type 0 where
  pub window_zero : v.window ≡ 0
  pub none_recorded : v.recorded ≡ 0
  pub none_copied : v.copied ≡ 0

pub record GrowthFacts (v : Volume) : Type 0 where
  pub growing_one : v.growing ≡ 1
  pub has_growth : 0 < v.growths
  pub window_below : v.window < windows (old_count (history_of v)) (added_count (history_of v)) v.rows
  pub recorded_copied : within (marks_of v.recorded) (marks_of v.copied) ≡ true
  pub copied_moving : within (marks_of v.copied) (moving_of v) ≡ true
  pub one_unrecorded : (x : ℕ) × (moving_in v.rows (history_of v) v.window x ≡ true) × ((tally_of v).recorded x ≡ false)

pub record SoundFacts (v : Volume) : Type 0 where
  pub counts_length : length v.counts ≡ 8
  pub recorded_fits : v.recorded < 2 ^ mark_count
  pub copied_fits : v.copied < 2 ^ mark_count
  pub size_least : least_size ≤ v.size
  pub size_most : v.size ≤ most_size
  pub size_steps : v.size % size_step ≡ 0
  pub limits : Limits v.rows (history_of v)
  pub zeros_after_law : (i : ℕ) → i < 8 → v.growths < i → get_or v.counts i 0 ≡ 0
  pub at_rest_law : v.growing ≡ 0 → RestFacts v
  pub while_growing : v.growing ≢ 0 → GrowthFacts v

-- ---- a copy that is recorded

-- u has the rows and the counts of v, and block x is where the newest growth moved it: that growth is finished, or the copy is recorded
pub record RecordsCopy (v u : Volume) (x : ℕ) : Type 0 where
  pub is_sound : sound u ≡ true
  pub same_rows : u.rows ≡ v.rows
  pub same_history : history_of u ≡ history_of v
  pub recorded : (is_running (tally_of u).mode ≡ false) ⊎ (moved_blocks (tally_of u) x ≡ true)

-- ---- what a call stores

-- its store lies in the bytes of the record and the disks
abbrev pub InDisks : (v : Volume) (out : Outcome) → Type 0
InDisks v out = StoreFits (geometry v) (bytes_needed (geometry v) (disks v)) out.store

-- ---- what a refusal is

-- the number told is the table's; a refusal hands back this state, stores nothing, leaves the piece and has no figures
pub record Refuses (table : List (ℕ × Bool)) (v : Volume) (piece : List ℕ) (out : Outcome) : Type 0 where
  pub number_told : number out.reply.answer ≡ refusal table
  pub state_kept : refusal table ≢ 0 → out.reply.state ≡ v
  pub nothing_stored : refusal table ≢ 0 → out.store ≡ no_store
  pub piece_kept : refusal table ≢ 0 → out.piece ≡ piece
  pub no_calls : refusal table ≢ 0 → calls_told out.reply.answer ≡ 0
  pub no_block : refusal table ≢ 0 → block_copied out.reply.answer ≡ 0
  pub no_part : refusal table ≢ 0 → part_copied out.reply.answer ≡ none

-- ---- grow, and the grow without 20 (document 02, W7)

-- the tests before 20 let a growth to this count start
pub record MayGrow (v : Volume) (count : ℕ) : Type 0 where
  pub is_sound : sound v ≡ true
  pub not_growing_law : v.growing ≡ 0
  pub one_more : v.growths < most_growths
  pub more_disks : disks v < count
  pub disks_most : count ≤ most_disks

-- 20 is told exactly where a growth to this count may start and the count exceeds twice N[t], whatever the medium and pending stores; else the
-- two are one call. The other one never tells 20
pub record TwoGrows (v : Volume) (count : ℕ) (o : Observations) : Type 0 where
  pub refused_beyond : MayGrow v count → 2 * disks v < count → refusal (grow_table v count o.byte_count) ≡ 20
  pub beyond_refused : refusal (grow_table v count o.byte_count) ≡ 20 → MayGrow v count × (2 * disks v < count)
  pub same_otherwise : refusal (grow_table v count o.byte_count) ≢ 20 → grow_outcome v count o ≡ grow_beyond_doubling_outcome v count o
  pub never_beyond : refusal (grow_beyond_doubling_table v count o.byte_count) ≢ 20

-- ---- look_ups

-- of a look-up, which stores nothing: the number told is the table's, the state is handed back, a refusal has no figures
pub record AddressRefuses (v : Volume) (x : ℕ) : Type 0 where
  pub number_told : address_number (address_reply v x).answer ≡ refusal (address_table v x)
  pub state_kept : (address_reply v x).state ≡ v
  pub no_spot : refusal (address_table v x) ≢ 0 → spot_told (address_reply v x).answer ≡ record { disk = 0; row = record { 0 = 0 } }
  pub no_growth : refusal (address_table v x) ≢ 0 → growth_told (reason_told (address_reply v x).answer) ≡ 0
  pub no_part : refusal (address_table v x) ≢ 0 → part_told (reason_told (address_reply v x).answer) ≡ none
  pub no_moves : refusal (address_table v x) ≢ 0 → moves_told (address_reply v x).answer ≡ 0

pub record HolderRefuses (v : Volume) (p : Spot) : Type 0 where
  pub number_told : holder_number (holder_reply v p).answer ≡ refusal (holder_table v p)
  pub state_kept : (holder_reply v p).state ≡ v
  pub no_block : refusal (holder_table v p) ≢ 0 → block_told (holder_reply v p).answer ≡ 0

-- ---- all laws

pub record VolumeLaws : Type 0 where
  -- the test of soundness says these facts, no more and no less
  pub sound_facts : (v : Volume) → sound v ≡ true → SoundFacts v
  pub facts_sound : (v : Volume) → SoundFacts v → sound v ≡ true
  -- reading the record of a sound state gives that state with copied set to recorded
  pub record_length : (v : Volume) → length (record_of v) ≡ record_bytes
  pub record_read : (v : Volume) → sound v ≡ true → (is_sound_record (record_of v) ≡ true) × (state_read (record_of v) ≡ recorded_only v)
  -- what is accepted is exactly the record of the state handed back, which is sound; so 13 is given exactly where the bytes are no
  -- sound state's record
  pub read_sound : (bytes : List ℕ) → is_sound_record bytes ≡ true → sound (state_read bytes) ≡ true
  pub read_recorded : (bytes : List ℕ) → is_sound_record bytes ≡ true → record_of (state_read bytes) ≡ bytes
  pub read_no_copies : (bytes : List ℕ) → recorded_only (state_read bytes) ≡ state_read bytes
  pub not_a_record : (bytes : List ℕ) → is_sound_record bytes ≡ false → (v : Volume) → sound v ≡ true → record_of v ≢ bytes
  -- the states that accepted calls hand back are sound
  pub format_sound : (z s n byte_count : ℕ) → refusal (format_table z s n byte_count) ≡ 0 → sound (new_state z s n) ≡ true
  pub grown_sound : (limited : Bool) (v : Volume) (count byte_count : ℕ) → refusal (grow_table_of limited v count byte_count) ≡ 0
      → sound (grown v count) ≡ true
  pub restart_sound : (o : Observations) → refusal (restart_table o) ≡ 0 → sound (state_read o.sector) ≡ true
  pub sector_sound : (o : Observations) → refusal (sector_table o) ≡ 0 → sound (state_read o.sector) ≡ true
  pub copied_sound : (v : Volume) (x : ℕ) → sound v ≡ true → v.growing ≢ 0 → moves_now (tally_of v) x ≡ true → sound (with_copy v x) ≡ true
  pub checkpointed_sound : (v : Volume) → sound v ≡ true → v.growing ≢ 0 → sound (checkpointed v) ≡ true
  -- what is pending is no part of soundness: both may be
  pub pending_sound : (v : Volume) (p : Pending) → sound (with_pending v p) ≡ sound v
  -- what is stored lies in the bytes of the disks; a copy stores bytes of the medium that it sees
  pub format_fits : (z s n : ℕ) (o : Observations)
      → (let g : Geometry = record { size = z; rows = s } in StoreFits g (bytes_needed g n) (format_outcome z s n o).store)
  pub grow_fits : (limited : Bool) (v : Volume) (count : ℕ) (o : Observations) → InDisks v (grow_outcome_of limited v count o)
  pub write_fits : (v : Volume) (x : ℕ) (piece : List ℕ) (o : Observations) → InDisks v (write_outcome v x piece o)
  pub copy_fits : (v : Volume) (x : ℕ) (m : List ℕ) → InDisks v (copy_outcome v x (observe m))
  pub checkpoint_fits : (v : Volume) (o : Observations) → InDisks v (checkpoint_outcome v o)
  pub advance_fits : (v : Volume) (m : List ℕ) → InDisks v (advance_outcome v (observe m))
  -- the numbers of the tables in the documents' order, and cases on the limits; blocks of the largest size are sound
  pub refusal_orders : RefusalOrders
  pub limit_cases : LimitCases
  pub largest_blocks : SoundFacts (new_state 65_536 1 1)
  -- refusals
  pub format_refuses : (z s n : ℕ) (o : Observations) → Refuses (format_table z s n o.byte_count) zeros [] (format_outcome z s n o)
  pub restart_refuses : (o : Observations) → Refuses (restart_table o) zeros [] (restart_outcome o)
  pub sector_refuses : (o : Observations) → Refuses (sector_table o) zeros [] (sector_outcome o)
  pub grow_refuses : (limited : Bool) (v : Volume) (count : ℕ) (o : Observations)
      → Refuses (grow_table_of limited v count o.byte_count) v [] (grow_outcome_of limited v count o)
  pub write_refuses : (v : Volume) (x : ℕ) (piece : List ℕ) (o : Observations)
      → Refuses (write_table v x (length piece) o.byte_count) v piece (write_outcome v x piece o)
  pub read_refuses : (v : Volume) (x : ℕ) (piece : List ℕ) (o : Observations)
      → Refuses (read_table v x (length piece) o.byte_count) v piece (read_outcome v x piece o)
  pub copy_refuses : (v : Volume) (x : ℕ) (o : Observations) → Refuses (copy_table v x o.byte_count) v [] (copy_outcome v x o)
  pub checkpoint_refuses : (v : Volume) (o : Observations) → Refuses (checkpoint_table v o.byte_count) v [] (checkpoint_outcome v o)
  pub advance_refuses : (v : Volume) (o : Observations) → Refuses (advance_table v o.byte_count) v [] (advance_outcome v o)
  pub flushed_refuses : (v : Volume) → Refuses (flushed_table v) v [] (flushed_outcome v)
  -- the two grows
  pub grow_cases : GrowCases
  pub grows : (v : Volume) (count : ℕ) (o : Observations) → TwoGrows v count o
  pub address_refuses : (v : Volume) (x : ℕ) → AddressRefuses v x
  pub holder_refuses : (v : Volume) (p : Spot) → HolderRefuses v p
  -- a block that is copied lives at its old spot: one that copy accepts, and the one that advance copies
  pub copy_source : (v : Volume) (x byte_count : ℕ) → refusal (copy_table v x byte_count) ≡ 0
      → live_spot_of (tally_of v) x ≡ source_of (tally_of v) x
  pub advance_source : (v : Volume) (x byte_count : ℕ) → refusal (advance_table v byte_count) ≡ 0 → next_block (tally_of v) ≡ some x
      → live_spot_of (tally_of v) x ≡ source_of (tally_of v) x
  -- while a growth runs, 12's test holds exactly where no copy waits to be recorded
  pub no_copy_waiting : (v : Volume) → sound v ≡ true → v.growing ≢ 0
      → (nothing_to_record v ≡ true → (x : ℕ) → waiting (tally_of v) x ≡ false) × (((x : ℕ) → waiting (tally_of v) x ≡ false) → nothing_to_record v ≡ true)
  -- the parts that advance tells, in cases
  pub parts_told : PartsTold
  -- the part that advance tells of a block is the part that address tells once the copy is recorded, and the next checkpoint records it
  pub part_told_law : (v u : Volume) (o : Observations) (x : Block) (part : Part) (n : ℕ) → (advance_outcome v o).reply.answer ≡ Ok (told.Advanced (Copied x part) n)
      → RecordsCopy v u x.0 → reason_told (address_reply u x.0).answer ≡ MovedBy v.growths part
  pub part_recorded : (v : Volume) (o : Observations) (x : Block) (part : Part) (n : ℕ) → (advance_outcome v o).reply.answer ≡ Ok (told.Advanced (Copied x part) n)
      → RecordsCopy v (checkpointed (with_copy v x.0)) x.0
  -- the reason that address tells is true of the growths that made the live spot
  pub address_reason : (v : Volume) (x : ℕ) → address_number (address_reply v x).answer ≡ 0
      → ReasonTrue v.rows (growths_of (tally_of v) x) x (reason_told (address_reply v x).answer)
  -- and so is the number of growths that moved the block: at most t, and 0 exactly where none did
  pub address_moves : (v : Volume) (x : ℕ) → address_number (address_reply v x).answer ≡ 0
      → (let answer = (address_reply v x).answer in
      MovesTrue v.rows (growths_of (tally_of v) x) x (reason_told answer) (moves_told answer) × (moves_told answer ≤ v.growths))
  -- when a growth under way counts, and what the numbers of all open blocks add up to
  pub live_moves : (v : Volume) → sound v ≡ true → LiveMoves (tally_of v)
  -- address and holder are inverse to each other in every stage of a growth, and after a finished one 15 never occurs
  pub look_ups : (v : Volume) → sound v ≡ true → LookUps (tally_of v)
  pub holder_of_address : (v : Volume) (x : ℕ) → address_number (address_reply v x).answer ≡ 0
      → (let p = spot_told (address_reply v x).answer in (holder_number (holder_reply v p).answer ≡ 0) × (block_told (holder_reply v p).answer ≡ x))
  pub address_of_holder : (v : Volume) (p : Spot) → holder_number (holder_reply v p).answer ≡ 0
      → (let x = block_told (holder_reply v p).answer in (address_number (address_reply v x).answer ≡ 0) × (spot_told (address_reply v x).answer ≡ p))
  pub at_rest_no_15 : (v : Volume) (p : Spot) → v.growing ≡ 0 → holder_number (holder_reply v p).answer ≢ 15
