-- What calls store lies in the bytes of the disks, and so in the medium.
use Prim.Native.Nat.{ℕ, ◌≤◌}
use mathlib.Core.Path.{◌≡◌, refl}
use mathlib.Core.Bool.{Bool, true}
use mathlib.Core.List.{List, []}
use mathlib.Core.Logic.{◌≢◌}
use mathlib.Core.Option.{Option, none, some}
use native.Mathlib.Omega.{arith}
use lib.ListN.{length, length-take, length-drop}
use Rattle.base.specs.Refusals.{refusal}
use Rattle.layout.specs.declared.Spot.{Spot}
use Rattle.layout.specs.History.{spot_of}
use Rattle.layout.specs.Tally.{moves_now, source_of, target_of, next_block}
use Rattle.layout.proofs.NextBlocks.{moving_in_old}
use Rattle.layout.proofs.Theorems.{old_among, spots_and_blocks}
use Rattle.medium.specs.declared.Geometry.{Geometry}
use Rattle.medium.specs.Medium.{bytes_needed, Observations, observe, Store, record_store, Inside, StoreFits}
use Rattle.medium.proofs.Theorems.{medium_laws}
use Rattle.volume.specs.declared.Volume.{Volume}
use Rattle.volume.specs.Laws.{InDisks}
use Rattle.volume.specs.Calls.{Outcome, refused, reporting, telling, judged, doing, format_effect, grow_effect, write_effect, copy_effect, checkpoint_effect, advance_effect, format_table, format_outcome, grow_table_of, grow_outcome_of, write_table, write_outcome, copy_table, copy_store, copy_outcome, checkpoint_table, checkpoint_store, checkpoint_outcome, advance_table, advancing, advance_outcome}
use Rattle.volume.specs.Records.{record_of}
use Rattle.volume.specs.Sound.{sound}
use Rattle.volume.specs.States.{geometry, history_of, disks, tally_of, new_state, zeros, grown, checkpointed}
use Rattle.volume.proofs.Accepted.{AdvanceFacts, CopyFacts, format_accepted, grow_accepted, write_accepted, copy_accepted, checkpoint_accepted, advance_accepted}
use Rattle.volume.proofs.ByteBounds.{bytes_more, record_room}
use Rattle.volume.proofs.CopyLaws.{next_facts, lives_at_source}
use Rattle.volume.proofs.Judged.{judged_cases}
use Rattle.volume.proofs.LookUpLaws.{live_inside}
use Rattle.volume.proofs.RecordLaws.{record_length}
use Rattle.volume.proofs.SoundLaws.{sound_facts, some_old}

record_fits : (g : Geometry) (n : ℕ) (v : Volume) → StoreFits g (bytes_needed g n) (record_store (record_of v))
unfolding StoreFits
record_fits g n v = (record_length v, record_room g n (bytes_needed g n) (omega arith))

-- a store in the bytes of n disks and in len bytes
abbrev pub Fits : (g : Geometry) (n len : ℕ) (store : Store) → Type 0
Fits g n len store = StoreFits g (bytes_needed g n) store × StoreFits g len store

-- a refused call stores nothing, and one that is accepted has the bytes of the disks
judged_fits : (g : Geometry) (n len : ℕ) (table : List (ℕ × Bool)) (v : Volume) (piece : List ℕ) (accepted : Outcome)
    → (refusal table ≡ 0 → StoreFits g (bytes_needed g n) accepted.store × (bytes_needed g n ≤ len))
    → Fits g n len (judged table (λ k. refused v k piece) accepted).store
unfolding refused StoreFits
judged_fits g n len table v piece accepted f =
    judged_cases (λ (out : Outcome). Fits g n len out.store) table (λ k. refused v k piece) accepted
    (λ e. let h = f e in (h.0, medium_laws.fits_longer g (bytes_needed g n) len accepted.store h.1 h.0))
    (λ _. (tt, tt))

pub format_fits : (z s n : ℕ) (o : Observations) → Fits (record { size = z; rows = s }) n o.byte_count (format_outcome z s n o).store
unfolding format_outcome format_effect doing
format_fits z s n o =
    judged_fits (record { size = z; rows = s }) n o.byte_count (format_table z s n o.byte_count) zeros [] _
    (λ e. (record_fits (record { size = z; rows = s }) n (new_state z s n), (format_accepted z s n o.byte_count e).room))

-- of the other calls
abbrev pub FitsDisks : (v : Volume) (o : Observations) (out : Outcome) → Type 0
FitsDisks v o out = Fits (geometry v) (disks v) o.byte_count out.store

growth_fits : (v : Volume) (count : ℕ) → InDisks v (grow_effect v count)
unfolding grow_effect reporting
growth_fits v count = record_fits (geometry v) (disks v) (grown v count)

pub grow_fits : (limited : Bool) (v : Volume) (count : ℕ) (o : Observations) → FitsDisks v o (grow_outcome_of limited v count o)
unfolding grow_outcome_of
grow_fits limited v count o =
    judged_fits (geometry v) (disks v) o.byte_count (grow_table_of limited v count o.byte_count) v [] (grow_effect v count)
    (λ e.
    let f = grow_accepted limited v count o.byte_count e in
    let fewer = bytes_more (geometry v) (disks v) count (omega (arith, f.may.more_disks)) in
    (growth_fits v count, omega (arith, f.room, fewer)))

pub write_fits : (v : Volume) (x : ℕ) (piece : List ℕ) (o : Observations) → FitsDisks v o (write_outcome v x piece o)
unfolding write_outcome write_effect doing StoreFits geometry
write_fits v x piece o =
    judged_fits (geometry v) (disks v) o.byte_count (write_table v x (length piece) o.byte_count) v piece _
    (λ e.
    let f = (write_accepted v x (length piece) o.byte_count e).0 in
    ((live_inside v x _ f.is_sound f.block_open (omega arith), f.piece_whole), f.room))

-- ---- copy, checkpoint and advance

-- the spot that a copy is stored to
pub copy_inside : (v : Volume) (x len : ℕ) → sound v ≡ true → v.growing ≢ 0 → moves_now (tally_of v) x ≡ true
    → bytes_needed (geometry v) (disks v) ≤ len → Inside (geometry v) len (target_of (tally_of v) x)
unfolding moves_now target_of tally_of geometry disks
copy_inside v x len e runs m room =
    let s = v.rows in
    let h = history_of v in
    let r = (sound_facts v e).limits.rise in
    let q = moving_in_old s h v.window x m in
    let w = (spots_and_blocks s h r).spot_within x (omega (arith, q, old_among s h r (some_old v e runs))) in
    let i = medium_laws.inside (geometry v) (disks v) (spot_of s h x) w.disk w.row in
    record { row = i.row; fits = omega (arith, i.fits) }

-- the one that it is taken from, where the block lives
pub source_inside : (v : Volume) (x len : ℕ) → CopyFacts v x len → Inside (geometry v) len (source_of (tally_of v) x)
source_inside v x len f =
    let a = f.advances in
    rw (lives_at_source v x len f) at (live_inside v x len a.is_sound f.block_open a.room)

-- a spot in the medium has a block's bytes
pub record Sized (g : Geometry) (o : Observations) : Type 0 where
  pub bytes_whole : (p : Spot) → Inside g o.byte_count p → length (o.bytes_at g p) ≡ g.size

pub sized : (g : Geometry) (m : List ℕ) → Sized g (observe m)
unfolding observe
sized g m = record { bytes_whole = λ p i. simp (length-take, length-drop) (omega (arith, i.fits)) }

-- what a copy stores, and a checkpoint
copied_fits : (v : Volume) (x : ℕ) (o : Observations) → Sized (geometry v) o → CopyFacts v x o.byte_count
    → StoreFits (geometry v) (bytes_needed (geometry v) (disks v)) (copy_store v x o)
unfolding copy_store StoreFits
copied_fits v x o s f =
    let a = f.advances in (
      copy_inside v x _ a.is_sound a.is_growing f.moves (omega arith),
      s.bytes_whole (source_of (tally_of v) x) (source_inside v x o.byte_count f),
    )

recorded_fits : (v : Volume) → StoreFits (geometry v) (bytes_needed (geometry v) (disks v)) (checkpoint_store v)
unfolding checkpoint_store
recorded_fits v = record_fits (geometry v) (disks v) (checkpointed v)

pub copy_fits : (v : Volume) (x : ℕ) (o : Observations) → Sized (geometry v) o → FitsDisks v o (copy_outcome v x o)
unfolding copy_outcome copy_effect reporting
copy_fits v x o s =
    judged_fits (geometry v) (disks v) o.byte_count (copy_table v x o.byte_count) v [] _
    (λ e. let f = (copy_accepted v x o.byte_count e).0 in (copied_fits v x o s f, f.advances.room))

pub checkpoint_fits : (v : Volume) (o : Observations) → FitsDisks v o (checkpoint_outcome v o)
unfolding checkpoint_outcome checkpoint_effect reporting
checkpoint_fits v o =
    judged_fits (geometry v) (disks v) o.byte_count (checkpoint_table v o.byte_count) v [] _
    (λ e. (recorded_fits v, (checkpoint_accepted v o.byte_count e).0.room))

advancing_fits : (v : Volume) (o : Observations) → Sized (geometry v) o → AdvanceFacts v o.byte_count → (next : Option ℕ) → next_block (tally_of v) ≡ next
    → StoreFits (geometry v) (bytes_needed (geometry v) (disks v)) (advancing v next o).store
unfolding advancing telling
advancing_fits v o s f none e = recorded_fits v
advancing_fits v o s f (some x) e = copied_fits v x o s (next_facts v x o.byte_count f e)

pub advance_fits : (v : Volume) (o : Observations) → Sized (geometry v) o → FitsDisks v o (advance_outcome v o)
unfolding advance_outcome advance_effect
advance_fits v o s =
    judged_fits (geometry v) (disks v) o.byte_count (advance_table v o.byte_count) v [] (advancing v (next_block (tally_of v)) o)
    (λ e. let f = (advance_accepted v o.byte_count e).0 in (advancing_fits v o s f (next_block (tally_of v)) refl, f.room))
