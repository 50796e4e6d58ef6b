-- What the code of format and grow needs, and the replies of calls that store.
use Prim.Native.Nat.{ℕ, ◌≤◌, ◌<◌, ◌^◌}
use mathlib.Core.Path.{◌≡◌, ◌∙◌}
use mathlib.Core.Bool.{true}
use mathlib.Core.List.{List}
use native.Mathlib.Omega.{arith}
use Rattle.std.specs.Prelude.{Ok}
use Rattle.layout.specs.Limits.{most_disks, most_rows}
use Rattle.layout.specs.Tally.{calls_left_of}
use Rattle.medium.specs.declared.Geometry.{Geometry}
use Rattle.medium.specs.Medium.{bytes_needed, Store, record_store, apply}
use Rattle.volume.specs.declared.Advanced.{Advanced}
use Rattle.volume.specs.declared.Reply.{Reply}
use Rattle.volume.specs.declared.Told.{Told}
use Rattle.volume.specs.declared.Told.TheVariants as told
use Rattle.volume.specs.declared.Volume.{Volume}
use Rattle.volume.specs.Calls.{doing, reporting, telling}
use Rattle.volume.specs.Records.{numbers_of, record_of}
use Rattle.volume.specs.Sound.{size_holds, rows_hold, disks_hold, sound}
use Rattle.volume.specs.States.{geometry, history_of, disks, tally_of, with_pending, pending_with, after_store}
use Rattle.volume.proofs.ByteBounds.{bytes_bound}
use Rattle.volume.proofs.StatesSound.{pending_sound}
use Rattle.volume.proofs.SoundLaws.{size_facts, from_one, sound_facts}

-- what is within the limits needs bytes that do not wrap
pub bytes_within : (z s n : ℕ) → size_holds z ≡ true → rows_hold s ≡ true → disks_hold n ≡ true
    → (0 < z) × (bytes_needed (record { size = z; rows = s }) n < 2 ^ 64)
unfolding rows_hold disks_hold
bytes_within z s n a b d =
    let f = size_facts z a in
    (omega (arith, f.least), bytes_bound (record { size = z; rows = s }) n f.most (from_one s most_rows b).1 (from_one n most_disks d).1)

-- a sound state has no more disks than may be
pub disks_most : (v : Volume) → sound v ≡ true → disks v ≤ most_disks
unfolding disks
disks_most v e = (sound_facts v e).limits.disks_most

-- storing a record does not look at blocks and rows
pub record_stored : (w v : Volume) (g : Geometry) (m after : List ℕ) → w ≡ v → after ≡ apply (geometry w) (record_store (record_of w)) m
    → after ≡ apply g (record_store (record_of v)) m
unfolding apply
record_stored w v g m after same made = rw same at made

-- ---- what is handed back after a store: the state w that the call came to, with the store pending

module _ (v w u : Volume) (store : Store) (n : w ≡ v) (m : u ≡ with_pending w (pending_with w.pending store)) where
  pub state_after : u ≡ after_store v store
  state_after = rw n at m

  -- what is pending is no part of the record
  pub pending_stored : (g : Geometry) (before after : List ℕ) → after ≡ apply (geometry u) (record_store (record_of u)) before
      → after ≡ apply g (record_store (record_of v)) before
  unfolding apply record_of numbers_of with_pending
  pending_stored g before after made = rw state_after at made

  -- nor of soundness
  pub sound_after : sound v ≡ true → sound u ≡ true
  sound_after e = rw state_after (pending_sound v (pending_with v.pending store) ∙ e)

  module _ (q : Reply Told) where
    pub done_made : (piece : List ℕ) → q ≡ record { state = u; answer = Ok told.Done } → q ≡ (doing v store piece).reply
    unfolding doing
    done_made piece made = rw state_after at made

    pub report_made : q ≡ record { state = u; answer = Ok (told.CallsLeft (calls_left_of (tally_of u))) } → q ≡ (reporting v store).reply
    unfolding reporting tally_of with_pending history_of
    report_made made = rw state_after at made

    pub tell_made : (did : Advanced) → q ≡ record { state = u; answer = Ok (told.Advanced did (calls_left_of (tally_of u))) }
        → q ≡ (telling v did store).reply
    unfolding telling tally_of with_pending history_of
    tell_made did made = rw state_after at made
