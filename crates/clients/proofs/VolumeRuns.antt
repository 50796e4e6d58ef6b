-- Two runs on the volume's own events, without the calls that 21 refuses: how they agree. The client's blocks are those that pass `mine`.
use Prim.Native.Nat.{ℕ}
use mathlib.Core.Path.{◌≡◌}
use mathlib.Core.Bool.{Bool, true, false}
use mathlib.Core.List.{List, [], ◌∷◌, ◌++◌}
use mathlib.Core.Option.{Option}
use Rattle.medium.specs.Medium.{AfterCut}
use Rattle.promise.specs.Calls.{Call, grow, grow_beyond_doubling, copy, checkpoint, advance, write, read, restart, flushed}
use Rattle.promise.specs.Lists.{Event, runs, cut, cut_left}

-- the calls on which the two runs agree: the rack's and the client's
pub data Shared (mine : ℕ → Bool) : Call → Type 0 where
  a_grow : {count : ℕ} → Shared mine (grow count)
  a_grow_beyond : {count : ℕ} → Shared mine (grow_beyond_doubling count)
  a_copy : {x : ℕ} → Shared mine (copy x)
  a_checkpoint : Shared mine checkpoint
  an_advance : Shared mine advance
  a_restart : Shared mine restart
  a_flushed : Shared mine flushed
  own_read : {x : ℕ} {piece : List ℕ} → mine x ≡ true → Shared mine (read x piece)
  own_write : {x : ℕ} {piece : List ℕ} → mine x ≡ true → Shared mine (write x piece)

-- the other's write, or none, in one run alone
pub data OtherWrite (mine : ℕ → Bool) : List Event → Type 0 where
  no_write : OtherWrite mine []
  a_write : {x : ℕ} {piece : List ℕ} → mine x ≡ false → OtherWrite mine (runs (write x piece) ∷ [])

-- cuts in the same calls, which leave the same record; a flushed, which stands in both runs, directly after every write of the other's; the
-- client's own need none
pub data Agree (mine : ℕ → Bool) : List Event → List Event → Type 0 where
  no_event : Agree mine [] []
  both_call : {es fs : List Event} (c : Call) → Shared mine c → Agree mine es fs → Agree mine (runs c ∷ es) (runs c ∷ fs)
  both_cut : {es fs : List Event} (c : Option Call) (left other : List AfterCut) → cut_left left ≡ cut_left other → Agree mine es fs
      → Agree mine (cut c left ∷ es) (cut c other ∷ fs)
  both_flushed : {es fs : List Event} (ws us : List Event) → OtherWrite mine ws → OtherWrite mine us → Agree mine es fs
      → Agree mine (ws ++ (runs flushed ∷ es)) (us ++ (runs flushed ∷ fs))
  first_reads : {es fs : List Event} (x : ℕ) (piece : List ℕ) → mine x ≡ false → Agree mine es fs → Agree mine (runs (read x piece) ∷ es) fs
  second_reads : {es fs : List Event} (x : ℕ) (piece : List ℕ) → mine x ≡ false → Agree mine es fs → Agree mine es (runs (read x piece) ∷ fs)
