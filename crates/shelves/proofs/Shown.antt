-- `ViewPromise`, from demand 3: a view shows what a read at that place of the list would give.
use Prim.Native.Nat.{ℕ, ◌≤◌}
use mathlib.Core.Path.{◌≡◌, sym, ap, ◌∙◌}
use mathlib.Core.Bool.{true}
use mathlib.Core.List.{List}
use mathlib.Core.Logic.{◌≢◌}
use lib.ListN.{length, replicate, length-replicate}
use Rattle.base.specs.Refusals.{refusal}
use Rattle.medium.specs.Medium.{Observations, observe}
use Rattle.volume.specs.Calls.{Outcome, refused, read_table, read_effect, read_outcome}
use Rattle.volume.specs.States.{disks}
use Rattle.promise.specs.Calls.{read}
use Rattle.promise.specs.Lists.{call_outcome, System, medium_of, memory_of, outcome, is_accepted}
use Rattle.promise.specs.Promise.{system_after}
use Rattle.promise.proofs.FlushedSaves.{read_at_end}
use Rattle.volume.proofs.Accepted.{read_accepted}
use Rattle.volume.proofs.Judged.{accepted_when, accepted_number}
use Rattle.volume.proofs.Theorems.{volume_laws}
use Rattle.shelves.specs.Views.{view_answer, view_number, view_of}
use Rattle.shelves.proofs.Theorems.{view_laws}
use Rattle.shelves.specs.Shown.{first_shelf, second_shelf, ViewPromise}

-- ---- one system

module _ (s : System) (k x : ℕ) (piece : List ℕ) (read_well : is_accepted call_outcome (read x piece) s ≡ true) (n : k ≢ 0) (h : k ≤ disks (memory_of s)) where
  abbrev seen : Observations
  seen = observe (medium_of s)

  -- the read passes its tests
  passes : refusal (read_table (memory_of s) x (length piece) (length (medium_of s))) ≡ 0
  unfolding outcome call_outcome observe
  passes = sym (volume_laws.read_refuses (memory_of s) x piece seen).number_told ∙ accepted_number _ read_well

  whole : length piece ≡ (memory_of s).size
  whole = (read_accepted (memory_of s) x (length piece) (length (medium_of s)) passes).piece_whole

  read_bytes : (outcome call_outcome (read x piece) s).piece ≡ (read_effect (memory_of s) x seen).piece
  unfolding outcome call_outcome read_outcome observe
  read_bytes =
      ap (λ (out : Outcome). out.piece)
      (accepted_when (read_table (memory_of s) x (length piece) (length (medium_of s))) (λ k. refused (memory_of s) k piece) (read_effect (memory_of s) x seen) passes)

  -- and the view shows what it gives
  shown : (view_number (view_answer (memory_of s) (length (first_shelf s k)) (length (second_shelf s k)) k x) ≡ 0)
      × (view_of (memory_of s) (first_shelf s k) (second_shelf s k) k x ≡ (outcome call_outcome (read x piece) s).piece)
  shown = let p = view_laws.of_medium (memory_of s) (medium_of s) k x n h (rw whole at passes) in (p.0, p.1 ∙ sym read_bytes)

pub view_promise : ViewPromise
unfolding system_after
view_promise a ok es l early is_up_law k x n h below =
    let piece : List ℕ = replicate a.size 0 in
    let right = read_at_end a ok es l early is_up_law x piece below (length-replicate a.size 0) in
    let p = shown (system_after call_outcome a es) k x piece right.is_accepted_law n h in
    record { is_accepted_law = p.0; bytes_shown = λ b set. p.1 ∙ right.bytes_read b set }
