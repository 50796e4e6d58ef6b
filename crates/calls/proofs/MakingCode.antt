-- What `make` needs: a write leaves its piece, and a medium to which nothing is stored is as it was.
use Prim.Native.Nat.{ℕ}
use mathlib.Core.Path.{◌≡◌, refl}
use mathlib.Core.List.{List}
use lib.ListN.{length}
use Rattle.medium.specs.declared.Geometry.{Geometry}
use Rattle.medium.specs.Medium.{Observations, Store, no_store, apply}
use Rattle.volume.specs.declared.Volume.{Volume}
use Rattle.volume.specs.Calls.{Outcome, refused, doing, write_table, write_effect, write_outcome}
use Rattle.volume.proofs.Judged.{judged_cases}

pub write_piece : (v : Volume) (x : ℕ) (piece : List ℕ) (o : Observations) → piece ≡ (write_outcome v x piece o).piece
unfolding write_outcome write_effect doing refused
write_piece v x piece o =
    judged_cases (λ (out : Outcome). piece ≡ out.piece) (write_table v x (length piece) o.byte_count) (λ k. refused v k piece) _ (λ _. refl)
    (λ _. refl)

-- a medium to which nothing is stored
pub stored_nothing : (g : Geometry) (store : Store) (m : List ℕ) → store ≡ no_store → m ≡ apply g store m
unfolding apply
stored_nothing g store m e = rw e
