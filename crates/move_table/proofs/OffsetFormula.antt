-- The offset without a sum: one computed test over all pairs.
use Prim.Native.Nat.{ℕ, suc}
use mathlib.Core.Path.{◌≡◌, refl}
use mathlib.Core.Bool.{Bool, true}
use native.Mathlib.Omega.{arith}
use lib.Dec.{eqb}
use borrow.Author.Tests.{eqb-true}
use Rattle.base.specs.Below.{every, sum}
use Rattle.base.proofs.Counting.{every_use}
use Rattle.layout.specs.Limits.{Grows, most_disks}
use Rattle.move_table.specs.Entries.{marks_of_sum, offset, offset_formula}
use Rattle.move_table.specs.Tables.{IsMark}

same_start : (m n : ℕ) → Bool
same_start m n = eqb (offset m n 0) (offset_formula m n 0)

formula_computed : every (λ m. every (same_start m) (suc most_disks)) (suc most_disks) ≡ true
unfolding every same_start offset offset_formula sum marks_of_sum
formula_computed = refl

pub formula_start : (m n : ℕ) → Grows m n → offset m n 0 ≡ offset_formula m n 0
unfolding same_start
formula_start m n g =
    eqb-true (offset m n 0) (offset_formula m n 0)
    (every_use (same_start m) (suc most_disks)
    (every_use (λ m. every (same_start m) (suc most_disks)) (suc most_disks) formula_computed m (omega (arith, g.most, g.added)))
    n (omega (arith, g.most)))

pub formula_law : (m n j : ℕ) → IsMark m n j → offset m n j ≡ offset_formula m n j
unfolding offset offset_formula
formula_law m n j h = omega (arith, formula_start m n h.pair)
