-- `row_exists` meets its contract.
use Prim.Native.Nat.{ℕ, ◌+◌, ◌*◌, ◌/◌, ◌%◌, ◌≤◌, ◌<◌}
use mathlib.Core.Path.{◌≡◌, sym}
use mathlib.Core.Bool.{true}
use native.Mathlib.Nat.{div-add-mod', le-mul_of_pos_right}
use native.Mathlib.Omega.{arith}
use borrow.Author.Tests.{lt-ltb}
use Rattle.layout.specs.Windows.{spot_of_mark, row_exists}
use Rattle.window.proofs.Window.row_exists.Goals as goal

-- mark j is at most j rows into its window
rows_in : (n j : ℕ) → 0 < n → j / n + j % n ≤ j
rows_in n j h = omega (arith, div-add-mod' j n, le-mul_of_pos_right (j / n) h)

far_from_end : (m n s w j k : ℕ) → k ≡ m + n → 0 < n → j < 64 → w * k + 64 ≤ s → true ≡ row_exists m n s w j
unfolding row_exists spot_of_mark
far_from_end m n s w j k e h i l = sym (lt-ltb _ s (omega (arith, rows_in n j h, rw e at l)))

pub returns-then-start-self : goal.returns-then-start-self
returns-then-start-self c = far_from_end _ _ _ _ _ _ c.disks.ensures (omega arith) c.requires c.if-start-self.true

pub returns : goal.returns
unfolding row_exists spot_of_mark
returns c = rw c.disks.ensures
