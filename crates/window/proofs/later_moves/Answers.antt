-- `later_moves` meets its contract.
use Rattle.std.proofs.Common.{◌+◌, ◌%◌, add-one, arith}
use borrow.Author.Tests.{lt-ltb, le-ltb}
use Rattle.layout.specs.Windows.{later_moves}
use Rattle.layout.proofs.WindowsCode.{whole_most, cut_most}
use Rattle.window.proofs.later_moves.Goals as goal

pub returns-then-whole-w : goal.returns-then-whole-w
unfolding later_moves
returns-then-whole-w c = rw (le-ltb _ _ (rw c.disks-k.ensures at c.if-whole-w.true))

pub overflow_add-result-2 : goal.overflow_add-result-2
overflow_add-result-2 c =
    let a = c.args in
    let g = a.growth.within_limits in
    rw (c.cut_moves.ensures, c.disks-k.ensures)
    (omega (arith, whole_most _ _ g a.s (a.w + 1) c.requires, cut_most _ _ g (a.s % (a.growth.old + a.growth.added))))

pub returns : goal.returns
unfolding later_moves
returns c = rw (c.cut_moves.ensures, c.disks-k.ensures, lt-ltb _ _ (rw c.disks-k.ensures at c.if-whole-w.false), add-one)
