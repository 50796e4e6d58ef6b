-- `moving_marks` meets its contract.
use Rattle.std.proofs.Common.{arith}
use Rattle.layout.proofs.WindowsCode.{marks_most}
use Rattle.marks.proofs.MarkWords.{whole_word, cut_word}
use Rattle.marks.proofs.words.moving_marks.Goals as goal

pub overflow_sub-result : goal.overflow_sub-result
overflow_sub-result c = let g = c.args.window.growth in omega (arith, marks_most _ _ g.within_limits.most)

pub returns-then-window-k : goal.returns-then-window-k
returns-then-window-k c =
    let g = c.args.window.growth in
    whole_word _ _ _ _ g.within_limits.added (marks_most _ _ g.within_limits.most) (rw c.disks-k.ensures at c.if-window-k.true)

pub returns : goal.returns
returns c = cut_word _ _ _ _ _ c.cut_marks.ensures
