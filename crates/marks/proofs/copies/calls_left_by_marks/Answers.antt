-- `calls_left_by_marks` meets its contract.
use Rattle.std.proofs.Common.{◌+◌, ◌*◌, ◌≤◌, arith}
use Rattle.base.proofs.Counting.{count_most}
use Rattle.layout.specs.Windows.{calls_left_by_marks}
use Rattle.layout.proofs.WindowsCode.{marks_most, windows_most, later_most}
use Rattle.marks.proofs.copies.calls_left_by_marks.Goals as goal
use Rattle.marks.proofs.copies.calls_left_by_marks.Goals.{After-later_moves-later}

most : (c : After-later_moves-later) → c.unmarked-here.result + c.later_moves-later.result ≤ 64_000_320
most c =
    let v = c.args.window in
    let g = v.growth in
    let here : c.unmarked-here.result ≤ g.old * g.added = rw c.unmarked-here.ensures (count_most _ _) in
    let later : c.later_moves-later.result ≤ 64_000_256 = rw c.later_moves-later.ensures (later_most _ _ g.within_limits _ _ c.requires.rows) in
    omega (arith, marks_most _ _ g.within_limits.most)

pub overflow_add-result : goal.overflow_add-result
overflow_add-result c = omega (arith, most (goal.at.overflow_add-result c).After-later_moves-later)

pub overflow_add-result-2 : goal.overflow_add-result-2
overflow_add-result-2 c =
    let v = c.args.window in
    let m = most (goal.at.overflow_add-result-2 c).After-later_moves-later in
    omega (arith, m, c.window_count-all.ensures, windows_most v.growth.old v.growth.added v.rows v.growth.within_limits.added, c.requires.rows)

pub returns : goal.returns
unfolding calls_left_by_marks
returns c = rw (c.later_moves-later.ensures, c.unmarked-here.ensures, c.window_count-all.ensures)
