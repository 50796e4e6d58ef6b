-- `first_unmarked` meets its contract.
use Rattle.std.proofs.Common.{sym, arith}
use Rattle.marks.proofs.MarkWords.{Left, unset_left, none_left, lowest_inside, lowest_left}
use Rattle.marks.specs.Words.{marks_of}
use Rattle.marks.proofs.copies.first_unmarked.Goals as goal
use Rattle.marks.proofs.copies.first_unmarked.Goals.{After-unset_marks-left}

unset : (c : After-unset_marks-left)
    → let v = c.args.window in
    Left v.growth.old v.growth.added v.rows v.number (marks_of c.args.marks) c.unset_marks-left.result
unset c = unset_left _ _ _ _ _ _ c.args.window.growth.within_limits (omega arith) c.unset_marks-left.ensures

pub returns-then-left-eq0-clause-none : goal.returns-then-left-eq0-clause-none
returns-then-left-eq0-clause-none c =
    sym (none_left _ _ _ _ _ _ (unset (goal.at.returns-then-left-eq0-clause-none c).After-unset_marks-left) c.if-left-eq0.true)

pub returns-clause-lowest : goal.returns-clause-lowest
returns-clause-lowest c =
    let l = unset (goal.at.returns-clause-lowest c).After-unset_marks-left in
    (lowest_left _ _ _ _ _ _ l c.if-left-eq0.false, lowest_inside _ _ _ _ _ _ l c.if-left-eq0.false)
