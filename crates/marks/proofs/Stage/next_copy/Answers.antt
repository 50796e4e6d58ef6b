-- `Stage::next_copy` meets its contract.
use Rattle.std.proofs.Common.{sym, ◌∙◌}
use Rattle.marks.specs.Words.{marks_of}
use Rattle.marks.proofs.CopiesCode.{read_window, NextMark, none_told, next_mark, next_small, next_within, next_told}
use Rattle.marks.proofs.Stage.next_copy.Goals as goal
use Rattle.marks.proofs.Stage.next_copy.Goals.{In_ok-mark}

pub returns-in_err-mark : goal.returns-in_err-mark
returns-in_err-mark c =
    let h = c.args.h in
    let e = c.window_now-window.ensures in
    let r = read_window h.counts.now c.window_now-window.result h.within_limits c.requires.grown e.old e.added e.rows e.number in
    c.from_residual.ensures ∙ none_told r _ c.in_err-mark.ensures.none

-- the mark that is not set
found : (c : In_ok-mark)
    → let h = c.args.h in
    NextMark h.rows h.growths h.counts.now c.args.self.window c.window_now-window.result (marks_of c.args.self.copied) c.in_ok-mark.mark
found c =
    let h = c.args.h in
    let e = c.window_now-window.ensures in
    let r = read_window h.counts.now c.window_now-window.result h.within_limits c.requires.grown e.old e.added e.rows e.number in
    next_mark r _ _ c.in_ok-mark.ensures.lowest

pub spot_of_mark-from-requires : goal.spot_of_mark-from-requires
spot_of_mark-from-requires c = next_small (found c)

pub block_at-requires : goal.block_at-requires
block_at-requires c =
    let e = c.earlier.ensures in
    rw (e.counts, e.growths, e.rows) (next_within (found (goal.at.block_at-requires c).In_ok-mark) _ c.spot_of_mark-from.ensures)

pub returns : goal.returns
returns c =
    let e = c.earlier.ensures in
    sym (next_told (found (goal.at.returns c).In_ok-mark) _ c.spot_of_mark-from.ensures _ _ (rw (e.counts, e.growths, e.rows) at c.block_at.ensures)
    (c.part_of.ensures ∙ rw c.row_in_window.ensures))
