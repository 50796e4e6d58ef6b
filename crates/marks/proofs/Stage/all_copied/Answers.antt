-- `Stage::all_copied` meets its contract.
use Rattle.marks.proofs.CopiesCode.{read_window, all_told}
use Rattle.marks.proofs.Stage.all_copied.Goals as goal

pub returns : goal.returns
returns c =
    let h = c.args.h in
    let e = c.window_now.ensures in
    let r = read_window h.counts.now c.window_now.result h.within_limits c.requires.grown e.old e.added e.rows e.number in
    all_told r _ _ _ c.moving_marks.ensures c.is_within.ensures
