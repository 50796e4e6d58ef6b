-- `Stage::window_now` meets its contract.
use Rattle.layout.proofs.HistoryCode.{newest_old}
use Rattle.marks.proofs.CopiesCode.{window_most}
use Rattle.marks.proofs.Stage.window_now.Goals as goal

pub invariant_of-result : goal.invariant_of-result
invariant_of-result c =
    let h = c.args.h in
    let a = h.within_limits in
    record { number_most = window_most _ _ _ a (newest_old _ _ _ c.requires.grown a) c.requires.window }
