-- `Stage::is_waiting` meets its contract.
use Rattle.marks.proofs.BlocksCode.{waiting_told}
use Rattle.marks.proofs.Stage.is_waiting.Goals as goal

pub returns : goal.returns
returns c = waiting_told _ _ _ _ _ _ c.args.growth.within_limits c.requires _ c.without.ensures _ c.is_marked.ensures
