-- `added_index` meets its contract.
use Rattle.std.proofs.Common.{◌∙◌, arith}
use Rattle.layout.proofs.GrowthCode.{index_short, index_long}
use Rattle.layout.proofs.growth.GrowthDisks.added_index.Goals as goal
use Rattle.layout.proofs.growth.GrowthDisks.added_index.Goals.{Start}

pub returns-then-up-b1 : goal.returns-then-up-b1
returns-then-up-b1 c = index_short _ _ _ _ _ c.disks-k.ensures (omega arith) (omega arith) c.if-up-b1.true

pub returns : goal.returns
returns c = c.reduce_once.ensures ∙ index_long _ _ _ _ _ c.disks-k.ensures (omega arith) (omega arith) c.if-up-b1.false
