-- `old_block_spot` meets its contract.
use Rattle.layout.specs.Growth.{old_block_spot}
use Rattle.layout.proofs.growth.GrowthDisks.old_block_spot.Goals as goal

pub returns : goal.returns
unfolding old_block_spot
returns c = rw c.disk_after.ensures
