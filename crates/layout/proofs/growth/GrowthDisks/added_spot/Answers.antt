-- `added_spot` meets its contract.
use Rattle.layout.specs.Growth.{added_spot}
use Rattle.layout.proofs.growth.GrowthDisks.added_spot.Goals as goal

pub returns : goal.returns
unfolding added_spot
returns c = rw c.added_disk.ensures
