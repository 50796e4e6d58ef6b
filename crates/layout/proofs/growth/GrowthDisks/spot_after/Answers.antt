-- `spot_after` meets its contract.
use Rattle.std.proofs.Common.{le-ltb, lt-ltb}
use Rattle.layout.specs.Growth.{spot_after}
use Rattle.layout.proofs.growth.GrowthDisks.spot_after.Goals as goal

pub returns-then-x-old_blocks : goal.returns-then-x-old_blocks
unfolding spot_after
returns-then-x-old_blocks c = rw (lt-ltb _ _ c.if-x-old_blocks.true, c.old_block_spot.ensures)

pub returns : goal.returns
unfolding spot_after
returns c = rw (le-ltb _ _ c.if-x-old_blocks.false, c.added_spot.ensures)
