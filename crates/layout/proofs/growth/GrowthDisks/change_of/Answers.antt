-- `change_of` meets its contract.
use Rattle.std.proofs.Common.{le-ltb, lt-ltb}
use Rattle.layout.specs.Growth.{change_of}
use Rattle.layout.proofs.growth.GrowthDisks.change_of.Goals as goal

pub returns-then-self-s : goal.returns-then-self-s
unfolding change_of
returns-then-self-s c = rw (le-ltb _ _ c.if-self-s.true)

pub returns : goal.returns
unfolding change_of
returns c = rw (lt-ltb _ _ c.if-self-s.false, c.old_change.ensures)
