-- `new_disk` meets its contract.
use Rattle.std.proofs.Common.{le-leb}
use borrow.Author.Tests.{lt-leb}
use Rattle.layout.specs.Growth.{new_disk}
use Rattle.layout.proofs.growth.GrowthDisks.new_disk.Goals as goal

pub returns-in-Head : goal.returns-in-Head
unfolding new_disk
returns-in-Head c = rw (← c.part_of.ensures, c.in-Head.is)

pub returns-in-Tail : goal.returns-in-Tail
unfolding new_disk
returns-in-Tail c = rw (← c.part_of.ensures, c.in-Tail.is)

pub returns-then-added-old : goal.returns-then-added-old
unfolding new_disk
returns-then-added-old c = rw (← c.part_of.ensures, c.in-Body.is, le-leb _ _ c.if-added-old.true)

pub returns-else-added-old : goal.returns-else-added-old
unfolding new_disk
returns-else-added-old c = rw (← c.part_of.ensures, c.in-Body.is, lt-leb _ _ c.if-added-old.false)
