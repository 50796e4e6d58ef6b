-- `part_of` meets its contract.
use Rattle.std.proofs.Common.{le-leb}
use borrow.Author.Tests.{lt-leb}
use Rattle.layout.specs.Growth.{part_of}
use Rattle.layout.proofs.growth.GrowthDisks.part_of.Goals as goal

pub returns-then-b1-added : goal.returns-then-b1-added
unfolding part_of
returns-then-b1-added c = rw (le-leb _ _ c.if-added-old.true, le-leb _ _ c.if-b1-added.true)

pub returns-then-old-b1 : goal.returns-then-old-b1
unfolding part_of
returns-then-old-b1 c = rw (le-leb _ _ c.if-added-old.true, lt-leb _ _ c.if-b1-added.false, le-leb _ _ c.if-old-b1.true)

pub returns-then-added-old : goal.returns-then-added-old
unfolding part_of
returns-then-added-old c = rw (le-leb _ _ c.if-added-old.true, lt-leb _ _ c.if-b1-added.false, lt-leb _ _ c.if-old-b1.false)

pub returns-then-b1-old : goal.returns-then-b1-old
unfolding part_of
returns-then-b1-old c = rw (lt-leb _ _ c.if-added-old.false, le-leb _ _ c.if-b1-old.true)

pub returns-then-added-b1 : goal.returns-then-added-b1
unfolding part_of
returns-then-added-b1 c = rw (lt-leb _ _ c.if-added-old.false, lt-leb _ _ c.if-b1-old.false, le-leb _ _ c.if-added-b1.true)

pub returns : goal.returns
unfolding part_of
returns c = rw (lt-leb _ _ c.if-added-old.false, lt-leb _ _ c.if-b1-old.false, lt-leb _ _ c.if-added-b1.false)
