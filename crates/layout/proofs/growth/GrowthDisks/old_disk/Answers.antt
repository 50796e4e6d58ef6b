-- `old_disk` meets its contract.
use Rattle.std.proofs.Common.{sym, ◌∙◌, arith, le-leb}
use borrow.Author.Tests.{lt-leb}
use Rattle.layout.specs.declared.Part.TheVariants.{Body, Tail}
use Rattle.layout.specs.Growth.{old_disk}
use Rattle.layout.proofs.GrowthCode.{past_head}
use Rattle.layout.proofs.growth.GrowthDisks.old_disk.Goals as goal

pub overflow_sub-result-in-Tail : goal.overflow_sub-result-in-Tail
overflow_sub-result-in-Tail c = omega (arith, past_head _ _ _ Tail (sym c.in-Tail.is ∙ c.part_of.ensures) (omega arith) (omega arith))

pub overflow_sub-result-else-old-added-3 : goal.overflow_sub-result-else-old-added-3
overflow_sub-result-else-old-added-3 c =
    omega (arith, past_head _ _ _ Body (sym c.in-Body.is ∙ c.part_of.ensures) (omega arith) (omega arith) c.if-old-added.false)

pub returns-in-Head : goal.returns-in-Head
unfolding old_disk
returns-in-Head c = rw (← c.part_of.ensures, c.in-Head.is)

pub returns-in-Tail : goal.returns-in-Tail
unfolding old_disk
returns-in-Tail c = rw (← c.part_of.ensures, c.in-Tail.is)

pub returns-then-old-added : goal.returns-then-old-added
unfolding old_disk
returns-then-old-added c = rw (← c.part_of.ensures, c.in-Body.is, lt-leb _ _ c.if-old-added.true)

pub returns-else-old-added : goal.returns-else-old-added
unfolding old_disk
returns-else-old-added c = rw (← c.part_of.ensures, c.in-Body.is, le-leb _ _ c.if-old-added.false)
