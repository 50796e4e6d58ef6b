-- `size_holds_law` meets its contract.
use borrow.Author.Tests.{le-leb, lt-leb}
use Rattle.volume.specs.Sound.{size_holds}
use Rattle.volume.proofs.sound.size_holds.Goals as goal

pub returns-then-z-lt-LEAST_SIZE : goal.returns-then-z-lt-LEAST_SIZE
unfolding size_holds
returns-then-z-lt-LEAST_SIZE c = simp (lt-leb _ _ c.if-z-lt-LEAST_SIZE.true)

pub returns-then-z-gt-MOST_SIZE : goal.returns-then-z-gt-MOST_SIZE
unfolding size_holds
returns-then-z-gt-MOST_SIZE c = simp (le-leb _ _ c.if-z-lt-LEAST_SIZE.false, lt-leb _ _ c.if-z-gt-MOST_SIZE.true)

pub returns : goal.returns
unfolding size_holds
returns c = simp (le-leb _ _ c.if-z-lt-LEAST_SIZE.false, le-leb _ _ c.if-z-gt-MOST_SIZE.false)
