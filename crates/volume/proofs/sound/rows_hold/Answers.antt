-- `rows_hold` meets its contract.
use borrow.Author.Tests.{le-leb, lt-leb}
use Rattle.volume.specs.Sound.{rows_hold}
use Rattle.volume.proofs.sound.rows_hold.Goals as goal

pub returns-then-s-lt-LEAST_ROWS : goal.returns-then-s-lt-LEAST_ROWS
unfolding rows_hold
returns-then-s-lt-LEAST_ROWS c = simp (lt-leb _ _ c.if-s-lt-LEAST_ROWS.true)

pub returns : goal.returns
unfolding rows_hold
returns c = simp (le-leb _ _ c.if-s-lt-LEAST_ROWS.false)
