-- `checkpoint_told` meets its contract.
use borrow.Author.Tests.{eq-eqb, ne_eqb}
use Rattle.volume.specs.Calls.{checkpoint_told}
use Rattle.volume.proofs.Volume.checkpoint_told.Goals as goal

pub returns-then-self-eq0 : goal.returns-then-self-eq0
unfolding checkpoint_told
returns-then-self-eq0 c = rw (eq-eqb _ _ c.if-self-eq0.true)

pub returns : goal.returns
unfolding checkpoint_told
returns c = rw (ne_eqb _ _ c.if-self-eq0.false)
