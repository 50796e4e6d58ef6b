-- `with_mark` meets its contract.
use Rattle.volume.specs.States.{with_growth}
use Rattle.volume.proofs.Volume.with_mark.Goals as goal

pub returns : goal.returns
unfolding with_growth
returns c = rw c.with_mark.ensures
