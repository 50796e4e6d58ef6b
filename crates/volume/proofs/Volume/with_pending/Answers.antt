-- `with_pending` meets its contract.
use mathlib.Core.Path.{refl}
use Rattle.volume.specs.States.{with_pending}
use Rattle.volume.proofs.Volume.with_pending.Goals as goal

pub returns : goal.returns
unfolding with_pending
returns c = refl
