-- `with_growth` meets its contract.
use mathlib.Core.Path.{refl}
use Rattle.volume.specs.States.{with_growth}
use Rattle.volume.proofs.Volume.with_growth.Goals as goal

pub returns : goal.returns
unfolding with_growth
returns c = refl
