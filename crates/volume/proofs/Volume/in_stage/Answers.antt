-- `in_stage` meets its contract.
use mathlib.Core.Path.{refl}
use Rattle.volume.specs.States.{with_growth}
use Rattle.volume.proofs.Volume.in_stage.Goals as goal

pub returns : goal.returns
unfolding with_growth
returns c = refl
