-- `geometry` meets its contract.
use mathlib.Core.Path.{refl}
use Rattle.volume.specs.States.{geometry}
use Rattle.volume.proofs.Volume.geometry.Goals as goal

pub returns : goal.returns
unfolding geometry
returns c = refl
