-- `new_state` meets its contract.
use mathlib.Core.Path.{refl}
use Rattle.volume.specs.States.{new_state, none_pending}
use Rattle.volume.proofs.Volume.new_state.Goals as goal

pub returns : goal.returns
unfolding new_state none_pending
returns c = refl
