-- `zeros` meets its contract.
use Rattle.volume.specs.States.{zeros}
use Rattle.volume.proofs.Volume.zeros.Goals as goal

pub returns : goal.returns
unfolding zeros
returns c = c.new_state.ensures
