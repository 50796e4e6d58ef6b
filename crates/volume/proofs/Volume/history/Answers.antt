-- `history` meets its contract.
use Rattle.volume.specs.States.{history_of}
use Rattle.volume.proofs.Volume.history.Goals as goal

pub history_to-requires : goal.history_to-requires
unfolding history_of
history_to-requires c = c.requires
