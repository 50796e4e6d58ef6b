-- `copy_block` meets its contract.
use Rattle.medium.specs.Medium.{apply, observe}
use Rattle.medium.proofs.copy_block.Goals as goal

pub returns : goal.returns
unfolding apply observe
returns c = rw (← c.place_of-source.ensures, ← c.place_of-target.ensures) c.copy_bytes.ensures
