-- `spot_of_mark` meets its contract.
use Rattle.layout.specs.Windows.{spot_of_mark}
use Rattle.window.proofs.Window.spot_of_mark.Goals as goal

pub returns : goal.returns
unfolding spot_of_mark
returns c = rw c.disks.ensures
