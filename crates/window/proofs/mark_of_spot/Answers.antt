-- `mark_of_spot` meets its contract.
use Rattle.std.proofs.Common.{arith}
use Rattle.layout.specs.Growth.{moves_from}
use Rattle.layout.specs.Windows.{mark_of_spot}
use Rattle.layout.proofs.OneRow.{moves_rows}
use Rattle.window.proofs.mark_of_spot.Goals as goal

pub overflow_sub-result : goal.overflow_sub-result
unfolding moves_from
overflow_sub-result c = rw c.row_in_window-b1.ensures (moves_rows _ _ _ (omega arith) c.requires.1).0

pub returns : goal.returns
unfolding mark_of_spot
returns c = rw c.row_in_window-b1.ensures
