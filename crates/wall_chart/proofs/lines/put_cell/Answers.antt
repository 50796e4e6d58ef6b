-- `put_cell` meets its contract.
use Rattle.wall_chart.specs.Chart.{dash, cell}
use Rattle.wall_chart.proofs.lines.put_cell.Goals as goal

pub returns-in-Ok : goal.returns-in-Ok
unfolding cell
returns-in-Ok c = rw (c.in-Ok.is, ← c.requires) c.put_number.ensures

pub returns-in-Err : goal.returns-in-Err
unfolding cell dash
returns-in-Err c = rw (c.copy_from_slice.ensures.after, c.in-Err.is)
