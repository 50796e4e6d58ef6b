-- `put_row_line` meets its contract.
use mathlib.Core.Path.{◌≡◌}
use native.Mathlib.Omega.{arith}
use lib.ListN.{length, take, length-take}
use Rattle.record.specs.Decimal.{decimal}
use Rattle.record.proofs.Lengths.{length_decimal}
use Rattle.wall_chart.specs.Chart.{row_width, cell_at, row_line}
use Rattle.wall_chart.proofs.Lengths.{length_cell_at}
use Rattle.wall_chart.proofs.LinesCode.{start_stored, line_made}
use Rattle.wall_chart.proofs.lines.put_row_line.Goals as goal

pub returns : goal.returns
unfolding row_line
returns c =
    let a = c.args in
    let start = decimal row_width a.b in
    let six = length_decimal row_width a.b in
    let width : length (take row_width a.line.now) ≡ row_width = simp length-take (omega arith) in
    let number = start_stored a.line.now _ start six (omega arith) (rw width at c.put_number.ensures) in
    line_made a.line.now _ start (cell_at a.v a.b) a.disks c.requires.line_len six (length_cell_at a.v a.b) (rw number at c.put_cells.ensures)
