-- `put_cells` meets its contract.
use mathlib.Core.Path.{◌≡◌, refl}
use native.Mathlib.Omega.{arith}
use Rattle.base.specs.Below.{joined}
use Rattle.base.proofs.Lists.{lent_length}
use Rattle.record.specs.Decimal.{column_width}
use Rattle.wall_chart.specs.Chart.{cell_at}
use Rattle.wall_chart.proofs.Lengths.{length_cell_at}
use Rattle.wall_chart.proofs.LinesCode.{column_put}
use Rattle.wall_chart.proofs.lines.put_cells.Goals as goal

pub loop-disk-init : goal.loop-disk-init
unfolding joined
loop-disk-init c = refl

pub put_cell-requires : goal.put_cell-requires
put_cell-requires c = lent_length c.loop-disk.line c.text_bytes-at.result column_width (omega arith)

pub loop-disk-preserved : goal.loop-disk-preserved
loop-disk-preserved c =
    let a = c.args in
    column_put (cell_at a.v a.b) (length_cell_at a.v a.b) _ _ _ _ _ c.text_bytes-at.ensures (omega arith) c.loop-disk.invariant (rw c.holder-says.ensures at c.put_cell.ensures)

pub returns : goal.returns
returns c = let e : c.loop-disk.disk ≡ c.args.disks = omega arith in rw e at c.loop-disk.invariant
