-- `put_disks` meets its contract.
use mathlib.Core.Path.{◌≡◌, refl}
use native.Mathlib.Omega.{arith}
use Rattle.base.specs.Below.{joined}
use Rattle.base.proofs.Lists.{lent_length}
use Rattle.record.specs.Decimal.{column_width, decimal}
use Rattle.record.proofs.Lengths.{length_decimal}
use Rattle.wall_chart.proofs.LinesCode.{column_put}
use Rattle.wall_chart.proofs.lines.put_disks.Goals as goal

pub loop-d-init : goal.loop-d-init
unfolding joined
loop-d-init c = refl

pub loop-d-preserved : goal.loop-d-preserved
loop-d-preserved c =
    let room = lent_length c.loop-d.line c.text_bytes-at.result column_width (omega arith) in
    column_put (decimal column_width) (length_decimal column_width) _ _ _ _ _ c.text_bytes-at.ensures (omega arith) c.loop-d.invariant (rw room at c.put_number.ensures)

pub returns : goal.returns
returns c = let e : c.loop-d.d ≡ c.args.disks = omega arith in rw e at c.loop-d.invariant
