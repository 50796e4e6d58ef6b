-- `put_heading_line` meets its contract.
use Rattle.record.specs.Decimal.{column_width, decimal}
use Rattle.record.proofs.Lengths.{length_decimal}
use Rattle.wall_chart.specs.Chart.{heading, heading_line}
use Rattle.wall_chart.proofs.Lengths.{length_heading}
use Rattle.wall_chart.proofs.LinesCode.{line_made}
use Rattle.wall_chart.proofs.lines.put_heading_line.Goals as goal

pub returns : goal.returns
unfolding heading_line
returns c =
    let put = rw c.put_heading.ensures at c.put_disks.ensures in
    line_made c.args.line.now _ heading (decimal column_width) c.args.disks c.requires.line_len length_heading (length_decimal column_width) put
