-- `put_heading` meets its contract.
use Rattle.wall_chart.specs.Chart.{heading}
use Rattle.wall_chart.proofs.Lengths.{length_heading}
use Rattle.wall_chart.proofs.LinesCode.{start_stored}
use Rattle.wall_chart.proofs.lines.put_heading.Goals as goal

pub returns : goal.returns
unfolding heading
returns c = start_stored _ _ heading length_heading c.requires c.copy_from_slice.ensures.after
