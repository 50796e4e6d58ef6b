use mathlib.Core.Path.{◌≡◌}
use lib.Seq.{sets}
use Rattle.base.specs.Below.{joined}
use Rattle.wall_chart.specs.Chart.{row_line}
use Rattle.wall_chart.proofs.pages.put_rows.Given as goal

abbrev pub invariant-loop-b : goal.invariant-loop-b
invariant-loop-b l = l.page ≡ sets l.initial.page l.width (joined (row_line l.v l.disks) l.b)
