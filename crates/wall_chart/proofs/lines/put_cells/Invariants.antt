use mathlib.Core.Path.{◌≡◌}
use lib.Seq.{sets}
use Rattle.base.specs.Below.{joined}
use Rattle.wall_chart.specs.Chart.{cell_at}
use Rattle.wall_chart.proofs.lines.put_cells.Given as goal

abbrev pub invariant-loop-disk : goal.invariant-loop-disk
invariant-loop-disk l = l.line ≡ sets l.initial.line 6 (joined (cell_at l.v l.b) l.disk)
