use mathlib.Core.Path.{◌≡◌}
use lib.Seq.{sets}
use Rattle.base.specs.Below.{joined}
use Rattle.record.specs.Decimal.{column_width, decimal}
use Rattle.wall_chart.proofs.lines.put_disks.Given as goal

abbrev pub invariant-loop-d : goal.invariant-loop-d
invariant-loop-d l = l.line ≡ sets l.initial.line 6 (joined (decimal column_width) l.d)
