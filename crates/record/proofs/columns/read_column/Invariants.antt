use mathlib.Core.Path.{◌≡◌}
use lib.ListN.{take}
use Rattle.record.specs.declared.Column.TheVariants.{Blank}
use Rattle.record.specs.Decimal.{column_fold}
use Rattle.record.proofs.columns.read_column.Given as goal

abbrev pub invariant-loop-b : goal.invariant-loop-b
invariant-loop-b l = l.found ≡ column_fold Blank (take l.b-index l.column)
