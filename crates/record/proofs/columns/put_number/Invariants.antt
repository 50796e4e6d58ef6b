use mathlib.Core.Path.{◌≡◌}
use mathlib.Core.List.{◌++◌}
use lib.ListN.{length, drop}
use Rattle.record.specs.Decimal.{leading, decimal}
use Rattle.record.proofs.columns.put_number.Given as goal

abbrev pub invariant-loop-i : goal.invariant-loop-i
invariant-loop-i l = (length l.page ≡ l.width) × (leading l.i l.rest ++ drop l.i l.page ≡ decimal l.width l.n)
