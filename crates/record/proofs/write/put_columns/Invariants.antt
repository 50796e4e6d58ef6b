use mathlib.Core.Path.{◌≡◌}
use lib.Seq.{sets}
use Rattle.record.specs.Sector.{growths, columns}
use Rattle.record.proofs.write.put_columns.Given as goal

abbrev pub invariant-loop-i : goal.invariant-loop-i
invariant-loop-i l = (l.bytes ≡ sets l.initial.bytes 0 (columns l.numbers l.i)) × (l.t ≡ growths l.numbers)
