use mathlib.Core.Path.{◌≡◌}
use lib.Seq.{sets}
use Rattle.record.specs.Sector.{mark_bytes}
use Rattle.record.proofs.write.put_marks.Given as goal

abbrev pub invariant-loop-i : goal.invariant-loop-i
invariant-loop-i l = l.bytes ≡ sets l.initial.bytes 130 (mark_bytes l.marks l.i)
