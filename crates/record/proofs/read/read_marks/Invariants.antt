use Prim.Native.Nat.{◌-◌}
use mathlib.Core.Path.{◌≡◌}
use mathlib.Core.Bool.{true, false}
use mathlib.Core.List.{◌++◌}
use lib.ListN.{replicate}
use Rattle.base.specs.Below.{every, table}
use Rattle.record.proofs.ReadCode.{mark_at, set_at}
use Rattle.record.proofs.read.read_marks.Given as goal

abbrev pub invariant-loop-i : goal.invariant-loop-i
invariant-loop-i l = (every (mark_at l.bytes) l.i ≡ true) × (l.marks ≡ table (set_at l.bytes) l.i ++ replicate (64 - l.i) false)
