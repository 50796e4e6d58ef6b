use Prim.Native.Nat.{◌≤◌}
use mathlib.Core.Path.{◌≡◌}
use lib.Dec.{eqb}
use Rattle.base.specs.Below.{every}
use Rattle.record.proofs.ReadCode.{space_at}
use Rattle.record.proofs.read.has_spaces.Given as goal

abbrev pub invariant-loop-b : goal.invariant-loop-b
invariant-loop-b l = (l.other ≤ l.b-index) × (eqb l.other 0 ≡ every (space_at l.bytes) l.b-index)
