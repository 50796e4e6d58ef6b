use Prim.Native.Nat.{◌-◌}
use mathlib.Core.Path.{◌≡◌}
use mathlib.Core.Bool.{true}
use mathlib.Core.List.{◌++◌}
use lib.ListN.{replicate}
use Rattle.base.specs.Below.{every, table}
use Rattle.record.proofs.ReadCode.{number_at, value_at}
use Rattle.record.proofs.read.read_numbers.Given as goal

abbrev pub invariant-loop-i : goal.invariant-loop-i
invariant-loop-i l = (every (number_at l.bytes l.t) l.i ≡ true) × (l.numbers ≡ table (value_at l.bytes l.t) l.i ++ replicate (13 - l.i) 0)
