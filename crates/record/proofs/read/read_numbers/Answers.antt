-- `read_numbers` meets its contract.
use Prim.Native.Nat.{◌<◌}
use mathlib.Core.Path.{◌≡◌, refl, sym, ap, ◌∙◌}
use native.Mathlib.Omega.{arith}
use Rattle.base.specs.Below.{every, table}
use Rattle.base.proofs.Counting.{every_next}
use Rattle.base.proofs.Lists.{table_next}
use Rattle.record.specs.Decimal.{value_of}
use Rattle.record.specs.Sector.{is_number}
use Rattle.record.proofs.ReadCode.{no_number, numbers_refused, numbers_read}
use Rattle.record.proofs.read.read_numbers.Goals as goal

pub loop-i-init : goal.loop-i-init
unfolding every table
loop-i-init c = (refl, refl)

pub returns-in_default : goal.returns-in_default
returns-in_default c =
    let found = c.read_field in
    let e = ap is_number (sym found.ensures) ∙ no_number found.result c.in_default.not-Number in
    numbers_refused _ c.args.t c.loop-i.i (omega arith) e

pub loop-i-preserved : goal.loop-i-preserved
loop-i-preserved c =
    let lp = c.loop-i in
    let h : lp.i < 13 = omega arith in
    let e = sym c.read_field.ensures ∙ c.in-Number.is in
    (every_next _ lp.i lp.invariant.0 (ap is_number e), rw (← ap value_of e) (table_next 0 13 lp.i _ lp.numbers h lp.invariant.1))

pub returns : goal.returns
returns c =
    let lp = c.loop-i in
    let e : lp.i ≡ 13 = omega arith in
    numbers_read _ c.args.t lp.numbers (rw e at lp.invariant.0) (rw e at lp.invariant.1)
