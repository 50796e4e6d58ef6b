-- `put_number` meets its contract.
use Prim.Native.Nat.{◌≤◌, ◌<◌}
use mathlib.Core.Path.{◌≡◌, refl, ◌∙◌}
use mathlib.Core.Bool.{cond}
use native.Mathlib.Omega.{arith}
use borrow.Author.Tests.{eq-eqb, ne_eqb}
use lib.Dec.{eqb}
use lib.ListN.{length, length-set}
use Rattle.record.specs.Decimal.{space, last_digit, leading}
use Rattle.record.proofs.WriteCode.{no_columns, last_digit_stored, digit_before}
use Rattle.record.proofs.columns.put_number.Goals as goal
use Rattle.record.proofs.columns.put_number.Goals.{Joined-rest-eq0, then-rest-eq0, else-rest-eq0}

pub returns-then-width-eq0 : goal.returns-then-width-eq0
returns-then-width-eq0 c = no_columns c.args.n c.args.page.now c.if-width-eq0.true

pub loop-i-init : goal.loop-i-init
loop-i-init c = (simp length-set, last_digit_stored _ c.args.n c.args.page.now refl (omega arith))

-- either arm gives the byte of the definition
stored : (c : Joined-rest-eq0) → let lp = c.loop-i in c.if-rest-eq0.page ≡ cond (eqb lp.rest 0) space (last_digit lp.rest)
stored c =
    elim c.if-rest-eq0.branch [
      | then-rest-eq0 w ↦ rw (eq-eqb _ _ w.if-rest-eq0.true) w.page-is
      | else-rest-eq0 w ↦ rw (ne_eqb _ _ w.if-rest-eq0.false) w.page-is
    ]

pub loop-i-preserved : goal.loop-i-preserved
loop-i-preserved c =
    let lp = c.loop-i in
    let h : 0 < lp.i = omega arith in
    let k : lp.i ≤ length lp.page = omega arith in
    (simp length-set lp.invariant.0, rw (stored c) (digit_before lp.i lp.rest lp.page h k ∙ lp.invariant.1))

pub returns : goal.returns
unfolding leading
returns c = let e : c.loop-i.i ≡ 0 = omega arith in rw e at c.loop-i.invariant.1
