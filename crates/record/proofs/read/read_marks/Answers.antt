-- `read_marks` meets its contract.
use Prim.Native.Nat.{◌<◌}
use mathlib.Core.Path.{◌≡◌, refl, sym, ◌∙◌}
use mathlib.Core.Bool.{true, false}
use native.Mathlib.Omega.{arith}
use Rattle.base.specs.Below.{every, table}
use Rattle.base.proofs.Counting.{every_next}
use Rattle.base.proofs.Lists.{lent_length, table_next}
use Rattle.record.proofs.ReadCode.{mark_at, set_at, lent_byte, mark_zero, mark_one, not_set, is_set, marks_refused, marks_read}
use Rattle.record.proofs.read.read_marks.Goals as goal
use Rattle.record.proofs.read.read_marks.Goals.{Joined-b, in-48, in-49}

pub loop-i-init : goal.loop-i-init
unfolding every table
loop-i-init c = (refl, refl)

pub returns-in_default : goal.returns-in_default
returns-in_default c =
    let bytes = c.args.bytes.now in
    let i = c.loop-i.i in
    let long = lent_length bytes 130 64 (omega arith) in
    let byte = lent_byte bytes 130 64 i (omega arith) c.loop-i-test.true in
    let h = c.in_default in
    marks_refused bytes i (omega arith) (λ e. absurd (omega arith)) (λ e. absurd (omega arith))

-- either arm is one of the two bytes and gives what it says
read : (c : Joined-b) → let bytes = c.args.bytes.now in (mark_at bytes c.loop-i.i ≡ true) × (c.match-b.marks ≡ set_at bytes c.loop-i.i)
read c =
    let byte = lent_byte c.args.bytes.now 130 64 c.loop-i.i (omega arith) c.loop-i-test.true in
    elim c.match-b.branch [
      | in-48 w ↦ let e = sym byte ∙ w.in-48.is in (mark_zero _ e, w.marks-is ∙ sym (not_set _ e))
      | in-49 w ↦ let e = sym byte ∙ w.in-49.is in (mark_one _ e, w.marks-is ∙ sym (is_set _ e))
    ]

pub loop-i-preserved : goal.loop-i-preserved
loop-i-preserved c =
    let lp = c.loop-i in
    let long = lent_length c.args.bytes.now 130 64 (omega arith) in
    let h : lp.i < 64 = omega arith in
    let (mark, set) = read c in
    (every_next _ lp.i lp.invariant.0 mark, rw set (table_next false 64 lp.i _ lp.marks h lp.invariant.1))

pub returns : goal.returns
returns c =
    let lp = c.loop-i in
    let long = lent_length c.args.bytes.now 130 64 (omega arith) in
    let e : lp.i ≡ 64 = omega arith in
    marks_read _ lp.marks (rw e at lp.invariant.0) (rw e at lp.invariant.1)
