-- `read_column` meets its contract.
use Prim.Native.Nat.{◌^◌, ◌≤◌}
use mathlib.Core.Path.{◌≡◌, refl, sym, ◌∙◌}
use native.Mathlib.Nat.{pow-le-pow_right}
use native.Mathlib.Omega.{arith}
use borrow.Author.Tests.{eq-eqb, ne_eqb}
use lib.Dec.{lit<}
use lib.ListN.{length, take}
use lib.Seq.{take_all}
use Rattle.record.specs.Decimal.{column_fold, read_column}
use Rattle.record.proofs.Folds.{fold_next, fold_small}
use Rattle.record.proofs.columns.read_column.Goals as goal

pub returns-then-column-ne10 : goal.returns-then-column-ne10
unfolding read_column
returns-then-column-ne10 c = simp (ne_eqb _ _ c.if-column-ne10.true)

pub loop-b-init : goal.loop-b-init
unfolding column_fold
loop-b-init c = refl

pub column_step-found-requires : goal.column_step-found-requires
column_step-found-requires c =
    let lp = c.loop-b in
    let column = c.args.column.now in
    let few : lp.b-index ≤ 10 = omega arith in
    let h : 10 ^ lp.b-index ≤ 10 ^ 10 = pow-le-pow_right (lit< tt) few in
    rw lp.invariant (omega (arith, fold_small column lp.b-index (omega arith), h))

pub loop-b-preserved : goal.loop-b-preserved
loop-b-preserved c =
    let lp = c.loop-b in
    c.column_step-found.ensures ∙ rw lp.invariant (sym (fold_next c.args.column.now lp.b-index (omega arith)))

pub returns : goal.returns
unfolding read_column
returns c =
    let column = c.args.column.now in
    let e : length column ≡ 10 = omega arith in
    let all : take c.loop-b.b-index column ≡ column = take_all c.loop-b.b-index column (omega arith) in
    rw (eq-eqb _ _ e) (c.loop-b.invariant ∙ rw all)
