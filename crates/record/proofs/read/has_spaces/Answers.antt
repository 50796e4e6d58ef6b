-- `has_spaces` meets its contract. The loop's invariant: no other byte is counted where those passed are spaces.
use Prim.Native.Nat.{ℕ, ◌+◌}
use mathlib.Core.Path.{◌≡◌, refl, ◌∙◌, sym}
use mathlib.Core.Bool.{Bool, true, false}
use native.Mathlib.Numerals.{add-one}
use native.Mathlib.Omega.{arith}
use lib.Dec.{eqb}
use borrow.Author.Tests.{eq-eqb, ne_eqb}
use Rattle.base.specs.Below.{every}
use Rattle.base.proofs.Lists.{lent_length}
use Rattle.record.specs.Sector.{spaces_hold}
use Rattle.record.proofs.ReadCode.{space_at, lent_byte}
use Rattle.record.proofs.read.has_spaces.Goals as goal
use Rattle.record.proofs.read.has_spaces.Goals.{then-b-ne32, else-b-ne32}

none_more : (p : ℕ → Bool) (j other : ℕ) → eqb other 0 ≡ every p j → p j ≡ true → eqb other 0 ≡ every p (j + 1)
unfolding every
none_more p j other e f = rw (add-one, f) e

one_more : (p : ℕ → Bool) (j other : ℕ) → p j ≡ false → eqb (other + 1) 0 ≡ every p (j + 1)
unfolding every
one_more p j other f = rw (add-one j, f) (ne_eqb (other + 1) 0 (λ e. absurd (omega arith)))

pub loop-b-init : goal.loop-b-init
unfolding every
loop-b-init c = (omega arith, refl)

pub loop-b-preserved : goal.loop-b-preserved
loop-b-preserved c =
    let l = c.loop-b in
    let bytes = c.args.bytes.now in
    let byte = lent_byte bytes 194 317 l.b-index (omega arith) c.loop-b-test.true in
    elim c.if-b-ne32.branch [
      | then-b-ne32 w ↦ rw w.other-is (omega arith, one_more (space_at bytes) l.b-index l.other (ne_eqb _ _ (λ e. w.if-b-ne32.true (byte ∙ e))))
      | else-b-ne32 w ↦ rw w.other-is (omega arith, none_more (space_at bytes) l.b-index l.other l.invariant.1 (eq-eqb _ _ (sym byte ∙ w.if-b-ne32.false)))
    ]

pub returns : goal.returns
unfolding spaces_hold
returns c =
    let long = lent_length c.args.bytes.now 194 317 (omega arith) in
    let e : c.loop-b.b-index ≡ 317 = omega arith in
    rw e at c.loop-b.invariant.1
