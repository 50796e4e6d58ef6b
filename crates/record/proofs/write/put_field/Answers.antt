-- `put_field` meets its contract.
use Prim.Native.Nat.{◌*◌}
use mathlib.Core.Path.{◌≡◌, sym, ◌∙◌}
use mathlib.Core.Bool.{true, false}
use native.Mathlib.Omega.{arith}
use lib.ListN.{replicate, length-replicate}
use Rattle.record.specs.Decimal.{space, decimal, blank}
use Rattle.record.specs.Sector.{is_blank, field}
use Rattle.record.proofs.Lengths.{length_decimal}
use Rattle.record.proofs.WriteCode.{full_part_back}
use Rattle.record.proofs.write.put_field.Goals as goal

pub returns-then-is_blank : goal.returns-then-is_blank
unfolding field blank
returns-then-is_blank c =
    let a = c.args in
    let e : is_blank a.t a.i ≡ true = sym c.is_blank.ensures ∙ c.if-is_blank.true in
    let full = c.fill.ensures.after (λ y h. h) in
    rw e (full_part_back (λ n. replicate n space) (λ n. length-replicate n space) a.bytes.now _ (a.i * 10) 10 (omega arith) full)

pub returns-else-is_blank : goal.returns-else-is_blank
unfolding field
returns-else-is_blank c =
    let a = c.args in
    let e : is_blank a.t a.i ≡ false = sym c.is_blank.ensures ∙ c.if-is_blank.false in
    rw e (full_part_back (λ w. decimal w a.n) (λ w. length_decimal w a.n) a.bytes.now _ (a.i * 10) 10 (omega arith) c.put_number.ensures)
