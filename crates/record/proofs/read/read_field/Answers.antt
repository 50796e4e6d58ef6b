-- `read_field` meets its contract.
use mathlib.Core.Path.{◌≡◌, refl, sym, ◌∙◌}
use Rattle.record.specs.declared.Column.{Column}
use Rattle.record.specs.Sector.{blank_as_zero, read_field}
use Rattle.record.proofs.ReadCode.{field_read, blank_field_read, no_blank}
use Rattle.record.proofs.read.read_field.Goals as goal
use Rattle.record.proofs.read.read_field.Goals.{Else-not-is_blank}

pub returns-then-not-is_blank : goal.returns-then-not-is_blank
returns-then-not-is_blank c =
    let a = c.args in
    field_read _ a.t a.i _ c.read_column-found.ensures (sym c.is_blank.ensures ∙ c.if-not-is_blank.true)

has_to_be_blank : (c : Else-not-is_blank) (d : Column) → c.read_column-found.result ≡ d
    → let a = c.args in blank_as_zero d ≡ read_field a.bytes.now a.t a.i
has_to_be_blank c d e =
    let a = c.args in
    blank_field_read _ a.t a.i _ d c.read_column-found.ensures (sym c.is_blank.ensures ∙ c.if-not-is_blank.false) e

pub returns-in_default : goal.returns-in_default
returns-in_default c = no_blank c.read_column-found.result c.in_default.not-Blank ∙ has_to_be_blank (goal.at.returns-in_default c).Else-not-is_blank _ refl

pub returns : goal.returns
returns c = has_to_be_blank (goal.at.returns c).Else-not-is_blank _ c.in-Blank.is
