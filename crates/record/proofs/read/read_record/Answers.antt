-- `read_record` meets its contract.
use mathlib.Core.Path.{sym, ap, ◌∙◌}
use Rattle.std.proofs.lemmas.Result.{err_from_is_err_and}
use Rattle.base.proofs.Booleans.{clash}
use Rattle.record.specs.Sector.{is_number}
use Rattle.record.proofs.ReadCode.{no_number, refused, growths_number, growths_number_read, numbers_passed_on, marks_passed_on, record_read}
use Rattle.record.proofs.read.read_record.Goals as goal

pub returns-in_default : goal.returns-in_default
returns-in_default c = refused _ (λ h. c.in_default.ensures.cases h.whole)

pub returns-in_default-read_column : goal.returns-in_default-read_column
returns-in_default-read_column c =
    let found = c.read_column in
    let e = ap is_number (sym found.ensures) ∙ no_number found.result c.in_default-read_column.not-Number in
    rw (← c.in-Some.ensures.cases.same) (refused _ (λ h. clash (growths_number _ _ h.fields) e))

pub returns-in_err-numbers : goal.returns-in_err-numbers
returns-in_err-numbers c =
    let p = err_from_is_err_and c.from_residual.result c.from_residual.ensures.1 in
    let growths = growths_number_read c.in-Some.bytes.now _ _ c.read_column.ensures c.in-Number.is in
    rw (p.1, p.2, ← c.in-Some.ensures.cases.same) (numbers_passed_on _ _ _ growths (sym c.read_numbers.ensures ∙ c.in_err-numbers.was))

pub returns-in_err-marks : goal.returns-in_err-marks
returns-in_err-marks c =
    let p = err_from_is_err_and c.from_residual-in_err-marks.result c.from_residual-in_err-marks.ensures.1 in
    rw (p.1, p.2, ← c.in-Some.ensures.cases.same) (marks_passed_on _ _ (sym c.read_marks.ensures ∙ c.in_err-marks.was))

pub returns-then-not-has_spaces : goal.returns-then-not-has_spaces
returns-then-not-has_spaces c =
    let s = c.has_spaces.ensures in
    rw (← c.in-Some.ensures.cases.same) (refused _ (λ h. clash (s ∙ h.spaced) c.if-not-has_spaces.true))

pub returns-then-bytes-ne10 : goal.returns-then-bytes-ne10
returns-then-bytes-ne10 c = rw (← c.in-Some.ensures.cases.same) (refused _ (λ h. c.if-bytes-ne10.true h.ended))

pub returns : goal.returns
returns c =
    let whole = c.in-Some.ensures.cases in
    let growths = growths_number_read c.in-Some.bytes.now _ _ c.read_column.ensures c.in-Number.is in
    let s = sym c.has_spaces.ensures ∙ c.if-not-has_spaces.false in
    let n = sym c.read_numbers.ensures ∙ c.in_ok-numbers.was in
    let m = sym c.read_marks.ensures ∙ c.in_ok-marks.was in
    rw (← whole.same) (record_read _ _ _ _ (rw whole.same whole.long) growths n m s c.if-bytes-ne10.false)
