-- What the code that reads a record meets, test by test.
use Prim.Native.Nat.{ℕ, ◌+◌, ◌-◌, ◌*◌, ◌≤◌, ◌<◌}
use mathlib.Core.Path.{◌≡◌, refl, sym, ap, ◌∙◌}
use mathlib.Core.Bool.{Bool, true, false}
use mathlib.Core.List.{List, ◌++◌, append-nil}
use native.Mathlib.Omega.{arith}
use borrow.Author.Tests.{eq-eqb, ne_eqb}
use lib.Dec.{eqb}
use lib.ListN.{length, take, drop, get_or, replicate, length-take, length-drop}
use lib.Seq.{get_or-take, get_or-drop}
use Rattle.std.specs.Prelude.{Result, Ok, Err}
use Rattle.base.specs.declared.Refusal.{Refusal}
use Rattle.base.specs.declared.Refusal.TheVariants.{NoRecord}
use Rattle.base.specs.Below.{every, table}
use Rattle.base.proofs.Booleans.{by_test, clash, cond_cases}
use Rattle.base.proofs.Counting.{every_use, every_fails}
use Rattle.record.specs.declared.Column.{Column}
use Rattle.record.specs.declared.Column.TheVariants.{Number, Blank, NotANumber}
use Rattle.record.specs.Decimal.{space, zero_digit, column_width, read_column, value_of}
use Rattle.record.specs.Sector.{column_count, mark_count, one_digit, line_feed, is_blank, is_number, blank_as_zero, column_at, read_field, growths_read, is_mark, fields_hold, marks_hold, spaces_hold, is_record, numbers_found, marks_found, read_numbers, read_marks, no_record, read_record}
use Rattle.record.proofs.RecordTests.{Holds, holds, growths_due}

-- ---- one field, mark or space

abbrev pub number_at : (bytes : List ℕ) (t i : ℕ) → Bool
number_at bytes t i = is_number (read_field bytes t i)

abbrev pub value_at : (bytes : List ℕ) (t i : ℕ) → ℕ
value_at bytes t i = value_of (read_field bytes t i)

abbrev pub mark_at : (bytes : List ℕ) (i : ℕ) → Bool
mark_at bytes i = is_mark (get_or bytes (130 + i) 0)

abbrev pub set_at : (bytes : List ℕ) (i : ℕ) → Bool
set_at bytes i = eqb (get_or bytes (130 + i) 0) one_digit

abbrev pub space_at : (bytes : List ℕ) (i : ℕ) → Bool
space_at bytes i = eqb (get_or bytes (194 + i) 0) space

-- a byte of a part that is lent
pub lent_byte : (bytes : List ℕ) (from n i : ℕ) → from + n ≤ length bytes → i < length (take n (drop from bytes))
    → get_or (take n (drop from bytes)) i 0 ≡ get_or bytes (from + i) 0
lent_byte bytes from n i h k =
    let long : length (take n (drop from bytes)) ≡ n = simp (length-take, length-drop) (omega arith) in
    let l : i < n = rw long at k in
    get_or-take n (drop from bytes) i 0 l ∙ get_or-drop from bytes i 0

-- ---- a field

-- the part that is lent for column i
abbrev pub lent_at : (bytes : List ℕ) (i : ℕ) → List ℕ
lent_at bytes i = take (i * 10 + 10 - i * 10) (drop (i * 10) bytes)

lent_width : (i : ℕ) → i * 10 + 10 - i * 10 ≡ column_width
lent_width i = omega arith

pub field_read : (bytes : List ℕ) (t i : ℕ) (c : Column) → c ≡ read_column (lent_at bytes i) → is_blank t i ≡ false → c ≡ read_field bytes t i
unfolding read_field
field_read bytes t i c h e = rw e (h ∙ rw (lent_width i))

pub blank_field_read : (bytes : List ℕ) (t i : ℕ) (c d : Column) → c ≡ read_column (lent_at bytes i) → is_blank t i ≡ true → c ≡ d
    → blank_as_zero d ≡ read_field bytes t i
unfolding read_field
blank_field_read bytes t i c d h e f = rw (e, ← f, h, lent_width i)

-- what the else of a `let Column::Blank` knows
pub no_blank : (c : Column) → (c ≡ Blank → ⊥) → NotANumber ≡ blank_as_zero c
no_blank (Number n) o = refl
no_blank Blank o = absurd (o refl)
no_blank NotANumber o = refl

-- ---- the numbers

-- what the else of a `let Column::Number(..)` knows
pub no_number : (c : Column) → ((n : ℕ) → c ≡ Number n → ⊥) → is_number c ≡ false
no_number (Number n) o = absurd (o n refl)
no_number Blank o = refl
no_number NotANumber o = refl

pub numbers_refused : (bytes : List ℕ) (t i : ℕ) → i < column_count → number_at bytes t i ≡ false → Err NoRecord ≡ read_numbers bytes t
unfolding read_numbers fields_hold
numbers_refused bytes t i h e = rw (every_fails (number_at bytes t) column_count i h e)

pub numbers_read : (bytes : List ℕ) (t : ℕ) (numbers : List ℕ) → every (number_at bytes t) column_count ≡ true
    → numbers ≡ table (value_at bytes t) column_count ++ replicate 0 0 → Ok numbers ≡ read_numbers bytes t
unfolding read_numbers fields_hold numbers_found
numbers_read bytes t numbers h e = rw (h, e, append-nil)

-- ---- the marks

pub mark_zero : (b : ℕ) → b ≡ zero_digit → is_mark b ≡ true
mark_zero b e = rw e

pub mark_one : (b : ℕ) → b ≡ one_digit → is_mark b ≡ true
mark_one b e = rw e

pub not_set : (b : ℕ) → b ≡ zero_digit → eqb b one_digit ≡ false
not_set b e = rw e

pub is_set : (b : ℕ) → b ≡ one_digit → eqb b one_digit ≡ true
is_set b e = rw e

pub marks_refused : (bytes : List ℕ) (i : ℕ) → i < mark_count
    → (get_or bytes (130 + i) 0 ≡ zero_digit → ⊥) → (get_or bytes (130 + i) 0 ≡ one_digit → ⊥) → Err NoRecord ≡ read_marks bytes
unfolding read_marks marks_hold
marks_refused bytes i h zero one =
    let e : mark_at bytes i ≡ false = simp (ne_eqb _ _ zero, ne_eqb _ _ one) in
    rw (every_fails (mark_at bytes) mark_count i h e)

pub marks_read : (bytes : List ℕ) (marks : List Bool) → every (mark_at bytes) mark_count ≡ true
    → marks ≡ table (set_at bytes) mark_count ++ replicate 0 false → Ok marks ≡ read_marks bytes
unfolding read_marks marks_hold marks_found
marks_read bytes marks h e = rw (h, e, append-nil)

-- ---- the record

pub refused : (bytes : List ℕ) → (Holds bytes → ⊥) → Err NoRecord ≡ read_record bytes
unfolding read_record no_record
refused bytes f =
    let e : is_record bytes ≡ false = by_test (is_record bytes) (λ e. absurd (f (holds bytes e))) (λ e. e) in
    rw e

pub growths_number : (bytes : List ℕ) (t : ℕ) → fields_hold bytes t ≡ true → is_number (column_at bytes 2) ≡ true
unfolding fields_hold read_field
growths_number bytes t h = rw (growths_due t) at (every_use (number_at bytes t) column_count h 2 (omega arith))

-- the number of growths, as the code finds it
pub growths_number_read : (bytes : List ℕ) (c : Column) (t : ℕ) → c ≡ column_at bytes 2 → c ≡ Number t → growths_read bytes ≡ t
growths_number_read bytes c t e f = ap value_of (sym e ∙ f)

-- the numbers and the marks are refused by their tests only
numbers_pass : (bytes : List ℕ) (t : ℕ) (numbers : List ℕ) → read_numbers bytes t ≡ Ok numbers
    → (fields_hold bytes t ≡ true) × (numbers_found bytes t ≡ numbers)
unfolding read_numbers
numbers_pass bytes t numbers =
    cond_cases (λ (found : Result (List ℕ) Refusal). found ≡ Ok numbers → (fields_hold bytes t ≡ true) × (numbers_found bytes t ≡ numbers))
    (fields_hold bytes t) (λ h e. (h, cc)) (λ h e. cc)

numbers_fail : (bytes : List ℕ) (t : ℕ) (r : Refusal) → read_numbers bytes t ≡ Err r → (fields_hold bytes t ≡ true → ⊥) × (NoRecord ≡ r)
unfolding read_numbers
numbers_fail bytes t r =
    cond_cases (λ (found : Result (List ℕ) Refusal). found ≡ Err r → (fields_hold bytes t ≡ true → ⊥) × (NoRecord ≡ r)) (fields_hold bytes t)
    (λ h e. cc) (λ h e. (λ f. clash f h, cc))

marks_pass : (bytes : List ℕ) (marks : List Bool) → read_marks bytes ≡ Ok marks → (marks_hold bytes ≡ true) × (marks_found bytes ≡ marks)
unfolding read_marks
marks_pass bytes marks =
    cond_cases (λ (found : Result (List Bool) Refusal). found ≡ Ok marks → (marks_hold bytes ≡ true) × (marks_found bytes ≡ marks))
    (marks_hold bytes) (λ h e. (h, cc)) (λ h e. cc)

marks_fail : (bytes : List ℕ) (r : Refusal) → read_marks bytes ≡ Err r → (marks_hold bytes ≡ true → ⊥) × (NoRecord ≡ r)
unfolding read_marks
marks_fail bytes r =
    cond_cases (λ (found : Result (List Bool) Refusal). found ≡ Err r → (marks_hold bytes ≡ true → ⊥) × (NoRecord ≡ r)) (marks_hold bytes)
    (λ h e. cc) (λ h e. (λ f. clash f h, cc))

pub numbers_passed_on : (bytes : List ℕ) (t : ℕ) (r : Refusal) → growths_read bytes ≡ t → read_numbers bytes t ≡ Err r → Err r ≡ read_record bytes
numbers_passed_on bytes t r growths e =
    let f = numbers_fail bytes t r e in
    rw (← f.1) (refused bytes (λ h. f.0 (rw growths at h.fields)))

pub marks_passed_on : (bytes : List ℕ) (r : Refusal) → read_marks bytes ≡ Err r → Err r ≡ read_record bytes
marks_passed_on bytes r e = let f = marks_fail bytes r e in rw (← f.1) (refused bytes (λ h. f.0 h.marked))

pub record_read : (bytes : List ℕ) (t : ℕ) (numbers : List ℕ) (marks : List Bool) → length bytes ≡ 512 → growths_read bytes ≡ t
    → read_numbers bytes t ≡ Ok numbers → read_marks bytes ≡ Ok marks → spaces_hold bytes ≡ true → get_or bytes 511 0 ≡ line_feed
    → Ok (record { numbers = numbers; marks = marks }) ≡ read_record bytes
unfolding is_record read_record
record_read bytes t numbers marks whole growths n m spaces ends =
    let (fields, ns) = numbers_pass bytes t numbers n in
    let (marked, ms) = marks_pass bytes marks m in
    simp (eq-eqb _ _ whole, growths, fields, ns, marked, ms, spaces, eq-eqb _ _ ends)
