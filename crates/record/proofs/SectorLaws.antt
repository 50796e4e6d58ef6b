-- The whole record: what was written is read, and what is read is what writing gives.
use Prim.Native.Nat.{ℕ, zero, suc, ◌+◌, ◌*◌, ◌^◌, ◌≤◌, ◌<◌}
use mathlib.Core.Path.{◌≡◌, refl, ap, sym, ◌∙◌}
use mathlib.Core.Bool.{Bool, true, false, cond, ◌||◌, false≢true}
use mathlib.Core.List.{List, [], ◌∷◌, ◌++◌}
use mathlib.Core.Logic.{⊎_elim}
use native.Mathlib.Nat.{eq-or-lt_of_le, le_of_suc-le-suc}
use native.Mathlib.Omega.{arith}
use borrow.Author.Tests.{eqb-true, eq-eqb}
use lib.Dec.{eqb}
use lib.ListN.{length, take, drop, get_or, replicate, length-take, length-drop, length-replicate, get_or-replicate, get_or-append, take-append-drop}
use lib.Seq.{take-add, drop-drop, get_or-append-add, get_or-take, get_or-drop, ext_get_or}
use Rattle.base.proofs.Booleans.{cond_cases, and_both, clash, by_test}
use Rattle.base.proofs.Counting.{every_use, every_make}
use Rattle.base.specs.Below.{joined}
use Rattle.base.specs.declared.Refusal.{Refusal}
use Rattle.std.specs.Prelude.{Result, Ok}
use Rattle.base.proofs.Lists.{length_table, get_d_table, table_ext, table_self, joined_part}
use Rattle.record.specs.declared.Column.{Column}
use Rattle.record.specs.declared.Column.TheVariants.{Number, Blank, NotANumber}
use Rattle.record.specs.declared.Record.{Record}
use Rattle.record.specs.Decimal.{space, zero_digit, column_width, decimal, blank, read_column, value_of}
use Rattle.record.specs.Sector.{column_count, mark_count, growths, one_digit, line_feed, is_blank, field, columns, mark_byte, mark_bytes, ending, sector, is_number, blank_as_zero, column_at, read_field, growths_read, is_mark, fields_hold, marks_hold, spaces_hold, is_record, numbers_found, marks_found, no_record, read_record}
use Rattle.record.specs.Laws.{Writable}
use Rattle.record.proofs.Lengths.{length_field, length_columns, length_marks, length_ending, length_sector}
use Rattle.record.proofs.RecordTests.{Holds, holds, growths_due}
use Rattle.record.proofs.ColumnLaws.{column_read, blank_read, column_written, blank_written}

abbrev field_of : (numbers : List ℕ) (i : ℕ) → List ℕ
field_of numbers i = field (growths numbers) i (get_or numbers i 0)

growths_field : (bytes : List ℕ) (t : ℕ) → read_field bytes t 2 ≡ column_at bytes 2
unfolding read_field
growths_field bytes t = rw (growths_due t)

ending_space : (i : ℕ) → i < 317 → get_or ending i 0 ≡ space
unfolding ending
ending_space i h =
    let k : i < length (replicate {A = ℕ} 317 space) = rw (length-replicate {A = ℕ} 317 space) h in
    get_or-append (replicate 317 space) (line_feed ∷ []) 0 i k ∙ get_or-replicate 317 i space 0 h

ending_feed : get_or ending 317 0 ≡ line_feed
unfolding ending
ending_feed = refl

-- ---- what was written is read

columns_part : (numbers : List ℕ) (k i : ℕ) (rest : List ℕ) → i < k
    → take column_width (drop (i * column_width) (columns numbers k ++ rest)) ≡ field_of numbers i
unfolding columns
columns_part numbers = joined_part (field_of numbers) column_width (λ i. length_field (growths numbers) i (get_or numbers i 0))

mark_is_mark : (mark : Bool) → is_mark (mark_byte mark) ≡ true
mark_is_mark true = refl
mark_is_mark false = refl

mark_read : (mark : Bool) → eqb (mark_byte mark) one_digit ≡ mark
mark_read true = refl
mark_read false = refl

-- what stands behind a list of the length given
get_d_behind : (a b : List ℕ) (n i : ℕ) → length a ≡ n → get_or (a ++ b) (n + i) 0 ≡ get_or b i 0
get_d_behind a b n i e = rw (← e) (get_or-append-add a b i 0)

module _ (numbers : List ℕ) (marks : List Bool) where
  behind_columns : (i : ℕ) → get_or (sector numbers marks) (130 + i) 0 ≡ get_or (mark_bytes marks mark_count ++ ending) i 0
  unfolding sector
  behind_columns i =
      get_d_behind (columns numbers column_count) (mark_bytes marks mark_count ++ ending) 130 i (length_columns numbers column_count)

  mark_at : (i : ℕ) → i < mark_count → get_or (sector numbers marks) (130 + i) 0 ≡ mark_byte (get_or marks i false)
  unfolding mark_bytes
  mark_at i h =
      let k : i < length (mark_bytes marks mark_count) = rw (length_marks marks mark_count) h in
      behind_columns i ∙ get_or-append (mark_bytes marks mark_count) ending 0 i k
      ∙ get_d_table 0 (λ j. mark_byte (get_or marks j false)) mark_count i h

  ending_at : (i : ℕ) → get_or (sector numbers marks) (194 + i) 0 ≡ get_or ending i 0
  ending_at i =
      let e : 194 + i ≡ 130 + (mark_count + i) = omega arith in
      rw (e, behind_columns (mark_count + i)) (get_d_behind (mark_bytes marks mark_count) ending mark_count i (length_marks marks mark_count))

  marks_hold_law : marks_hold (sector numbers marks) ≡ true
  unfolding marks_hold
  marks_hold_law =
      every_make (λ i. is_mark (get_or (sector numbers marks) (130 + i) 0)) mark_count
      (λ i h. rw (mark_at i h) (mark_is_mark (get_or marks i false)))

  spaces_hold_law : spaces_hold (sector numbers marks) ≡ true
  unfolding spaces_hold
  spaces_hold_law =
      every_make (λ i. eqb (get_or (sector numbers marks) (194 + i) 0) space) 317
      (λ i h. eq-eqb _ _ (ending_at i ∙ ending_space i h))

  module _ (w : Writable numbers marks) where
    column_found : (i : ℕ) → i < column_count → column_at (sector numbers marks) i ≡ read_column (field_of numbers i)
    unfolding sector
    column_found i h = ap read_column (columns_part numbers column_count i (mark_bytes marks mark_count ++ ending) h)

    field_found : (i : ℕ) → i < column_count → read_field (sector numbers marks) (growths numbers) i ≡ Number (get_or numbers i 0)
    unfolding read_field field
    field_found i h =
        by_test (is_blank (growths numbers) i)
        (λ e. let f : column_at (sector numbers marks) i ≡ Blank = column_found i h ∙ rw e blank_read in
        rw (e, w.blank_zero i h e) (ap blank_as_zero f))
        (λ e. rw e (column_found i h ∙ rw e (column_read (get_or numbers i 0) (w.small i h))))

    growths_found : growths_read (sector numbers marks) ≡ growths numbers
    growths_found = ap value_of (sym (growths_field (sector numbers marks) (growths numbers)) ∙ field_found 2 (omega arith))

    fields_hold_law : fields_hold (sector numbers marks) (growths_read (sector numbers marks)) ≡ true
    unfolding fields_hold
    fields_hold_law =
        rw growths_found
        (every_make (λ i. is_number (read_field (sector numbers marks) (growths numbers) i)) column_count (λ i h. ap is_number (field_found i h)))

    numbers_found_law : numbers_found (sector numbers marks) (growths numbers) ≡ numbers
    unfolding numbers_found
    numbers_found_law =
        table_ext (λ i. value_of (read_field (sector numbers marks) (growths numbers) i)) (λ i. get_or numbers i 0) column_count
        (λ i h. ap value_of (field_found i h))
        ∙ table_self 0 numbers column_count w.numbers_length

    marks_found_law : marks_found (sector numbers marks) ≡ marks
    unfolding marks_found
    marks_found_law =
        table_ext (λ i. eqb (get_or (sector numbers marks) (130 + i) 0) one_digit) (λ i. get_or marks i false) mark_count
        (λ i h. rw (mark_at i h) (mark_read (get_or marks i false)))
        ∙ table_self false marks mark_count w.marks_length

    sector_is_record : is_record (sector numbers marks) ≡ true
    unfolding is_record
    sector_is_record =
        and_both (eq-eqb _ _ (length_sector numbers marks))
        (and_both fields_hold_law
        (and_both marks_hold_law (and_both spaces_hold_law (eq-eqb _ _ (ending_at 317 ∙ ending_feed)))))

    pub written_is_read : read_record (sector numbers marks) ≡ Ok (record { numbers = numbers; marks = marks })
    unfolding read_record
    written_is_read = rw (sector_is_record, growths_found, numbers_found_law, marks_found_law)

-- ---- what is read is what writing gives

number_held : (c : Column) → is_number c ≡ true → c ≡ Number (value_of c)
number_held (Number n) e = refl
number_held Blank e = absurd (false≢true e)
number_held NotANumber e = absurd (false≢true e)

blank_held : (c : Column) → is_number (blank_as_zero c) ≡ true → c ≡ Blank
blank_held (Number n) e = absurd (false≢true e)
blank_held Blank e = refl
blank_held NotANumber e = absurd (false≢true e)

-- a column that reads as a number, or as 0 where it has to be blank
field_held : (t i : ℕ) (bytes : List ℕ) → is_number (read_field bytes t i) ≡ true
    → (value_of (read_field bytes t i) < 10 ^ column_width)
    × (is_blank t i ≡ true → value_of (read_field bytes t i) ≡ 0)
    × (take column_width (drop (i * column_width) bytes) ≡ field t i (value_of (read_field bytes t i)))
unfolding read_field field
field_held t i bytes = by (is_blank t i) (take column_width (drop (i * column_width) bytes))
  where
    by : (b : Bool) (l : List ℕ) → let c = cond b (blank_as_zero (read_column l)) (read_column l) in is_number c ≡ true
        → (value_of c < 10 ^ column_width) × (b ≡ true → value_of c ≡ 0) × (l ≡ cond b blank (decimal column_width (value_of c)))
    by true l h = let e = blank_held (read_column l) h in rw e (omega arith, λ _. refl, blank_written l e)
    by false l h =
        let f = column_written l (value_of (read_column l)) (number_held (read_column l) h) in
        (f.0, λ e. clash e refl, f.1)

mark_held : (b : ℕ) → is_mark b ≡ true → b ≡ mark_byte (eqb b one_digit)
mark_held b h = by (eqb b zero_digit) (eqb b one_digit) refl refl h
  where
    by : (t u : Bool) → eqb b zero_digit ≡ t → eqb b one_digit ≡ u → (t || u) ≡ true → b ≡ mark_byte u
    by t true e f h = eqb-true b one_digit f
    by true false e f h = eqb-true b zero_digit e
    by false false e f h = absurd (false≢true h)

abbrev numbers_of : (bytes : List ℕ) → List ℕ
numbers_of bytes = numbers_found bytes (growths_read bytes)

number_at : (bytes : List ℕ) (i : ℕ) → i < column_count → get_or (numbers_of bytes) i 0 ≡ value_of (read_field bytes (growths_read bytes) i)
unfolding numbers_found
number_at bytes i h = get_d_table 0 (λ j. value_of (read_field bytes (growths_read bytes) j)) column_count i h

growths_at : (bytes : List ℕ) → growths (numbers_of bytes) ≡ growths_read bytes
growths_at bytes = number_at bytes 2 (omega arith) ∙ ap value_of (growths_field bytes (growths_read bytes))

module _ (bytes : List ℕ) (held : Holds bytes) where
  field_at : (i : ℕ) → i < column_count
      → (get_or (numbers_of bytes) i 0 < 10 ^ column_width)
      × (is_blank (growths (numbers_of bytes)) i ≡ true → get_or (numbers_of bytes) i 0 ≡ 0)
      × (take column_width (drop (i * column_width) bytes) ≡ field_of (numbers_of bytes) i)
  unfolding fields_hold
  field_at i h =
      rw (growths_at bytes, number_at bytes i h)
      (field_held (growths_read bytes) i bytes (every_use (λ j. is_number (read_field bytes (growths_read bytes) j)) column_count held.fields i h))

  writable : Writable (numbers_of bytes) (marks_found bytes)
  unfolding numbers_found marks_found
  writable =
      record {
        numbers_length = length_table _ column_count;
        marks_length = length_table _ mark_count;
        small = λ i h. (field_at i h).0;
        blank_zero = λ i h. (field_at i h).1;
      }

  columns_are : (k : ℕ) → k ≤ column_count → take (k * column_width) bytes ≡ columns (numbers_of bytes) k
  unfolding columns joined
  columns_are zero h = refl
  columns_are (suc k) h =
      let e : suc k * column_width ≡ k * column_width + column_width = omega arith in
      rw (e, take-add (k * column_width) column_width bytes, columns_are k (omega arith), (field_at k h).2)

  marks_are : take mark_count (drop 130 bytes) ≡ mark_bytes (marks_found bytes) mark_count
  unfolding mark_bytes marks_hold marks_found
  marks_are =
      let l : length (take mark_count (drop 130 bytes)) ≡ mark_count = simp (length-take, length-drop) (omega arith) in
      sym (table_self 0 (take mark_count (drop 130 bytes)) mark_count l)
      ∙ table_ext (λ i. get_or (take mark_count (drop 130 bytes)) i 0) (λ i. mark_byte (get_or (marks_found bytes) i false)) mark_count
      (λ i h. get_or-take mark_count (drop 130 bytes) i 0 h ∙ get_or-drop 130 bytes i 0
      ∙ mark_held (get_or bytes (130 + i) 0) (every_use (λ j. is_mark (get_or bytes (130 + j) 0)) mark_count held.marked i h)
      ∙ ap mark_byte (sym (get_d_table false (λ j. eqb (get_or bytes (130 + j) 0) one_digit) mark_count i h)))

  ending_is : drop 194 bytes ≡ ending
  unfolding spaces_hold
  ending_is =
      let l : length (drop 194 bytes) ≡ 318 = simp length-drop (omega arith) in
      ext_get_or 0 (drop 194 bytes) ending (l ∙ sym length_ending)
      (λ i h. get_or-drop 194 bytes i 0
      ∙ ⊎_elim
      (λ (q : i ≡ 317). rw q (held.ended ∙ sym ending_feed))
      (λ (q : i < 317). eqb-true _ _ (every_use (λ j. eqb (get_or bytes (194 + j) 0) space) 317 held.spaced i q) ∙ sym (ending_space i q))
      (eq-or-lt_of_le (le_of_suc-le-suc (rw l at h))))

  is_sector : bytes ≡ sector (numbers_of bytes) (marks_found bytes)
  unfolding sector
  is_sector =
      let e : drop mark_count (drop 130 bytes) ≡ ending = drop-drop mark_count 130 bytes ∙ ending_is in
      sym (take-append-drop 130 bytes)
      ∙ rw (columns_are column_count (omega arith), sym (take-append-drop mark_count (drop 130 bytes)), marks_are, e)

pub read_is_written : (bytes : List ℕ) (r : Record) → read_record bytes ≡ Ok r → Writable r.numbers r.marks × (bytes ≡ sector r.numbers r.marks)
unfolding read_record no_record
read_is_written bytes r =
    cond_cases (λ (found : Result Record Refusal). found ≡ Ok r → Writable r.numbers r.marks × (bytes ≡ sector r.numbers r.marks)) (is_record bytes)
    (λ e f.
    let held = holds bytes e in
    let same : record { numbers = numbers_of bytes; marks = marks_found bytes } ≡ r = cc in
    rw (← same) (writable bytes held, is_sector bytes held))
    (λ e f. cc)
