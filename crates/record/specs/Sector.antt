-- Document 01, "Medium, state, record": the 512 bytes of the record, from thirteen numbers and 64 marks, and the reading of
-- them. The numbers are Z, s, t, N[0] to N[7], growing and w, in the order of their columns.
use Rattle.std.specs.Prelude.{ℕ, ◌+◌, ◌*◌, Bool, true, false, cond, ◌&&◌, ◌||◌, List, [], ◌∷◌, ◌++◌, eqb, ltb, length, take, drop, get_or, replicate, Result, Ok, Err}
use Rattle.base.specs.Below.{every, table, joined}
use Rattle.base.specs.declared.Refusal.{Refusal}
use Rattle.base.specs.declared.Refusal.TheVariants.{NoRecord}
use Rattle.record.specs.declared.Column.{Column}
use Rattle.record.specs.declared.Column.TheVariants.{Number, Blank, NotANumber}
use Rattle.record.specs.declared.Record.{Record}
use Rattle.record.specs.Decimal.{space, zero_digit, column_width, decimal, blank, read_column, value_of}

-- Z, s and t are columns 0 to 2, N[k] is column 3 + k, growing and w are columns 11 and 12
abbrev pub column_count : ℕ
column_count = 13

abbrev pub growths : (numbers : List ℕ) → ℕ
growths numbers = get_or numbers 2 0

abbrev pub mark_count : ℕ
mark_count = 64

-- the bytes '1' and 0x0A
abbrev pub one_digit : ℕ
one_digit = 0x31

abbrev pub line_feed : ℕ
line_feed = 0x0A

-- ---- writing

-- "counts after N[t] blank": whether column i is one of them
unfoldable pub is_blank : (t i : ℕ) → Bool
is_blank t i = ltb (3 + t) i && ltb i 11

unfoldable pub field : (t i n : ℕ) → List ℕ
field t i n = cond (is_blank t i) blank (decimal column_width n)

-- "Z at byte 0, s at 10, t at 20, N[0] to N[7] from 30 (counts after N[t] blank), growing at 110, w at 120": the first k of them
unfoldable pub columns : (numbers : List ℕ) (k : ℕ) → List ℕ
columns numbers k = joined (λ i. field (growths numbers) i (get_or numbers i 0)) k

-- "the marks, '0' or '1'", the first k
abbrev pub mark_byte : (mark : Bool) → ℕ
mark_byte mark = cond mark one_digit zero_digit

unfoldable pub mark_bytes : (marks : List Bool) (k : ℕ) → List ℕ
mark_bytes marks k = table (λ i. mark_byte (get_or marks i false)) k

-- "Bytes 194 to 510 are spaces, 511 is 0x0A."
unfoldable pub ending : List ℕ
ending = replicate 317 space ++ (line_feed ∷ [])

-- the record, 512 bytes
unfoldable pub sector : (numbers : List ℕ) (marks : List Bool) → List ℕ
sector numbers marks = columns numbers column_count ++ (mark_bytes marks mark_count ++ ending)

-- ---- reading

abbrev pub is_number : (c : Column) → Bool
is_number (Number n) = true
is_number Blank = false
is_number NotANumber = false

-- a column that has to be blank: its number is 0
abbrev pub blank_as_zero : (c : Column) → Column
blank_as_zero (Number n) = NotANumber
blank_as_zero Blank = Number 0
blank_as_zero NotANumber = NotANumber

abbrev pub column_at : (bytes : List ℕ) (i : ℕ) → Column
column_at bytes i = read_column (take column_width (drop (i * column_width) bytes))

-- what column i holds where t growths were made
unfoldable pub read_field : (bytes : List ℕ) (t i : ℕ) → Column
read_field bytes t i = cond (is_blank t i) (blank_as_zero (column_at bytes i)) (column_at bytes i)

abbrev pub growths_read : (bytes : List ℕ) → ℕ
growths_read bytes = value_of (column_at bytes 2)

abbrev pub is_mark : (b : ℕ) → Bool
is_mark b = eqb b zero_digit || eqb b one_digit

-- the tests on the way
unfoldable pub fields_hold : (bytes : List ℕ) (t : ℕ) → Bool
fields_hold bytes t = every (λ i. is_number (read_field bytes t i)) column_count

unfoldable pub marks_hold : (bytes : List ℕ) → Bool
marks_hold bytes = every (λ i. is_mark (get_or bytes (130 + i) 0)) mark_count

unfoldable pub spaces_hold : (bytes : List ℕ) → Bool
spaces_hold bytes = every (λ i. eqb (get_or bytes (194 + i) 0) space) 317

unfoldable pub is_record : (bytes : List ℕ) → Bool
is_record bytes =
    eqb (length bytes) 512
    && (fields_hold bytes (growths_read bytes)
    && (marks_hold bytes
    && (spaces_hold bytes
    && eqb (get_or bytes 511 0) line_feed)))

-- what is found there
unfoldable pub numbers_found : (bytes : List ℕ) (t : ℕ) → List ℕ
numbers_found bytes t = table (λ i. value_of (read_field bytes t i)) column_count

unfoldable pub marks_found : (bytes : List ℕ) → List Bool
marks_found bytes = table (λ i. eqb (get_or bytes (130 + i) 0) one_digit) mark_count

-- The columns alone, the marks alone, the whole: what is found, or refusal 13.
unfoldable pub read_numbers : (bytes : List ℕ) (t : ℕ) → Result (List ℕ) Refusal
read_numbers bytes t = cond (fields_hold bytes t) (Ok (numbers_found bytes t)) (Err NoRecord)

unfoldable pub read_marks : (bytes : List ℕ) → Result (List Bool) Refusal
read_marks bytes = cond (marks_hold bytes) (Ok (marks_found bytes)) (Err NoRecord)

unfoldable pub no_record : Result Record Refusal
no_record = Err NoRecord

-- the numbers and marks of a record, or refusal 13
unfoldable pub read_record : (bytes : List ℕ) → Result Record Refusal
read_record bytes =
    cond (is_record bytes)
    (Ok (record { numbers = numbers_found bytes (growths_read bytes); marks = marks_found bytes }))
    no_record
