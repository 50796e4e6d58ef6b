-- What is proved of the record: `RecordLaws`. `proofs/Theorems.antt` has the proof.
use Rattle.std.specs.Prelude.{ℕ, ◌^◌, ◌<◌, ◌≡◌, Bool, true, List, length, get_or, Ok}
use Rattle.record.specs.declared.Column.TheVariants.{Number, Blank}
use Rattle.record.specs.declared.Record.{Record}
use Rattle.record.specs.Decimal.{column_width, decimal, blank, read_column}
use Rattle.record.specs.Sector.{column_count, mark_count, growths, is_blank, sector, read_record}

-- numbers and marks that a record can hold: each number in ten digits, 0 where its column is blank
pub record Writable (numbers : List ℕ) (marks : List Bool) : Type 0 where
  pub numbers_length : length numbers ≡ column_count
  pub marks_length : length marks ≡ mark_count
  pub small : (i : ℕ) → i < column_count → get_or numbers i 0 < 10 ^ column_width
  pub blank_zero : (i : ℕ) → i < column_count → is_blank (growths numbers) i ≡ true → get_or numbers i 0 ≡ 0

pub record RecordLaws : Type 0 where
  -- a column: what was written is read, and what is read is what writing gives
  pub column_length : (w n : ℕ) → length (decimal w n) ≡ w
  pub column_read : (n : ℕ) → n < 10 ^ column_width → read_column (decimal column_width n) ≡ Number n
  pub blank_read : read_column blank ≡ Blank
  pub column_written : (bytes : List ℕ) (n : ℕ) → read_column bytes ≡ Number n → (n < 10 ^ column_width) × (bytes ≡ decimal column_width n)
  pub blank_written : (bytes : List ℕ) → read_column bytes ≡ Blank → bytes ≡ blank
  -- the whole record, the same
  pub sector_length : (numbers : List ℕ) (marks : List Bool) → length (sector numbers marks) ≡ 512
  pub written_is_read : (numbers : List ℕ) (marks : List Bool) → Writable numbers marks
      → read_record (sector numbers marks) ≡ Ok (record { numbers = numbers; marks = marks })
  pub read_is_written : (bytes : List ℕ) (r : Record) → read_record bytes ≡ Ok r → Writable r.numbers r.marks × (bytes ≡ sector r.numbers r.marks)
