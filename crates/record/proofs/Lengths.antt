-- The lengths of the record's parts.
use Prim.Native.Nat.{ℕ, zero, suc, ◌*◌, ◌/◌}
use mathlib.Core.Path.{◌≡◌, refl}
use mathlib.Core.Bool.{Bool}
use mathlib.Core.List.{List}
use native.Mathlib.Numerals.{add-one}
use lib.ListN.{length, get_or, length-append}
use Rattle.base.proofs.Booleans.{cond_cases}
use Rattle.base.proofs.Lists.{length_table, length_joined}
use Rattle.record.specs.Decimal.{column_width, leading, decimal, blank}
use Rattle.record.specs.Sector.{column_count, mark_count, growths, is_blank, field, columns, mark_bytes, ending, sector}

pub length_leading : (w n : ℕ) → length (leading w n) ≡ w
unfolding leading
length_leading zero n = refl
length_leading (suc w) n = simp (length-append, length_leading w (n / 10)) (add-one w)

pub length_decimal : (w n : ℕ) → length (decimal w n) ≡ w
unfolding decimal
length_decimal zero n = refl
length_decimal (suc w) n = simp (length-append, length_leading w (n / 10)) (add-one w)

pub length_field : (t i n : ℕ) → length (field t i n) ≡ column_width
unfolding field blank
length_field t i n = cond_cases (λ (l : List ℕ). length l ≡ column_width) (is_blank t i) (λ _. refl) (λ _. length_decimal column_width n)

pub length_columns : (numbers : List ℕ) (k : ℕ) → length (columns numbers k) ≡ k * column_width
unfolding columns
length_columns numbers k = length_joined _ column_width (λ i. length_field (growths numbers) i (get_or numbers i 0)) k

pub length_marks : (marks : List Bool) (k : ℕ) → length (mark_bytes marks k) ≡ k
unfolding mark_bytes
length_marks marks k = length_table _ k

pub length_ending : length ending ≡ 318
unfolding ending
length_ending = simp length-append

pub length_sector : (numbers : List ℕ) (marks : List Bool) → length (sector numbers marks) ≡ 512
unfolding sector ending
length_sector numbers marks = simp (length-append, length_columns numbers column_count, length_marks marks mark_count)
