-- One column: what was written is read, and what is read is what writing gives.
use Prim.Native.Nat.{ℕ, zero, suc, ◌+◌, ◌-◌, ◌*◌, ◌/◌, ◌%◌, ◌^◌, ◌≤◌, ◌<◌}
use mathlib.Core.Path.{◌≡◌, refl, ap, sym, ◌∙◌}
use mathlib.Core.Bool.{true, not, ◌&&◌}
use mathlib.Core.List.{List}
use native.Mathlib.Nat.{mod-lt, div-add-mod', pow-succ'}
use native.Mathlib.Numerals.{add-one}
use native.Mathlib.Omega.{arith}
use borrow.Author.Tests.{le-leb, eqb-true, eqb-false, eq-eqb, ne_eqb, not-true}
use lib.Dec.{eqb}
use lib.Arith.{digits_div, digits_mod}
use lib.ListN.{length, take, get_or}
use lib.Seq.{take-suc, take_all}
use Rattle.base.proofs.Booleans.{cond_cases, and_left, and_right, and_both}
use Rattle.record.specs.declared.Column.{Column}
use Rattle.record.specs.declared.Column.TheVariants.{Number, Blank, NotANumber}
use Rattle.record.specs.Decimal.{space, zero_digit, column_width, last_digit, leading, decimal, blank, is_digit, column_step, column_fold, read_column}
use Rattle.record.proofs.Lengths.{length_decimal}
use Rattle.record.proofs.Folds.{fold_snoc, fold_next, digit_low, digit_high, fold_small}

-- what the bytes of `leading w n` hold
abbrev shown : (n : ℕ) → Column
shown zero = Blank
shown (suc n) = Number (suc n)

leading_suc : (w n : ℕ) → leading (suc w) (suc n) ≡ decimal (suc w) (suc n)
unfolding leading decimal
leading_suc w n = rw (ne_eqb (suc n) 0 (λ e. omega arith))

-- ---- what was written is read

digit_made : (r : ℕ) → r < 10 → is_digit (zero_digit + r) ≡ true
unfolding is_digit
digit_made r h = and_both (le-leb zero_digit (zero_digit + r) (omega arith)) (le-leb (zero_digit + r) (zero_digit + 9) (omega arith))

step_digit : (q r : ℕ) → r < 10 → column_step (shown q) (zero_digit + r) ≡ Number (q * 10 + r)
unfolding column_step
step_digit zero r h =
    let k : zero_digit + r - zero_digit ≡ 0 * 10 + r = omega arith in
    rw (ne_eqb (zero_digit + r) space (λ e. omega arith), digit_made r h, k)
step_digit (suc q) r h =
    let k : zero_digit + r - zero_digit ≡ r = omega arith in
    rw (digit_made r h, ne_eqb (suc q) 0 (λ e. omega arith), k)

decimal_read : (w n : ℕ) → column_fold Blank (leading w (n / 10)) ≡ shown (n / 10) → column_fold Blank (decimal (suc w) n) ≡ Number n
unfolding decimal
decimal_read w n e =
    fold_snoc Blank (leading w (n / 10)) (last_digit n)
    ∙ rw (e, step_digit (n / 10) (n % 10) (mod-lt n (omega arith)), div-add-mod' n 10)

shorter : (n w : ℕ) → n < 10 ^ suc w → n / 10 < 10 ^ w
shorter n w h = omega (arith, pow-succ' 10 w, div-add-mod' n 10)

leading_read : (w n : ℕ) → n < 10 ^ w → column_fold Blank (leading w n) ≡ shown n
unfolding leading column_fold column_step
leading_read zero n h = let e : n ≡ 0 = omega arith in rw e
leading_read (suc w) zero h = fold_snoc Blank (leading w 0) space ∙ rw (leading_read w 0 (shorter 0 w h))
leading_read (suc w) (suc n) h =
    ap (column_fold Blank) (leading_suc w n) ∙ decimal_read w (suc n) (leading_read w (suc n / 10) (shorter (suc n) w h))

pub decimal_found : (w n : ℕ) → n < 10 ^ suc w → column_fold Blank (decimal (suc w) n) ≡ Number n
decimal_found w n h = decimal_read w n (leading_read w (n / 10) (shorter n w h))

pub column_read : (n : ℕ) → n < 10 ^ column_width → read_column (decimal column_width n) ≡ Number n
unfolding read_column
column_read n h = rw (eq-eqb _ _ (length_decimal column_width n)) (decimal_found 9 n h)

pub blank_read : read_column blank ≡ Blank
unfolding read_column blank column_fold column_step
blank_read = refl

-- ---- what is read is what writing gives

impossible : {A : Type 0} → ◌≡◌ {A = ℕ} 0 1 → A
impossible e = absurd (omega arith)

last_digit_law : (q b n : ℕ) → is_digit b ≡ true → n ≡ q * 10 + (b - zero_digit) → (q ≡ n / 10) × (b ≡ last_digit n)
last_digit_law q b n h e =
    let k : b - zero_digit < 10 = omega (arith, digit_high b h) in
    rw (e, digits_div q k, digits_mod q k) (refl, omega (arith, digit_low b h))

shown_number : (n : ℕ) → (n ≡ 0 → ⊥) → Number n ≡ shown n
shown_number zero h = absurd (h refl)
shown_number (suc n) h = refl

step_number : (c : Column) (b n : ℕ) → column_step c b ≡ Number n → (c ≡ shown (n / 10)) × (b ≡ last_digit n)
unfolding column_step
step_number (Number q) b n =
    cond_cases (λ c. c ≡ Number n → (Number q ≡ shown (n / 10)) × (b ≡ last_digit n)) (is_digit b && not (eqb q 0))
    (λ f e. let g = last_digit_law q b n (and_left (is_digit b) (not (eqb q 0)) f) (cc) in
    (shown_number q (eqb-false q 0 (not-true (eqb q 0) (and_right (is_digit b) (not (eqb q 0)) f))) ∙ ap shown g.0, g.1))
    (λ _ e. impossible (cc))
step_number Blank b n =
    cond_cases (λ c. c ≡ Number n → (Blank ≡ shown (n / 10)) × (b ≡ last_digit n)) (eqb b space) (λ _ e. impossible (cc))
    (λ _. cond_cases (λ c. c ≡ Number n → (Blank ≡ shown (n / 10)) × (b ≡ last_digit n)) (is_digit b)
    (λ f e. let k : n ≡ b - zero_digit = cc in let g = last_digit_law 0 b n f (omega arith) in (ap shown g.0, g.1))
    (λ _ e. impossible (cc)))
step_number NotANumber b n = λ e. impossible (cc)

step_blank : (c : Column) (b : ℕ) → column_step c b ≡ Blank → (c ≡ Blank) × (b ≡ space)
unfolding column_step
step_blank (Number q) b =
    cond_cases (λ c. c ≡ Blank → (Number q ≡ Blank) × (b ≡ space)) (is_digit b && not (eqb q 0)) (λ _ e. impossible (cc)) (λ _ e. impossible (cc))
step_blank Blank b =
    cond_cases (λ c. c ≡ Blank → (Blank ≡ Blank) × (b ≡ space)) (eqb b space) (λ f _. (refl, eqb-true b space f))
    (λ _. cond_cases (λ c. c ≡ Blank → (Blank ≡ Blank) × (b ≡ space)) (is_digit b) (λ _ e. impossible (cc)) (λ _ e. impossible (cc)))
step_blank NotANumber b = λ e. impossible (cc)

module _ (l : List ℕ) where
  last_step : (w : ℕ) (c : Column) → w < length l → column_fold Blank (take (suc w) l) ≡ c
      → column_step (column_fold Blank (take w l)) (get_or l w 0) ≡ c
  last_step w c h e = sym (fold_next l w h) ∙ rw add-one e

  -- the last digit, given what stands before it
  decimal_written : (w n : ℕ) → w < length l → (column_fold Blank (take w l) ≡ shown (n / 10) → take w l ≡ leading w (n / 10))
      → column_fold Blank (take (suc w) l) ≡ Number n → take (suc w) l ≡ decimal (suc w) n
  unfolding decimal
  decimal_written w n h before e =
      let f = step_number (column_fold Blank (take w l)) (get_or l w 0) n (last_step w (Number n) h e) in
      take-suc l w 0 h ∙ rw (before f.0, f.1)

  leading_written : (w n : ℕ) → w ≤ length l → column_fold Blank (take w l) ≡ shown n → take w l ≡ leading w n
  unfolding leading
  leading_written zero n h e = refl
  leading_written (suc w) zero h e =
      let f = step_blank (column_fold Blank (take w l)) (get_or l w 0) (last_step w Blank h e) in
      take-suc l w 0 h ∙ rw (leading_written w 0 (omega arith) f.0, f.1)
  leading_written (suc w) (suc n) h e =
      decimal_written w (suc n) h (leading_written w (suc n / 10) (omega arith)) e ∙ sym (leading_suc w n)

-- bytes that hold a number or are blank are ten
ten_bytes : (bytes : List ℕ) (c : Column) → read_column bytes ≡ c → (NotANumber ≡ c → ⊥)
    → (length bytes ≡ column_width) × (column_fold Blank (take column_width bytes) ≡ c)
unfolding read_column
ten_bytes bytes c e other =
    cond_cases (λ x. x ≡ c → (length bytes ≡ column_width) × (column_fold Blank (take column_width bytes) ≡ c)) (eqb (length bytes) column_width)
    (λ f g. let k = eqb-true (length bytes) column_width f in (k, rw (take_all column_width bytes (omega arith)) g)) (λ _ g. absurd (other g)) e

pub column_written : (bytes : List ℕ) (n : ℕ) → read_column bytes ≡ Number n → (n < 10 ^ column_width) × (bytes ≡ decimal column_width n)
column_written bytes n e =
    let f = ten_bytes bytes (Number n) e (λ z. impossible (cc)) in (
      rw f.1 at (fold_small bytes column_width (omega arith)),
      sym (take_all column_width bytes (omega arith))
          ∙ decimal_written bytes 9 n (omega arith) (leading_written bytes 9 (n / 10) (omega arith)) f.1,
    )

pub blank_written : (bytes : List ℕ) → read_column bytes ≡ Blank → bytes ≡ blank
unfolding blank leading
blank_written bytes e =
    let f = ten_bytes bytes Blank e (λ z. impossible (cc)) in
    sym (take_all column_width bytes (omega arith)) ∙ leading_written bytes column_width 0 (omega arith) f.1
