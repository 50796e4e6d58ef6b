-- A column read byte by byte: one byte more, and how large its number can be.
use Prim.Native.Nat.{ℕ, zero, suc, ◌+◌, ◌*◌, ◌^◌, ◌≤◌, ◌<◌}
use mathlib.Core.Path.{◌≡◌, refl}
use mathlib.Core.Bool.{true, not, ◌&&◌}
use mathlib.Core.List.{List, [], ◌∷◌, ◌++◌}
use native.Mathlib.Nat.{pow-succ'}
use native.Mathlib.Numerals.{add-one}
use native.Mathlib.Omega.{arith}
use borrow.Author.Tests.{leb-true}
use lib.Dec.{leb, eqb}
use lib.ListN.{length, take, get_or}
use lib.Seq.{take-suc}
use Rattle.base.proofs.Booleans.{cond_cases, and_left, and_right}
use Rattle.record.specs.declared.Column.{Column}
use Rattle.record.specs.declared.Column.TheVariants.{Number, Blank, NotANumber}
use Rattle.record.specs.Decimal.{space, zero_digit, is_digit, column_step, column_fold, value_of}

pub fold_snoc : (c : Column) (bytes : List ℕ) (b : ℕ) → column_fold c (bytes ++ (b ∷ [])) ≡ column_step (column_fold c bytes) b
unfolding column_fold
fold_snoc c [] b = refl
fold_snoc c (x ∷ bytes) b = fold_snoc (column_step c x) bytes b

-- one byte more of a column
pub fold_next : (l : List ℕ) (i : ℕ) → i < length l
    → column_fold Blank (take (i + 1) l) ≡ column_step (column_fold Blank (take i l)) (get_or l i 0)
fold_next l i h = rw (add-one, take-suc l i 0 h) (fold_snoc Blank (take i l) (get_or l i 0))

pub digit_low : (b : ℕ) → is_digit b ≡ true → zero_digit ≤ b
unfolding is_digit
digit_low b h = leb-true zero_digit b (and_left (leb zero_digit b) (leb b (zero_digit + 9)) h)

pub digit_high : (b : ℕ) → is_digit b ≡ true → b ≤ zero_digit + 9
unfolding is_digit
digit_high b h = leb-true b (zero_digit + 9) (and_right (leb zero_digit b) (leb b (zero_digit + 9)) h)

-- a byte more makes the number less than tenfold the bound
pub step_small : (c : Column) (b bound : ℕ) → value_of c < bound → value_of (column_step c b) < 10 * bound
unfolding column_step
step_small (Number n) b bound h =
    cond_cases (λ c. value_of c < 10 * bound) (is_digit b && not (eqb n 0))
    (λ e. omega (arith, digit_high b (and_left (is_digit b) (not (eqb n 0)) e))) (λ _. omega arith)
step_small Blank b bound h =
    cond_cases (λ c. value_of c < 10 * bound) (eqb b space) (λ _. omega arith)
    (λ _. cond_cases (λ c. value_of c < 10 * bound) (is_digit b) (λ e. omega (arith, digit_high b e)) (λ _. omega arith))
step_small NotANumber b bound h = omega arith

pub fold_small : (l : List ℕ) (i : ℕ) → i ≤ length l → value_of (column_fold Blank (take i l)) < 10 ^ i
unfolding column_fold
fold_small l zero h = omega arith
fold_small l (suc i) h =
    rw (take-suc l i 0 h, fold_snoc Blank (take i l) (get_or l i 0), pow-succ')
    (step_small (column_fold Blank (take i l)) (get_or l i 0) (10 ^ i) (fold_small l i (omega arith)))
