-- What the code that shifts 1, and the code that stores the bits of a word one by one, needs.
use Prim.Native.Nat.{ℕ, zero, suc, ◌+◌, ◌-◌, ◌*◌, ◌/◌, ◌%◌, ◌^◌, ◌≤◌, ◌<◌}
use mathlib.Core.Path.{◌≡◌, refl, subst, sym, ap, ◌∙◌}
use mathlib.Core.Bool.{Bool, false}
use mathlib.Core.List.{List, ◌∷◌, ◌++◌, append-nil}
use native.Mathlib.Nat.{one-mul}
use native.Mathlib.Numerals.{add-one, one-add}
use native.Mathlib.Omega.{arith}
use lib.Dec.{eqb, lit<}
use lib.ListN.{length, take, drop, set, replicate, take-append-drop}
use lib.Pow.{shl_exact}
use lib.Seq.{take_all, take-suc-set, drop-drop, drop-set-lt, append_snoc}
use Rattle.base.specs.Bits.{bits}

-- ---- shifts

-- `1 << j`, which the machine has as a product cut to 64 bits, is 2 ^ j
pub one_shl : (j : ℕ) → j < 64 → (1 * 2 ^ j) % 2 ^ 64 ≡ 2 ^ j
one_shl j h = shl_exact {a = 1} 1 j 64 (lit< tt) (subst (λ (x : ℕ). x ≤ 64) (sym (one-add j)) h) ∙ one-mul (2 ^ j)

-- ---- the marks of a word

-- one mark more
pub bits_next : (n j word rest : ℕ) (marks : List Bool) → length marks ≡ n → j < n
    → bits n word ≡ take j marks ++ bits (n - j) rest
    → bits n word ≡ take (j + 1) (set marks j (eqb (rest % 2) 1)) ++ bits (n - (j + 1)) (rest / 2)
unfolding bits
bits_next n j word rest marks e h b =
    let k : n - j ≡ suc (n - suc j) = omega arith in
    let l : j < length marks = omega (arith, e) in
    rw k at b ∙ rw (add-one, take-suc-set marks j (eqb (rest % 2) 1) l) (sym (append_snoc (take j marks) (eqb (rest % 2) 1) (bits (n - suc j) (rest / 2))))

pub bits_all : (n word rest : ℕ) (marks : List Bool) → length marks ≡ n → bits n word ≡ take n marks ++ bits 0 rest → marks ≡ bits n word
unfolding bits
bits_all n word rest marks e b = sym (b ∙ append-nil (take n marks) ∙ take_all n marks (omega (arith, e)))

-- a word with no further bits
no_bits : (k : ℕ) → bits k 0 ≡ replicate k false
unfolding bits
no_bits zero = refl
no_bits (suc k) = ap {B = List Bool} (λ l. false ∷ l) (no_bits k)

pub bits_rest : (n j word : ℕ) (marks : List Bool) → bits n word ≡ take j marks ++ bits (n - j) 0 → drop j marks ≡ replicate (n - j) false
    → marks ≡ bits n word
bits_rest n j word marks b e = sym (b ∙ rw (no_bits (n - j), ← e) (take-append-drop j marks))

-- the marks after the one stored are not set
pub still_unset : (n j : ℕ) (marks : List Bool) (mark : Bool) → j < n → drop j marks ≡ replicate (n - j) false
    → drop (j + 1) (set marks j mark) ≡ replicate (n - (j + 1)) false
still_unset n j marks mark h e =
    let k : n - j ≡ suc (n - suc j) = omega arith in
    let d : drop 1 (drop j marks) ≡ replicate (n - suc j) false = rw (e, k) in
    rw (add-one, drop-set-lt (suc j) marks j mark (omega arith)) (rw (drop-drop, add-one) at d)
