-- Laws of the bits of a word: and, or, complement, a single bit, ones, and the conversions to and from lists of tests.
use Prim.Native.Nat.{ℕ, zero, suc, ◌+◌, ◌-◌, ◌*◌, ◌/◌, ◌%◌, ◌^◌, ◌<◌, min, max}
use mathlib.Core.Path.{◌≡◌, refl, sym, ap, ◌∙◌}
use mathlib.Core.Bool.{Bool, true, false, cond, not, ◌&&◌}
use mathlib.Core.List.{List, [], ◌∷◌}
use native.Mathlib.Nat.{pow-succ', div-one}
use native.Mathlib.Numerals.{one-add}
use native.Mathlib.Omega.{arith}
use lib.Dec.{eqb, ltb, leb-suc-zero, leb-suc-suc}
use lib.ListN.{length, get_or, set}
use lib.Seq.{ext_get_or}
use lib.Pow.{pow_pos, shr-shr}
use lib.Bits.{bit_and, bit_or, and_step, or_step, or_zero_r}
use borrow.Author.Tests.{eqb-true, eqb-false, eq-eqb, ne_eqb, lt-ltb}
use Rattle.base.proofs.Booleans.{cond_cases}
use Rattle.base.specs.Bits.{bits, word_of}

-- ---- digits

-- what holds of 0 and 1 holds of a digit
pub of_digit : (P : ℕ → Type 0) (d : ℕ) → d < 2 → P 0 → P 1 → P d
of_digit P zero h a b = a
of_digit P (suc zero) h a b = b
of_digit P (suc (suc d)) h a b = absurd (omega arith)

odd_lt : (w : ℕ) → w % 2 < 2
odd_lt w = omega arith

and_digit : (x y : ℕ) → x < 2 → y < 2 → eqb (min x y) 1 ≡ (eqb x 1 && eqb y 1)
and_digit x y h k =
    of_digit (λ d. eqb (min d y) 1 ≡ (eqb d 1 && eqb y 1)) x h
    (of_digit (λ e. eqb (min 0 e) 1 ≡ (eqb 0 1 && eqb e 1)) y k refl refl)
    (of_digit (λ e. eqb (min 1 e) 1 ≡ (eqb 1 1 && eqb e 1)) y k refl refl)

and_half : (a b : ℕ) → bit_and a b / 2 ≡ bit_and (a / 2) (b / 2)
and_half a b =
    let s = and_step a b in
    let l = odd_lt a in
    omega (arith, s)

and_odd : (a b : ℕ) → bit_and a b % 2 ≡ min (a % 2) (b % 2)
and_odd a b =
    let s = and_step a b in
    let l = odd_lt a in
    omega (arith, s)

or_half : (a b : ℕ) → bit_or a b / 2 ≡ bit_or (a / 2) (b / 2)
or_half a b =
    let s = or_step a b in
    let l = odd_lt a in
    let k = odd_lt b in
    omega (arith, s)

or_odd : (a b : ℕ) → bit_or a b % 2 ≡ max (a % 2) (b % 2)
or_odd a b =
    let s = or_step a b in
    let l = odd_lt a in
    let k = odd_lt b in
    omega (arith, s)

-- ---- a bit of the list of bits

pub bits_length : (k w : ℕ) → length (bits k w) ≡ k
unfolding bits
bits_length zero w = refl
bits_length (suc k) w = ap suc (bits_length k (w / 2))

-- bit j
pub bit_at : (k w j : ℕ) → j < k → get_or (bits k w) j false ≡ eqb (w / 2 ^ j % 2) 1
unfolding bits
bit_at zero w j h = absurd (omega arith)
bit_at (suc k) w zero h = rw (div-one w)
bit_at (suc k) w (suc j) h =
    let e : w / 2 ^ suc j ≡ w / 2 / 2 ^ j = sym (shr-shr w 1 j ∙ rw (one-add j)) in
    rw e (bit_at k (w / 2) j (omega arith))

pub and_at : (k a b j : ℕ) → get_or (bits k (bit_and a b)) j false ≡ (get_or (bits k a) j false && get_or (bits k b) j false)
unfolding bits
and_at zero a b j = refl
and_at (suc k) a b zero = rw (and_odd a b) (and_digit (a % 2) (b % 2) (odd_lt a) (odd_lt b))
and_at (suc k) a b (suc j) = rw (and_half a b) (and_at k (a / 2) (b / 2) j)

-- the complement in k bits
pub not_at : (k a j : ℕ) → a < 2 ^ k → j < k → get_or (bits k (2 ^ k - 1 - a)) j false ≡ not (get_or (bits k a) j false)
unfolding bits
not_at zero a j h l = absurd (omega arith)
not_at (suc k) a zero h l =
    let g : a < 2 * 2 ^ k = rw pow-succ' at h in
    let o : (2 ^ suc k - 1 - a) % 2 ≡ 1 - a % 2 = rw pow-succ' (omega (arith, g)) in
    rw o (of_digit (λ d. eqb (1 - d) 1 ≡ not (eqb d 1)) (a % 2) (odd_lt a) refl refl)
not_at (suc k) a (suc j) h l =
    let g : a < 2 * 2 ^ k = rw pow-succ' at h in
    let e : (2 ^ suc k - 1 - a) / 2 ≡ 2 ^ k - 1 - a / 2 = rw pow-succ' (omega (arith, g)) in
    rw e (not_at k (a / 2) j (omega (arith, g)) (omega arith))

-- one bit more
pub or_bit : (k a j : ℕ) → bits k (bit_or a (2 ^ j)) ≡ set (bits k a) j true
unfolding bits
or_bit zero a j = refl
or_bit (suc k) a zero =
    let o : max (a % 2) 1 ≡ 1 = (let l = odd_lt a in omega arith) in
    rw (or_odd a 1, o, or_half a 1, or_zero_r (a / 2))
or_bit (suc k) a (suc j) =
    let o : 2 ^ suc j % 2 ≡ 0 = rw pow-succ' (omega arith) in
    let e : 2 ^ suc j / 2 ≡ 2 ^ j = rw pow-succ' (omega arith) in
    let z : max (a % 2) 0 ≡ a % 2 = omega arith in
    rw (or_odd a (2 ^ suc j), o, z, or_half a (2 ^ suc j), e, or_bit k (a / 2) j)

-- the bits of 0, and of a word of n ones
pub no_bit : (k j : ℕ) → get_or (bits k 0) j false ≡ false
unfolding bits
no_bit zero j = refl
no_bit (suc k) zero = refl
no_bit (suc k) (suc j) = no_bit k j

pub ones_at : (k n j : ℕ) → j < k → get_or (bits k (2 ^ n - 1)) j false ≡ ltb j n
unfolding bits
ones_at zero n j h = absurd (omega arith)
ones_at (suc k) zero j h = no_bit (suc k) j ∙ sym (leb-suc-zero j)
ones_at (suc k) (suc n) zero h =
    let o : (2 ^ suc n - 1) % 2 ≡ 1 = rw pow-succ' (let p = pow_pos n in omega arith) in
    rw o (sym (lt-ltb 0 (suc n) (omega arith)))
ones_at (suc k) (suc n) (suc j) h =
    let e : (2 ^ suc n - 1) / 2 ≡ 2 ^ n - 1 = rw pow-succ' (let p = pow_pos n in omega arith) in
    rw e (ones_at k n j (omega arith) ∙ sym (leb-suc-suc (suc j) n))

-- ---- words and lists of tests

bit_rest : (w : ℕ) → cond (eqb (w % 2) 1) 1 0 + 2 * (w / 2) ≡ w
bit_rest w =
    cond_cases (λ b. b + 2 * (w / 2) ≡ w) (eqb (w % 2) 1) (λ e. let o = eqb-true (w % 2) 1 e in omega (arith, o))
    (λ e. let o = eqb-false (w % 2) 1 e in omega (arith, o))

pub word_back : (k w : ℕ) → w < 2 ^ k → word_of (bits k w) ≡ w
unfolding bits word_of
word_back zero w h = omega arith
word_back (suc k) w h =
    let g : w < 2 * 2 ^ k = rw pow-succ' at h in
    rw (word_back k (w / 2) (omega (arith, g))) (bit_rest w)

pub word_small : (list : List Bool) → word_of list < 2 ^ length list
unfolding word_of
word_small [] = omega arith
word_small (true ∷ list) = rw pow-succ' (omega (arith, word_small list))
word_small (false ∷ list) = rw pow-succ' (omega (arith, word_small list))

pub bits_back : (list : List Bool) → bits (length list) (word_of list) ≡ list
unfolding bits word_of
bits_back [] = refl
bits_back (true ∷ list) =
    let half : (1 + 2 * word_of list) / 2 ≡ word_of list = omega arith in
    let odd : (1 + 2 * word_of list) % 2 ≡ 1 = omega arith in
    rw (half, eq-eqb ((1 + 2 * word_of list) % 2) 1 odd, bits_back list)
bits_back (false ∷ list) =
    let half : (0 + 2 * word_of list) / 2 ≡ word_of list = omega arith in
    let even : (0 + 2 * word_of list) % 2 ≡ 1 → ⊥ = λ e. omega arith in
    rw (half, ne_eqb ((0 + 2 * word_of list) % 2) 1 even, bits_back list)

-- words with the same bits are one
pub word_ext : (k a b : ℕ) → a < 2 ^ k → b < 2 ^ k → ((j : ℕ) → j < k → get_or (bits k a) j false ≡ get_or (bits k b) j false) → a ≡ b
word_ext k a b ha hb h =
    sym (word_back k a ha)
    ∙ ap word_of (ext_get_or false (bits k a) (bits k b) (bits_length k a ∙ sym (bits_length k b)) (λ j l. h j (rw (bits_length k a) at l)))
    ∙ word_back k b hb
