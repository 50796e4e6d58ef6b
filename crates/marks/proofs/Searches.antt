-- Counts of bits: the set bits of a word are counted by `ones`, and the lowest is found by `count_trailing_zeros`.
use Prim.Native.Nat.{ℕ, zero, suc, ◌+◌, ◌*◌, ◌/◌, ◌%◌, ◌^◌, ◌≤◌, ◌<◌}
use mathlib.Core.Path.{◌≡◌, refl}
use mathlib.Core.Bool.{Bool, true, false, cond}
use mathlib.Core.List.{List, ◌∷◌}
use native.Mathlib.Nat.{pow-succ', not-suc-le-zero, le_of_suc-le-suc}
use native.Mathlib.Decide.{ℕ_discrete}
use native.Mathlib.Omega.{arith}
use lib.Dec.{eqb}
use lib.ListN.{get_or}
use lib.Count.{ones, ones_step, count_trailing_zeros, under}
use Rattle.base.specs.Below.{count}
use Rattle.base.specs.Bits.{bits}
use Rattle.base.proofs.Bits.{of_digit}

-- ---- ones

-- a count from the lowest number on
count_first : (p : ℕ → Bool) (n : ℕ) → count p (suc n) ≡ cond (p 0) 1 0 + count (λ i. p (suc i)) n
unfolding count
count_first p zero = omega arith
count_first p (suc n) = omega (arith, count_first p n)

pub ones_bits : (k w : ℕ) → w < 2 ^ k → ones w ≡ count (λ j. get_or (bits k w) j false) k
unfolding bits count ones
ones_bits zero w h =
    let e : w ≡ 0 = omega arith in
    rw e
ones_bits (suc k) w h =
    let g : w < 2 * 2 ^ k = rw pow-succ' at h in
    let d : cond (eqb (w % 2) 1) 1 0 ≡ w % 2 = of_digit (λ x. cond (eqb x 1) 1 0 ≡ x) (w % 2) (omega arith) refl refl in
    omega (arith, ones_step w, ones_bits k (w / 2) (omega (arith, g)), count_first (λ j. get_or (bits (suc k) w) j false) k, d)

-- numbers from n on that all fail count for nothing
pub count_cut : (p : ℕ → Bool) (n k : ℕ) → n ≤ k → ((i : ℕ) → n ≤ i → i < k → p i ≡ false) → count p k ≡ count p n
unfolding count
count_cut p zero zero h f = refl
count_cut p (suc n) zero h f = absurd (not-suc-le-zero h)
count_cut p n (suc k) h f =
    elim (ℕ_discrete n (suc k)) [
      | yes e ↦ rw e
      | no e ↦
          rw (f k (omega (arith, e)) (omega arith), count_cut p n k (omega (arith, e)) (λ i a b. f i a (omega arith))) (omega arith)
    ]

-- ---- the lowest set bit

before_digit : (d t j : ℕ) (l : List Bool) → j < under d t → ((i : ℕ) → i < t → get_or l i false ≡ false) → get_or (eqb d 1 ∷ l) j false ≡ false
before_digit zero t zero l h f = refl
before_digit zero t (suc j) l h f = f j (le_of_suc-le-suc h)
before_digit (suc d) t j l h f = absurd (not-suc-le-zero h)

found_digit : (d t k : ℕ) (l : List Bool) → d < 2 → under d t < suc k → (t < k → get_or l t false ≡ true) → get_or (eqb d 1 ∷ l) (under d t) false ≡ true
found_digit zero t k l e h f = f (le_of_suc-le-suc h)
found_digit (suc zero) t k l e h f = refl
found_digit (suc (suc d)) t k l e h f = absurd (omega arith)

pub trailing_before : (k w j : ℕ) → j < count_trailing_zeros k w → get_or (bits k w) j false ≡ false
unfolding bits count_trailing_zeros
trailing_before zero w j h = refl
trailing_before (suc k) w j h = before_digit (w % 2) (count_trailing_zeros k (w / 2)) j (bits k (w / 2)) h (trailing_before k (w / 2))

pub trailing_found : (k w : ℕ) → count_trailing_zeros k w < k → get_or (bits k w) (count_trailing_zeros k w) false ≡ true
unfolding bits count_trailing_zeros
trailing_found zero w h = absurd (omega arith)
trailing_found (suc k) w h = found_digit (w % 2) (count_trailing_zeros k (w / 2)) k (bits k (w / 2)) (omega arith) h (trailing_found k (w / 2))
