-- Laws of `first` and `lowest`.
use Prim.Native.Nat.{ℕ, zero, suc, ◌≤◌, ◌<◌}
use mathlib.Core.Path.{◌≡◌, refl, ap, ◌∙◌, subst}
use mathlib.Core.Bool.{Bool, true, false, cond}
use mathlib.Core.Option.{Option, none, some}
use native.Mathlib.Decide.{dec_lt, ℕ_discrete}
use native.Mathlib.Omega.{arith}
use lib.Dec.{ltb}
use borrow.Author.Tests.{ltb-true, ltb-false}
use Rattle.base.specs.Below.{first, lower, lowest}
use Rattle.base.proofs.Booleans.{cond_cases, clash}

-- a number below a bound that is one more
below_next : (P : ℕ → Type 0) (n : ℕ) → P n → ((y : ℕ) → y < n → P y) → (y : ℕ) → y < suc n → P y
below_next P n a f y h = elim (ℕ_discrete y n) [ yes q ↦ rw q a | no q ↦ f y (omega (arith, q)) ]

-- ---- the first that passes

-- k is the first that passes, or the bound
unfoldable First : (p : ℕ → Bool) (n k : ℕ) → Type 0
First p n k = (k ≤ n) × ((i : ℕ) → i < k → p i ≡ false) × (k < n → p k ≡ true)

is_first : (p : ℕ → Bool) (n : ℕ) → First p n (first p n)
unfolding First first
is_first p zero = (omega arith, (λ i h. absurd (omega arith)), (λ h. absurd (omega arith)))
is_first p (suc n) =
    let k = is_first p n in
    cond_cases (First p (suc n)) (ltb (first p n) n)
    (λ e. (omega (arith, k.0), k.1, (λ h. k.2 (ltb-true _ _ e))))
    (λ e.
    let q : first p n ≡ n = omega (arith, k.0, ltb-false (first p n) n e) in
    let f : (i : ℕ) → i < n → p i ≡ false = λ i h. k.1 i (rw q h) in
    cond_cases (First p (suc n)) (p n) (λ t. (omega arith, f, (λ h. t)))
    (λ t. (omega arith, below_next (λ i. p i ≡ false) n t f, (λ h. absurd (omega arith)))))

module _ (p : ℕ → Bool) (n : ℕ) where
  pub first_most : first p n ≤ n
  unfolding First
  first_most = (is_first p n).0

  -- those before it fail, and it passes if it isn't the bound
  pub first_before : (i : ℕ) → i < first p n → p i ≡ false
  unfolding First
  first_before = (is_first p n).1

  pub first_passes : first p n < n → p (first p n) ≡ true
  unfolding First
  first_passes = (is_first p n).2

  pub first_found : (j : ℕ) → j < n → ((i : ℕ) → i < j → p i ≡ false) → p j ≡ true → first p n ≡ j
  first_found j h f e =
      elim (dec_lt (first p n) j) [
        | yes k ↦ clash (first_passes (omega arith)) (f (first p n) k)
        | no k ↦ elim (dec_lt j (first p n)) [ yes l ↦ clash e (first_before j l) | no l ↦ omega (arith, k, l) ]
      ]

  pub first_none : ((i : ℕ) → i < n → p i ≡ false) → first p n ≡ n
  first_none f =
      elim (dec_lt (first p n) n) [ yes k ↦ clash (first_passes k) (f (first p n) k) | no k ↦ omega (arith, k, first_most) ]

-- ---- the one of lowest rank that passes

-- what is known of what is found among the numbers below n
unfoldable Known : (rank : ℕ → ℕ) (p : ℕ → Bool) (n : ℕ) (found : Option ℕ) → Type 0
Known rank p n none = (y : ℕ) → y < n → p y ≡ false
Known rank p n (some x) = (x < n) × (p x ≡ true) × ((y : ℕ) → y < n → p y ≡ true → rank x ≤ rank y)

module _ (rank : ℕ → ℕ) (p : ℕ → Bool) (n : ℕ) where
  -- of two that pass the one of lower rank
  known_both : (x : ℕ) (t : Bool) → ltb (rank n) (rank x) ≡ t → p n ≡ true → Known rank p n (some x)
      → Known rank p (suc n) (cond t (some n) (some x))
  unfolding Known
  known_both x true h e k =
      let l : rank n < rank x = ltb-true (rank n) (rank x) h in
      (omega arith, e, below_next (λ y. p y ≡ true → rank n ≤ rank y) n (λ a. omega arith) (λ y g a. omega (arith, k.2 y g a)))
  known_both x false h e k =
      let l : rank x ≤ rank n = ltb-false (rank n) (rank x) h in
      (omega (arith, k.0), k.1, below_next (λ y. p y ≡ true → rank x ≤ rank y) n (λ a. l) k.2)

  known_next : (t : Bool) (found : Option ℕ) → p n ≡ t → Known rank p n found → Known rank p (suc n) (cond t (lower rank n found) found)
  unfolding Known lower
  known_next true none e k = (omega arith, e, below_next (λ y. p y ≡ true → rank n ≤ rank y) n (λ a. omega arith) (λ y h a. clash a (k y h)))
  known_next true (some x) e k = known_both x (ltb (rank n) (rank x)) refl e k
  known_next false none e k = below_next (λ y. p y ≡ false) n e k
  known_next false (some x) e k =
      (omega (arith, k.0), k.1, below_next (λ y. p y ≡ true → rank x ≤ rank y) n (λ a. clash a e) k.2)

known : (rank : ℕ → ℕ) (p : ℕ → Bool) (n : ℕ) → Known rank p n (lowest rank p n)
unfolding Known lowest
known rank p zero = λ y h. absurd (omega arith)
known rank p (suc n) = known_next rank p n (p n) (lowest rank p n) refl (known rank p n)

module _ (rank : ℕ → ℕ) (p : ℕ → Bool) (n : ℕ) where
  -- none is found: nothing passes
  pub lowest_none : lowest rank p n ≡ none → (y : ℕ) → y < n → p y ≡ false
  unfolding Known
  lowest_none e = subst (Known rank p n) e (known rank p n)

  -- what is found passes, and nothing that passes has a lower rank
  pub lowest_some : (x : ℕ) → lowest rank p n ≡ some x → (x < n) × (p x ≡ true)
  unfolding Known
  lowest_some x e = let k = subst (Known rank p n) e (known rank p n) in (k.0, k.1)

  pub lowest_least : (x : ℕ) → lowest rank p n ≡ some x → (y : ℕ) → y < n → p y ≡ true → rank x ≤ rank y
  unfolding Known
  lowest_least x e = (subst (Known rank p n) e (known rank p n)).2

  -- nothing passes: none is found
  pub lowest_empty : ((y : ℕ) → y < n → p y ≡ false) → lowest rank p n ≡ none
  lowest_empty f = go (lowest rank p n) refl
    where
      go : (found : Option ℕ) → lowest rank p n ≡ found → lowest rank p n ≡ none
      go none e = e
      go (some x) e = let k = lowest_some x e in clash k.1 (f x k.0)

  -- the one of least rank is found, where ranks tell those that pass apart
  pub lowest_is : (x : ℕ) → ((y z : ℕ) → p y ≡ true → p z ≡ true → rank y ≡ rank z → y ≡ z) → x < n → p x ≡ true
      → ((y : ℕ) → y < n → p y ≡ true → rank x ≤ rank y) → lowest rank p n ≡ some x
  lowest_is x apart h k f = go (lowest rank p n) refl
    where
      go : (found : Option ℕ) → lowest rank p n ≡ found → lowest rank p n ≡ some x
      go none e = clash k (lowest_none e x h)
      go (some y) e =
          let a = lowest_some y e in
          let b : rank y ≤ rank x = lowest_least y e x h k in
          let d : rank x ≤ rank y = f y a.0 a.1 in
          e ∙ ap some (apart y x a.1 k (omega arith))
