-- The remainder that is never negative.
use Rattle.std.proofs.Common.{◌≡◌, ℕ, suc, ◌+◌, ◌-◌, ◌*◌, ◌/◌, ◌%◌, ◌<◌, ◌≤◌, Bool, true, false, ltb, ◌⊎◌, sym, refl, ap, ◌∙◌, inl, inr, ⊎_elim, mod-lt, mod-eq_of_lt, div-add-mod', arith, ltb-false, ltb-true}
use native.Mathlib.Nat.{add-mul-mod_self_right, mod-add-mod, mod-eq-sub-mod}
use Rattle.layout.specs.Growth.{minus_mod}
use Rattle.layout.specs.Laws.{RemainderOf}

-- a remainder of a number below 2k
mod_below_twice : (u k : ℕ) → u < k + k → ((u % k ≡ u) × (u < k)) ⊎ ((u % k + k ≡ u) × (u % k < k))
mod_below_twice u k h = by (ltb u k) refl
  where
    by : (t : Bool) → ltb u k ≡ t → ((u % k ≡ u) × (u < k)) ⊎ ((u % k + k ≡ u) × (u % k < k))
    by true e = let l : u < k = omega (arith, ltb-true) in inl (mod-eq_of_lt l, l)
    by false e =
        let l : k ≤ u = omega (arith, ltb-false) in
        let q : u % k ≡ u - k = mod-eq-sub-mod l ∙ mod-eq_of_lt (omega arith) in
        inr (omega arith, omega arith)

module _ (k : ℕ) where
  -- of two numbers below k: their difference, or that and k
  pub minus_cases : (a c : ℕ) → a < k → c < k → (minus_mod a c k + c ≡ a) ⊎ ((minus_mod a c k + c ≡ a + k) × (a < c))
  unfolding minus_mod
  minus_cases a c ha hc =
      let e : c % k ≡ c = mod-eq_of_lt hc in
      rw e (⊎_elim (λ w. inr (omega arith, omega arith)) (λ w. inl (omega arith)) (mod_below_twice (a + (k - c)) k (omega arith)))

  pub minus_below : (a c : ℕ) → 0 < k → minus_mod a c k < k
  unfolding minus_mod
  minus_below a c h = mod-lt _ h

  -- only the remainder of a counts
  pub minus_mod_left : (a c : ℕ) → minus_mod (a % k) c k ≡ minus_mod a c k
  unfolding minus_mod
  minus_mod_left a c = mod-add-mod a k (k - c % k)

  -- taking f off f + q, and putting it back
  pub minus_add : (f q : ℕ) → f < k → q < k → minus_mod ((f + q) % k) f k ≡ q
  minus_add f q hf hq =
      let l : (f + q) % k < k = mod-lt _ (omega arith) in
      let g : minus_mod ((f + q) % k) f k < k = minus_below _ f (omega arith) in
      ⊎_elim (λ v. ⊎_elim (λ w. omega arith) (λ w. omega arith) (minus_cases ((f + q) % k) f l hf))
      (λ v. ⊎_elim (λ w. omega arith) (λ w. omega arith) (minus_cases ((f + q) % k) f l hf))
      (mod_below_twice (f + q) k (omega arith))

  pub add_minus : (f d : ℕ) → f < k → d < k → (f + minus_mod d f k) % k ≡ d
  add_minus f d hf hd =
      let g : minus_mod d f k < k = minus_below d f (omega arith) in
      ⊎_elim (λ v. ⊎_elim (λ w. omega arith) (λ w. omega arith) (minus_cases d f hd hf))
      (λ v. ⊎_elim (λ w. omega arith) (λ w. omega arith) (minus_cases d f hd hf))
      (mod_below_twice (f + minus_mod d f k) k (omega arith))

  -- it is the remainder of a - c, also where a is less than c
  same : (a c : ℕ) → 0 < k → (minus_mod a c k + c) % k ≡ a % k
  unfolding minus_mod
  same a c h =
      let l : c % k < k = mod-lt c h in
      let f : a + (k - c % k) + c ≡ a + suc (c / k) * k = omega (arith, div-add-mod' c k) in
      mod-add-mod (a + (k - c % k)) k c ∙ rw f (add-mul-mod_self_right a (suc (c / k)) k)

  -- adding c, then taking it off again
  undone : (z c : ℕ) → 0 < k → z < k → minus_mod (z + c) c k ≡ z
  unfolding minus_mod
  undone z c h hz =
      let l : c % k < k = mod-lt c h in
      let f : z + c + (k - c % k) ≡ z + suc (c / k) * k = omega (arith, div-add-mod' c k) in
      rw f (add-mul-mod_self_right z (suc (c / k)) k ∙ mod-eq_of_lt hz)

  pub remainder : (a c : ℕ) → 0 < k → RemainderOf a c k (minus_mod a c k)
  remainder a c h =
      record {
        below = minus_below a c h;
        same = same a c h;
        only = λ z hz e. sym (undone z c h hz) ∙ sym (minus_mod_left (z + c) c) ∙ (rw e (minus_mod_left a c));
      }

  -- taking b - e off d is taking b off d + e
  pub minus_minus : (d b e : ℕ) → 0 < k → minus_mod d (minus_mod b e k) k ≡ minus_mod (d + e) b k
  minus_minus d b e h =
      let f : ℕ = minus_mod b e k in
      let q : ℕ = minus_mod d f k in
      let i : (f + e) + q ≡ (q + f) + e = omega arith in
      let j : q + b ≡ b + q = omega arith in
      let c : (q + b) % k ≡ (d + e) % k =
      rw j (sym (mod-add-mod b k q))
      ∙ ap (λ (u : ℕ). (u + q) % k) (sym (same b e h))
      ∙ mod-add-mod (f + e) k q
      ∙ ap (λ (u : ℕ). u % k) i
      ∙ sym (mod-add-mod (q + f) k e)
      ∙ ap (λ (u : ℕ). (u + e) % k) (same d f h)
      ∙ mod-add-mod d k e
      in
      (remainder (d + e) b h).only q (minus_below d f h) c
