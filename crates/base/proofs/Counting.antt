-- Laws of `count`, `every` and `sum`.
use Prim.Native.Nat.{ℕ, zero, suc, ◌+◌, ◌-◌, ◌*◌, ◌/◌, ◌%◌, ◌≤◌, ◌<◌, min}
use mathlib.Core.Path.{◌≡◌, refl, sym, ◌∙◌, ap}
use mathlib.Core.Bool.{Bool, true, false, cond, not, ◌&&◌, and-true, and-false}
use mathlib.Core.Logic.{⊎_elim}
use native.Mathlib.Nat.{add-zero, add-suc, zero-mul, mul-zero, suc-mul, not-suc-le-zero, le_of_suc-le-suc, eq-or-lt_of_le}
use native.Mathlib.Numerals.{add-one}
use native.Mathlib.Decide.{ℕ_discrete}
use native.Mathlib.Omega.{arith}
use lib.Dec.{leb, ltb, eqb}
use lib.Arith.{digits_div, digits_mod}
use borrow.Author.Tests.{leb-true, leb-false, ltb-true, ltb-false, eqb-true, eqb-false, eq-eqb, ne_eqb, not-true}
use Rattle.base.specs.Below.{count, every, sum}
use Rattle.base.proofs.Booleans.{cond_cases, and_left, and_right, and_both, clash, by_test}

pub count_ext : (p q : ℕ → Bool) (n : ℕ) → ((i : ℕ) → i < n → p i ≡ q i) → count p n ≡ count q n
unfolding count
count_ext p q zero h = refl
count_ext p q (suc n) h = rw (count_ext p q n (λ i l. h i (omega arith)), h n (omega arith))

pub count_none : (p : ℕ → Bool) (n : ℕ) → ((i : ℕ) → i < n → p i ≡ false) → count p n ≡ 0
unfolding count
count_none p zero h = refl
count_none p (suc n) h = rw (count_none p n (λ i l. h i (omega arith)), h n (omega arith))

-- none passes where the count is 0
pub count_zero : (p : ℕ → Bool) (n : ℕ) → count p n ≡ 0 → (i : ℕ) → i < n → p i ≡ false
unfolding count
count_zero p zero e i h = absurd (omega arith)
count_zero p (suc n) e i h =
    elim (ℕ_discrete i n) [
      | yes z ↦ rw z (by_test (p n) (λ t. absurd (omega (arith, rw t at e))) (λ t. t))
      | no z ↦ count_zero p n (omega arith) i (omega (arith, z))
    ]

pub count_all : (p : ℕ → Bool) (n : ℕ) → ((i : ℕ) → i < n → p i ≡ true) → count p n ≡ n
unfolding count
count_all p zero h = refl
count_all p (suc n) h = rw (count_all p n (λ i l. h i (omega arith)), h n (omega arith)) (omega arith)

-- a test that is one of two others, which never pass together
pub count_split : (p q r : ℕ → Bool) (n : ℕ) → ((i : ℕ) → cond (p i) 1 0 ≡ cond (q i) 1 0 + cond (r i) 1 0) → count p n ≡ count q n + count r n
unfolding count
count_split p q r zero h = refl
count_split p q r (suc n) h = omega (arith, count_split p q r n h, h n)

-- those that pass a second test too, and those that do not
pub count_by_test : (p q : ℕ → Bool) (n : ℕ) → count p n ≡ count (λ i. p i && q i) n + count (λ i. p i && not (q i)) n
count_by_test p q n = count_split p (λ i. p i && q i) (λ i. p i && not (q i)) n (λ i. by (p i) (q i))
  where
    by : (a b : Bool) → cond a 1 0 ≡ cond (a && b) 1 0 + cond (a && not b) 1 0
    by true true = refl
    by true false = refl
    by false b = refl

-- a test that implies another
pub count_implied : (p q : ℕ → Bool) (n : ℕ) → ((i : ℕ) → i < n → p i ≡ true → q i ≡ true) → count p n ≤ count q n
unfolding count
count_implied p q zero h = omega arith
count_implied p q (suc n) h =
    let ih = count_implied p q n (λ i l. h i (omega arith)) in
    by_test (p n) (λ e. rw (e, h n (omega arith) e) (omega arith)) (λ e. rw e (omega arith))

count_join : (p : ℕ → Bool) (a n : ℕ) → count p (a + n) ≡ count p a + count (λ i. p (a + i)) n
unfolding count
count_join p a zero = rw (add-zero a) (omega arith)
count_join p a (suc n) = rw (add-suc a n) (omega (arith, count_join p a n))

-- where none passes from a on
pub count_end : (p : ℕ → Bool) (a n : ℕ) → a ≤ n → ((i : ℕ) → a ≤ i → p i ≡ false) → count p n ≡ count p a
count_end p a n l h =
    let e : a + (n - a) ≡ n = omega arith in
    let z = count_none (λ i. p (a + i)) (n - a) (λ i _. h (a + i) (omega arith)) in
    ap (count p) (sym e) ∙ count_join p a (n - a) ∙ (rw z (omega arith))

pub sum_ext : (f g : ℕ → ℕ) (n : ℕ) → ((i : ℕ) → i < n → f i ≡ g i) → sum f n ≡ sum g n
unfolding sum
sum_ext f g zero h = refl
sum_ext f g (suc n) h = rw (sum_ext f g n (λ i l. h i (omega arith)), h n (omega arith))

-- numbers below m·n by their two digits
pub count_digits : (p : ℕ → ℕ → Bool) (m n : ℕ) → count (λ j. p (j / n) (j % n)) (m * n) ≡ sum (λ d. count (p d) n) m
unfolding sum count
count_digits p zero n = rw (zero-mul n)
count_digits p (suc m) n =
    rw (
      suc-mul m n,
      count_join (λ j. p (j / n) (j % n)) (m * n) n,
      count_digits p m n,
      count_ext (λ i. p ((m * n + i) / n) ((m * n + i) % n)) (p m) n (λ i h. rw (digits_div m h, digits_mod m h)),
    )

pub count_below : (d r n : ℕ) → count (λ i. ltb (d + i) r) n ≡ min n (r - d)
unfolding count
count_below d r zero = omega arith
count_below d r (suc n) =
    cond_cases (λ v. count (λ i. ltb (d + i) r) n + v ≡ min (suc n) (r - d)) (ltb (d + n) r)
    (λ e. omega (arith, ltb-true, count_below d r n)) (λ e. omega (arith, ltb-false, count_below d r n))

pub count_from : (a n : ℕ) → count (leb a) n ≡ n - a
unfolding count
count_from a zero = omega arith
count_from a (suc n) =
    cond_cases (λ v. count (leb a) n + v ≡ suc n - a) (leb a n) (λ e. omega (arith, leb-true, count_from a n))
    (λ e. omega (arith, leb-false, count_from a n))

-- what every number passes, each does
pub every_use : (p : ℕ → Bool) (n : ℕ) → every p n ≡ true → (i : ℕ) → i < n → p i ≡ true
unfolding every
every_use p zero e i h = absurd (not-suc-le-zero h)
every_use p (suc n) e i h =
    ⊎_elim (λ (q : i ≡ n). rw q (and_left (p n) (every p n) e)) (λ (q : i < n). every_use p n (and_right (p n) (every p n) e) i q)
    (eq-or-lt_of_le (le_of_suc-le-suc h))

pub every_make : (p : ℕ → Bool) (n : ℕ) → ((i : ℕ) → i < n → p i ≡ true) → every p n ≡ true
unfolding every
every_make p zero h = refl
every_make p (suc n) h = and_both (h n (omega arith)) (every_make p n (λ i l. h i (omega arith)))

-- one number fails
pub every_fails : (p : ℕ → Bool) (n i : ℕ) → i < n → p i ≡ false → every p n ≡ false
every_fails p n i h e = by_test (every p n) (λ f. clash (every_use p n f i h) e) (λ f. f)

-- one number more, as a loop counts
pub every_next : (p : ℕ → Bool) (n : ℕ) → every p n ≡ true → p n ≡ true → every p (n + 1) ≡ true
unfolding every
every_next p n h e = rw add-one (and_both e h)

pub count_next : (p : ℕ → Bool) (n : ℕ) (t : Bool) → p n ≡ t → count p (n + 1) ≡ count p n + cond t 1 0
unfolding count
count_next p n t e = rw (add-one, e)

pub sum_next : (f : ℕ → ℕ) (n : ℕ) → sum f (n + 1) ≡ sum f n + f n
unfolding sum
sum_next f n = rw add-one

-- a count is at most its bound, and a sum its bound times the most that one number adds
pub count_most : (p : ℕ → Bool) (n : ℕ) → count p n ≤ n
unfolding count
count_most p zero = omega arith
count_most p (suc n) =
    let h = count_most p n in
    cond_cases (λ v. count p n + v ≤ suc n) (p n) (λ e. omega arith) (λ e. omega arith)

pub sum_most : (f : ℕ → ℕ) (n b : ℕ) → ((i : ℕ) → i < n → f i ≤ b) → sum f n ≤ n * b
unfolding sum
sum_most f zero b h = omega arith
sum_most f (suc n) b h = omega (arith, sum_most f n b (λ i l. h i (omega arith)), h n (omega arith), suc-mul n b)

-- ---- numbers below a sum: each is in one place, r of f i

pub sum_within : (f : ℕ → ℕ) (n i r : ℕ) → i < n → r < f i → sum f i + r < sum f n
unfolding sum
sum_within f zero i r h k = absurd (not-suc-le-zero h)
sum_within f (suc n) i r h k =
    ⊎_elim (λ (e : i ≡ n). rw e (omega (arith, (rw e at k)))) (λ (l : i < n). omega (arith, sum_within f n i r l k)) (eq-or-lt_of_le (le_of_suc-le-suc h))

pub sum_place : (f : ℕ → ℕ) (n k : ℕ) → k < sum f n → (i : ℕ) × (r : ℕ) × (i < n) × (r < f i) × (sum f i + r ≡ k)
unfolding sum
sum_place f zero k h = absurd (not-suc-le-zero h)
sum_place f (suc n) k h =
    by_test (ltb k (sum f n)) (λ e. let (i, r, hi, hr, at) = sum_place f n k (ltb-true k (sum f n) e) in (i, r, omega arith, hr, at))
    (λ e. let past : sum f n ≤ k = ltb-false k (sum f n) e in (n, k - sum f n, omega arith, omega arith, omega arith))

-- ---- counting along a one to one map

-- one less passes
pub count_less : (p q : ℕ → Bool) (n x : ℕ) → x < n → p x ≡ true → q x ≡ false → ((i : ℕ) → (i ≡ x → ⊥) → p i ≡ q i) → count p n ≡ suc (count q n)
unfolding count
count_less p q zero x h a b f = absurd (omega arith)
count_less p q (suc n) x h a b f =
    elim (ℕ_discrete x n) [
      | yes e ↦
          let an : p n ≡ true = (rw e at a) in
          let bn : q n ≡ false = (rw e at b) in
          rw (an, bn, count_ext p q n (λ i k. f i (λ z. omega arith))) (omega arith)
      | no e ↦ rw (count_less p q n x (omega arith) a b f, f n (λ z. e (sym z))) (omega arith)
    ]

-- f takes the numbers below n that pass p to those below k that pass q, and g takes them back
pub record OneToOne (p : ℕ → Bool) (n : ℕ) (q : ℕ → Bool) (k : ℕ) (f g : ℕ → ℕ) : Type 0 where
  pub there : (x : ℕ) → x < n → p x ≡ true → (f x < k) × (q (f x) ≡ true) × (g (f x) ≡ x)
  pub back : (j : ℕ) → j < k → q j ≡ true → (g j < n) × (p (g j) ≡ true) × (f (g j) ≡ j)

abbrev without : (ℕ → Bool) → ℕ → ℕ → Bool
without q j i = q i && not (eqb i j)

-- one number more, given the law for the numbers below it
module _ (p : ℕ → Bool) (n : ℕ) (q : ℕ → Bool) (k : ℕ) (f g : ℕ → ℕ) (o : OneToOne p (suc n) q k f g) where
  -- it does not pass: the same map serves
  not_counted : p n ≡ false → OneToOne p n q k f g
  not_counted e =
      record {
        there = λ x h a. o.there x (omega arith) a;
        back = λ j h a. let t = o.back j h a in (lower (g j) t.0 t.1, t.1, t.2);
      }
    where
      lower : (x : ℕ) → x < suc n → p x ≡ true → x < n
      lower x h a = elim (ℕ_discrete x n) [ yes z ↦ clash (rw z at a) e | no z ↦ omega (arith, z) ]

  -- it passes: its image is left out
  counted : p n ≡ true → OneToOne p n (without q (f n)) k f g
  counted e =
      record {
        there = λ x h a.
            let t = o.there x (omega arith) a in
            (t.0, and_both t.1 (ap not (ne_eqb (f x) (f n) (apart x h t.2))), t.2);
        back = λ j h a.
            let t = o.back j h (and_left (q j) (not (eqb j (f n))) a) in
            (lower j t.0 t.2 (not-true (eqb j (f n)) (and_right (q j) (not (eqb j (f n))) a)), t.1, t.2);
      }
    where
      apart : (x : ℕ) → x < n → g (f x) ≡ x → f x ≡ f n → ⊥
      apart x h a z = let w : x ≡ n = sym a ∙ ap g z ∙ (o.there n (omega arith) e).2 in omega arith

      lower : (j : ℕ) → g j < suc n → f (g j) ≡ j → eqb j (f n) ≡ false → g j < n
      lower j h a b = elim (ℕ_discrete (g j) n) [ yes z ↦ absurd (eqb-false j (f n) b (sym a ∙ ap f z)) | no z ↦ omega (arith, z) ]

  one_more : ((r : ℕ → Bool) → OneToOne p n r k f g → count p n ≡ count r k) → count p n + cond (p n) 1 0 ≡ count q k
  one_more ih = by (p n) refl
    where
      by : (t : Bool) → p n ≡ t → count p n + cond t 1 0 ≡ count q k
      by false e = omega (arith, ih q (not_counted e))
      by true e =
          let last = o.there n (omega arith) e in
          let less : count q k ≡ suc (count (without q (f n)) k) =
          count_less q (without q (f n)) k (f n) last.0 last.1 (rw (eq-eqb (f n) (f n) refl) (and-false (q (f n))))
          (λ i z. rw (ne_eqb i (f n) z) (sym (and-true (q i)))) in
          omega (arith, ih (without q (f n)) (counted e))

pub count_one_to_one : (p : ℕ → Bool) (n : ℕ) (q : ℕ → Bool) (k : ℕ) (f g : ℕ → ℕ) → OneToOne p n q k f g → count p n ≡ count q k
unfolding count
count_one_to_one p zero q k f g o = sym (count_none q k (λ j h. by j h (q j) refl))
  where
    by : (j : ℕ) → j < k → (t : Bool) → q j ≡ t → q j ≡ false
    by j h true e = absurd (omega (arith, (o.back j h e).0))
    by j h false e = e
count_one_to_one p (suc n) q k f g o = one_more p n q k f g o (λ r. count_one_to_one p n r k f g)

-- ---- sums of sums

pub sum_all : (f : ℕ → ℕ) (n b : ℕ) → ((i : ℕ) → i < n → f i ≡ b) → sum f n ≡ n * b
unfolding sum
sum_all f zero b h = sym (zero-mul b)
sum_all f (suc n) b h = rw (sum_all f n b (λ i l. h i (omega arith)), h n (omega arith)) (sym (suc-mul n b))

pub sum_none : (f : ℕ → ℕ) (n : ℕ) → ((i : ℕ) → i < n → f i ≡ 0) → sum f n ≡ 0
sum_none f n h = sum_all f n 0 h ∙ mul-zero n

pub sum_plus : (f g : ℕ → ℕ) (n : ℕ) → sum (λ i. f i + g i) n ≡ sum f n + sum g n
unfolding sum
sum_plus f g zero = refl
sum_plus f g (suc n) = omega (arith, sum_plus f g n)

pub sum_swap : (f : ℕ → ℕ → ℕ) (m n : ℕ) → sum (λ i. sum (f i) n) m ≡ sum (λ j. sum (λ i. f i j) m) n
unfolding sum
sum_swap f m zero = sum_none (λ i. 0) m (λ i h. refl)
sum_swap f m (suc n) = sum_plus (λ i. sum (f i) n) (λ i. f i n) m ∙ ap (◌+ sum (λ i. f i n) m) (sum_swap f m n)

-- ---- numbers counted by what a map makes of them

count_as_sum : (p : ℕ → Bool) (n : ℕ) → sum (λ i. cond (p i) 1 0) n ≡ count p n
unfolding sum count
count_as_sum p zero = refl
count_as_sum p (suc n) = rw (count_as_sum p n)

-- pairs counted by their first number, and by their second
pub sum_of_counts : (p : ℕ → ℕ → Bool) (m n : ℕ) → sum (λ i. count (p i) n) m ≡ sum (λ j. count (λ i. p i j) m) n
sum_of_counts p m n =
    sum_ext _ _ m (λ i _. sym (count_as_sum (p i) n))
    ∙ sum_swap (λ i j. cond (p i j) 1 0) m n
    ∙ sum_ext _ _ n (λ j _. count_as_sum (λ i. p i j) m)

-- a sum with one more for each number that passes
pub sum_with_count : (f : ℕ → ℕ) (p : ℕ → Bool) (n : ℕ) → sum (λ i. f i + cond (p i) 1 0) n ≡ sum f n + count p n
sum_with_count f p n = sum_plus f (λ i. cond (p i) 1 0) n ∙ ap (sum f n +◌) (count_as_sum p n)

-- one number below m is k
count_one : (k m : ℕ) → k < m → count (eqb k) m ≡ 1
count_one k m h =
    count_less (eqb k) (λ i. false) m k h (eq-eqb k k refl) refl (λ i n. ne_eqb k i (λ e. n (sym e)))
    ∙ ap suc (count_none (λ i. false) m (λ i l. refl))

-- each that passes is counted at one of the numbers below m
pub count_by_value : (p : ℕ → Bool) (f : ℕ → ℕ) (m n : ℕ) → ((j : ℕ) → j < n → p j ≡ true → f j < m)
    → count p n ≡ sum (λ d. count (λ j. p j && eqb (f j) d) n) m
unfolding count
count_by_value p f m zero h = sym (sum_none (λ d. 0) m (λ d l. refl))
count_by_value p f m (suc n) h =
    let before = count_by_value p f m n (λ j l. h j (omega arith)) in
    let both = sum_plus (λ d. count (λ j. p j && eqb (f j) d) n) (λ d. cond (p n && eqb (f n) d) 1 0) m in
    omega (arith, before, both, last (p n) (h n (omega arith)))
  where
    last : (t : Bool) → (t ≡ true → f n < m) → sum (λ d. cond (t && eqb (f n) d) 1 0) m ≡ cond t 1 0
    last true l = count_as_sum (eqb (f n)) m ∙ count_one (f n) m (l refl)
    last false l = sum_none (λ d. 0) m (λ d _. refl)

pub sum_by_value : (f : ℕ → ℕ) (m n : ℕ) → ((j : ℕ) → j < n → f j < m) → sum (λ d. count (λ j. eqb (f j) d) n) m ≡ n
sum_by_value f m n h = sym (count_by_value (λ j. true) f m n (λ j l _. h j l)) ∙ count_all (λ j. true) n (λ i l. refl)

-- where two maps agree, and the second stays below m: at most as many as the first has at the numbers below m
pub count_agreeing : (p : ℕ → Bool) (f g : ℕ → ℕ) (m n b : ℕ) → ((j : ℕ) → j < n → g j < m)
    → ((d : ℕ) → d < m → count (λ j. p j && eqb (f j) d) n ≤ b) → count (λ j. p j && eqb (f j) (g j)) n ≤ m * b
count_agreeing p f g m n b h most =
    let by = count_by_value (λ j. p j && eqb (f j) (g j)) g m n (λ j l _. h j l) in
    let each = sum_most (λ d. count (λ j. (p j && eqb (f j) (g j)) && eqb (g j) d) n) m b
    (λ d l. let i = count_implied _ (λ j. p j && eqb (f j) d) n (λ j _ e. same j d e) in omega (arith, i, most d l)) in
    omega (arith, by, each)
  where
    same : (j d : ℕ) → ((p j && eqb (f j) (g j)) && eqb (g j) d) ≡ true → (p j && eqb (f j) d) ≡ true
    same j d e =
        let left = and_left (p j && eqb (f j) (g j)) _ e in
        and_both (and_left (p j) _ left)
        (eq-eqb (f j) d (eqb-true (f j) (g j) (and_right (p j) _ left) ∙ eqb-true (g j) d (and_right (p j && eqb (f j) (g j)) _ e)))
