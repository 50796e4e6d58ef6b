-- Laws of lists: runs of elements stored (`sets` of the library), parts, tables, and lists joined.
use Prim.Native.Nat.{ℕ, zero, suc, ◌+◌, ◌-◌, ◌*◌, ◌≤◌, ◌<◌}
use mathlib.Core.Path.{◌≡◌, refl, sym, ap, subst, ◌∙◌}
use mathlib.Core.List.{List, [], ◌∷◌, ◌++◌, append-nil, append_assoc, Mem, mem-append_left, mem-append_right}
use mathlib.Core.Logic.{◌⊎◌, inl, inr, ◌≢◌, ⊎_elim}
use native.Mathlib.Nat.{zero-add, add-zero, add-suc, suc-add, not-suc-le-zero, le_of_suc-le-suc, eq-or-lt_of_le}
use native.Mathlib.Numerals.{add-one}
use native.Mathlib.Decide.{ℕ_discrete}
use native.Mathlib.Omega.{arith}
use lib.ListN.{length, take, drop, get_or, set, replicate, length-set, length-append, length-take, length-drop, drop_of_length-le, get_or-append}
use lib.Seq.{sets, sets-eq, length-sets, take_at, drop_at, set_at, get_or_at, append_snoc, get_or-append-add, drop-drop, drop-set-lt, drop-set-add, take-set-le, get_or-set_same, get_or-set_other, ext_get_or}
use Rattle.base.specs.Below.{sum, table, joined}
use Rattle.base.proofs.Counting.{sum_all, sum_within}

module _ {A : Type 0} where
  -- ---- runs

  -- a run and then the run after it
  pub sets_append : (l : List A) (i : ℕ) (a b : List A) → sets l i (a ++ b) ≡ sets (sets l i a) (i + length a) b
  sets_append l i [] b = rw add-zero
  sets_append l i (x ∷ a) b = sets_append (set l i x) (suc i) a b ∙ rw (add-suc, suc-add)

  -- a part that was lent and comes back
  pub part_back_law : (m l : List A) (at end : ℕ) → at ≤ end → end ≤ length m → length l ≡ end - at
      → take at m ++ (l ++ drop (end - at) (drop at m)) ≡ sets m at l
  part_back_law m l at end h k e =
      let f : at + length l ≤ length m = omega (arith, e) in
      sym (sets-eq l m at f ∙ rw (append_assoc, e, ← drop-drop (end - at) at m))

  -- the length of a part that is lent
  pub lent_length : (m : List A) (at w : ℕ) → at + w ≤ length m → length (take (at + w - at) (drop at m)) ≡ w
  lent_length m at w h = simp (length-take, length-drop) (omega arith)

  -- a run from the front on, and one as long as the list
  pub front_stored : (m l : List A) → length l ≤ length m → l ++ drop (length l) m ≡ sets m 0 l
  front_stored m l h = sym (sets-eq l m 0 (rw zero-add h) ∙ rw zero-add)

  pub whole_stored : (m l : List A) → length l ≡ length m → sets m 0 l ≡ l
  whole_stored m l e =
      let past : length m ≤ length l = omega arith in
      sym (front_stored m l (omega arith)) ∙ rw (drop_of_length-le m {i = length l} past) (append-nil l)

  -- a run is read back
  pub part_stored : (m l : List A) (at : ℕ) → at + length l ≤ length m → take (length l) (drop at (sets m at l)) ≡ l
  part_stored m l at h =
      let e : length (take at m) ≡ at = simp length-take (omega arith) in
      rw (sets-eq l m at h, append_assoc, drop_at (take at m) (l ++ drop (at + length l) m) at e)
      (take_at l (drop (at + length l) m) (length l) refl)

  part_set : (m : List A) (x : A) (i from n : ℕ) → (i < from) ⊎ (from + n ≤ i) → take n (drop from (set m i x)) ≡ take n (drop from m)
  part_set m x i from n (inl h) = rw (drop-set-lt from m i x h)
  part_set m x i from n (inr h) =
      let e : i ≡ from + (i - from) = omega arith in
      let k : n ≤ i - from = omega arith in
      ap (λ (j : ℕ). take n (drop from (set m j x))) e ∙ rw (drop-set-add from m (i - from) x) (take-set-le n (drop from m) (i - from) x k)

  -- a run keeps every part that it doesn't reach
  pub part_kept : (m l : List A) (at from n : ℕ) → (at + length l ≤ from) ⊎ (from + n ≤ at) → take n (drop from (sets m at l)) ≡ take n (drop from m)
  part_kept m [] at from n h = refl
  part_kept m (x ∷ l) at from n (inl h) =
      part_kept (set m at x) l (suc at) from n (inl (omega arith)) ∙ part_set m x at from n (inl (omega arith))
  part_kept m (x ∷ l) at from n (inr h) =
      part_kept (set m at x) l (suc at) from n (inr (omega arith)) ∙ part_set m x at from n (inr h)

  pub drop_kept : (m l : List A) (at n : ℕ) → at + length l ≤ n → drop n (sets m at l) ≡ drop n m
  drop_kept m [] at n h = refl
  drop_kept m (x ∷ l) at n h =
      drop_kept (set m at x) l (suc at) n (omega arith) ∙ drop-set-lt n m at x (omega arith)

  -- ---- tables

  pub length_table : (f : ℕ → A) (n : ℕ) → length (table f n) ≡ n
  unfolding table
  length_table f zero = refl
  length_table f (suc n) = rw (length-append (table f n) (f n ∷ []), length_table f n) (add-one n)

  pub get_d_table : (z : A) (f : ℕ → A) (n i : ℕ) → i < n → get_or (table f n) i z ≡ f i
  unfolding table
  get_d_table z f zero i h = absurd (not-suc-le-zero h)
  get_d_table z f (suc n) i h =
      ⊎_elim
      (λ (q : i ≡ n). rw q (get_or_at (table f n) (f n) [] z n (length_table f n)))
      (λ (q : i < n). let k : i < length (table f n) = rw (length_table f n) q in get_or-append (table f n) (f n ∷ []) z i k ∙ get_d_table z f n i q)
      (eq-or-lt_of_le (le_of_suc-le-suc h))

  pub table_ext : (f g : ℕ → A) (n : ℕ) → ((i : ℕ) → i < n → f i ≡ g i) → table f n ≡ table g n
  unfolding table
  table_ext f g zero h = refl
  table_ext f g (suc n) h = rw (table_ext f g n (λ i l. h i (omega arith)), h n (omega arith))

  -- a list is the table of its elements
  pub table_self : (z : A) (l : List A) (n : ℕ) → length l ≡ n → table (λ i. get_or l i z) n ≡ l
  table_self z l n e =
      ext_get_or z (table (λ i. get_or l i z) n) l (length_table (λ i. get_or l i z) n ∙ sym e)
      (λ i h. get_d_table z (λ j. get_or l j z) n i (rw (length_table (λ j. get_or l j z) n) at h))

  -- one entry changed
  pub set_table : (z : A) (f g : ℕ → A) (n k : ℕ) → k < n → ((i : ℕ) → i < n → i ≢ k → f i ≡ g i) → set (table f n) k (g k) ≡ table g n
  set_table z f g n k h same =
      sym (table_self z (set (table f n) k (g k)) n (length-set (table f n) k (g k) ∙ length_table f n))
      ∙ table_ext (λ i. get_or (set (table f n) k (g k)) i z) g n
      (λ i l.
      elim (ℕ_discrete i k) [
        | yes q ↦ rw q (get_or-set_same (table f n) k (g k) z (rw (length_table f n) h))
        | no q ↦ get_or-set_other (table f n) k i (g k) z q ∙ get_d_table z f n i l ∙ same i l q
      ])

  -- one more entry, as a loop stores it
  pub table_next : (z : A) (n i : ℕ) (f : ℕ → A) (l : List A) → i < n → l ≡ table f i ++ replicate (n - i) z
      → set l i (f i) ≡ table f (i + 1) ++ replicate (n - (i + 1)) z
  unfolding table
  table_next z n i f l h e =
      let k : n - i ≡ suc (n - suc i) = omega arith in
      rw (e, k, add-one) (set_at (table f i) z (replicate (n - suc i) z) (f i) i (length_table f i) ∙ sym (append_snoc (table f i) (f i) (replicate (n - suc i) z)))

  -- ---- lists joined

  -- what one of them has
  pub mem_joined : (f : ℕ → List A) (n i : ℕ) (a : A) → i < n → Mem a (f i) → Mem a (joined f n)
  unfolding joined
  mem_joined f zero i a h e = absurd (not-suc-le-zero h)
  mem_joined f (suc n) i a h e =
      ⊎_elim (λ (q : i ≡ n). mem-append_right (joined f n) (subst (λ (k : ℕ). Mem a (f k)) q e))
      (λ (q : i < n). mem-append_left (f n) (mem_joined f n i a q e)) (eq-or-lt_of_le (le_of_suc-le-suc h))

  pub length_joined_sum : (f : ℕ → List A) (n : ℕ) → length (joined f n) ≡ sum (λ i. length (f i)) n
  unfolding joined sum
  length_joined_sum f zero = refl
  length_joined_sum f (suc n) = simp (length-append, length_joined_sum f n)

  -- entry k of the list at i
  pub get_d_joined : (z : A) (f : ℕ → List A) (n i k : ℕ) → i < n → k < length (f i) → get_or (joined f n) (sum (λ j. length (f j)) i + k) z ≡ get_or (f i) k z
  unfolding joined
  get_d_joined z f zero i k h l = absurd (not-suc-le-zero h)
  get_d_joined z f (suc n) i k h l =
      ⊎_elim
      (λ (q : i ≡ n). rw (q, ← length_joined_sum f n) (get_or-append-add (joined f n) (f n) k z))
      (λ (q : i < n).
      get_or-append (joined f n) (f n) z (sum (λ j. length (f j)) i + k)
      (rw (length_joined_sum f n) (sum_within (λ j. length (f j)) n i k q l))
      ∙ get_d_joined z f n i k q l)
      (eq-or-lt_of_le (le_of_suc-le-suc h))

  -- of one length
  module _ (f : ℕ → List A) (w : ℕ) (each : (i : ℕ) → length (f i) ≡ w) where
    pub length_joined : (n : ℕ) → length (joined f n) ≡ n * w
    length_joined n = length_joined_sum f n ∙ sum_all (λ i. length (f i)) n w (λ i _. each i)

    -- the list at i, whatever follows
    pub joined_part : (n i : ℕ) (rest : List A) → i < n → take w (drop (i * w) (joined f n ++ rest)) ≡ f i
    unfolding joined
    joined_part zero i rest h = absurd (not-suc-le-zero h)
    joined_part (suc n) i rest h =
        rw (append_assoc (joined f n) (f n) rest)
        (⊎_elim
        (λ (q : i ≡ n). rw (q, drop_at (joined f n) (f n ++ rest) (n * w) (length_joined n)) (take_at (f n) rest w (each n)))
        (λ (q : i < n). joined_part n i (f n ++ rest) q)
        (eq-or-lt_of_le (le_of_suc-le-suc h)))

    -- one more, as a loop stores it from index k on
    pub joined_next : (l : List A) (k i : ℕ) → sets (sets l k (joined f i)) (k + i * w) (f i) ≡ sets l k (joined f (i + 1))
    unfolding joined
    joined_next l k i = rw (add-one, sets_append l k (joined f i) (f i), length_joined i)

    -- the same, by a part that was lent
    abbrev part_back : (l part : List A) (at : ℕ) → List A
    part_back l part at = take at l ++ (part ++ drop (at + w - at) (drop at l))

    pub joined_back : (m l part : List A) (k i : ℕ) → k + i * w + w ≤ length l → l ≡ sets m k (joined f i) → part ≡ f i
        → (part_back l part (k + i * w) ≡ sets m k (joined f (i + 1))) × (length (part_back l part (k + i * w)) ≡ length m)
    joined_back m l part k i h stored put =
        let n : length part ≡ k + i * w + w - (k + i * w) = rw (put, each i) (omega arith) in
        let e : part_back l part (k + i * w) ≡ sets m k (joined f (i + 1)) =
        part_back_law l part (k + i * w) (k + i * w + w) (omega arith) h n ∙ rw (stored, put) (joined_next m k i) in
        (e, rw e (length-sets m k (joined f (i + 1))))
