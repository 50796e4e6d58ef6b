-- By how many growths of a history a block was moved: one more by each that moves it, none by others, and the number told is true.
use Rattle.std.proofs.Common.{◌≡◌, ℕ, ◌+◌, ◌-◌, ◌*◌, ◌<◌, ◌≤◌, true, false, cond, ◌&&◌, ltb, ◌⊎◌, List, [], ◌∷◌, length, sym, refl, ◌∙◌, subst, inl, inr, mul-le-mul_right, arith, ltb-false, ltb-true, le-ltb, lt-ltb}
use native.Mathlib.Decide.{ℕ_discrete, dec_lt}
use Rattle.base.specs.Below.{count}
use Rattle.layout.specs.declared.Reason.{Reason}
use Rattle.layout.specs.declared.Reason.TheVariants.{SetOut, AddedBy, MovedBy}
use Rattle.layout.specs.History.{disk_count, earlier, old_count, rising}
use Rattle.layout.specs.Windows.{moving}
use Rattle.layout.specs.Reasons.{reason_of, first_growths, move_count_of}
use Rattle.layout.specs.Laws.{IsGrowth, MovesTrue}
use Rattle.base.proofs.Booleans.{by_test}
use Rattle.base.proofs.Counting.{count_ext, count_none, count_zero}
use Rattle.layout.proofs.Histories.{not_rising, rising_up, rising_earlier, rising_length, all_growths, without_newest}
use Rattle.layout.proofs.ReasonsTrue.{reason_stays, reason_moved, reason_added}

-- ---- one growth more

-- blocks that were not there before the newest growth are not moved by it
pub new_unmoved : (s : ℕ) (h : List ℕ) (x : ℕ) → old_count h * s ≤ x → moving s h x ≡ false
unfolding moving
new_unmoved s h x l = rw (le-ltb x (old_count h * s) l)

pub format_unmoved : (s c x : ℕ) → moving s (c ∷ []) x ≡ false
unfolding old_count earlier disk_count
format_unmoved s c x = new_unmoved s (c ∷ []) x (omega arith)

pub moves_one_more : (s c : ℕ) (h : List ℕ) (x : ℕ) → move_count_of s (c ∷ h) x ≡ move_count_of s h x + cond (moving s (c ∷ h) x) 1 0
unfolding move_count_of count
moves_one_more s c h x =
    rw (
      count_ext (λ k. moving s (first_growths k (c ∷ h)) x) (λ k. moving s (first_growths k h) x) (length h) (λ k l. rw (without_newest k c h l)),
      all_growths (length h) (c ∷ h) (omega arith),
    )

pub moves_at_format : (s c x : ℕ) → move_count_of s (c ∷ []) x ≡ 0
unfolding move_count_of count
moves_at_format s c x = moves_one_more s c [] x ∙ (rw (format_unmoved s c x))

-- ---- blocks that are not there

-- no growth of a history has more old disks than there are now
pub old_below : (h : List ℕ) (k : ℕ) → rising h ≡ true → old_count (first_growths k h) ≤ disk_count h
unfolding old_count earlier disk_count
old_below [] k r = absurd (not_rising r)
old_below (c ∷ []) k r = rw (all_growths k (c ∷ []) (omega arith)) (omega arith)
old_below (c ∷ m ∷ h) k r =
    let up = rising_up c m h r in
    elim (dec_lt k (length (m ∷ h))) [
      | yes a ↦ rw (without_newest k c (m ∷ h) a) (omega (arith, up, old_below (m ∷ h) k (rising_earlier c m h r)))
      | no a ↦ rw (all_growths k (c ∷ m ∷ h) (omega (arith, a))) (omega (arith, up))
    ]

-- so a block that a history does not have was moved by none of its growths
absent_unmoved : (s : ℕ) (h : List ℕ) (x : ℕ) → rising h ≡ true → disk_count h * s ≤ x → (k : ℕ) → moving s (first_growths k h) x ≡ false
absent_unmoved s h x r l k = new_unmoved s (first_growths k h) x (omega (arith, mul-le-mul_right s (old_below h k r)))

pub absent_moves : (s : ℕ) (h : List ℕ) (x : ℕ) → rising h ≡ true → disk_count h * s ≤ x → move_count_of s h x ≡ 0
unfolding move_count_of
absent_moves s h x r l = count_none _ (length h) (λ k _. absent_unmoved s h x r l k)

-- nor was a block that growth k added moved by that growth or by one before
unmoved_until_added : (s : ℕ) (h : List ℕ) (x k : ℕ) → rising h ≡ true → k < length h → disk_count (first_growths (k - 1) h) * s ≤ x
    → (j : ℕ) → j ≤ k → moving s (first_growths j h) x ≡ false
unfolding disk_count old_count earlier
unmoved_until_added s [] x k r u l j i = absurd (not_rising r)
unmoved_until_added s (c ∷ []) x k r u l j i = rw (all_growths j (c ∷ []) (omega arith)) (format_unmoved s c x)
unmoved_until_added s (c ∷ m ∷ h) x k r u l j i =
    elim (ℕ_discrete k (length (m ∷ h))) [
      | yes a ↦
          let e : k - 1 ≡ length h = omega (arith, a) in
          let f : first_growths (k - 1) (c ∷ m ∷ h) ≡ m ∷ h = (rw e (without_newest (length h) c (m ∷ h) (omega arith) ∙ all_growths (length h) (m ∷ h) (omega arith))) in
          newest (rw f at l)
      | no a ↦
          rw (without_newest j c (m ∷ h) (omega (arith, a)))
          (unmoved_until_added s (m ∷ h) x k (rising_earlier c m h r) (omega (arith, a)) (rw (without_newest (k - 1) c (m ∷ h) (omega (arith, a))) at l) j i)
    ]
  where
    newest : m * s ≤ x → moving s (first_growths j (c ∷ m ∷ h)) x ≡ false
    newest old =
        elim (dec_lt j (length (m ∷ h))) [
          | yes b ↦ rw (without_newest j c (m ∷ h) b) (absent_unmoved s (m ∷ h) x (rising_earlier c m h r) old j)
          | no b ↦ rw (all_growths j (c ∷ m ∷ h) (omega (arith, b))) (new_unmoved s (c ∷ m ∷ h) x old)
        ]

-- ---- the number told is true

moves_of_none : (s x : ℕ) → move_count_of s [] x ≡ 0
unfolding move_count_of count
moves_of_none s x = refl

pub moves_most : (s : ℕ) (h : List ℕ) (x : ℕ) → move_count_of s h x ≤ length h - 1
moves_most s [] x = omega (arith, moves_of_none s x)
moves_most s (c ∷ []) x = omega (arith, moves_at_format s c x)
moves_most s (c ∷ m ∷ h) x =
    let before = moves_most s (m ∷ h) x in
    let step = moves_one_more s c (m ∷ h) x in
    by_test (moving s (c ∷ m ∷ h) x) (λ e. omega (arith, before, rw e at step)) (λ e. omega (arith, before, rw e at step))

-- what the reason told says of the number
abbrev ByReason : (r : Reason) (n : ℕ) → Type 0
ByReason SetOut n = n ≡ 0
ByReason (AddedBy k) n = n ≡ 0
ByReason (MovedBy k part) n = (1 ≤ n) × (n ≤ k)

module _ (s c m : ℕ) (h : List ℕ) (r : rising (c ∷ m ∷ h) ≡ true) (x : ℕ) where
  step : move_count_of s (c ∷ m ∷ h) x ≡ move_count_of s (m ∷ h) x + cond (moving s (c ∷ m ∷ h) x) 1 0
  step = moves_one_more s c (m ∷ h) x

  unmoved_step : moving s (c ∷ m ∷ h) x ≡ false → move_count_of s (c ∷ m ∷ h) x ≡ move_count_of s (m ∷ h) x
  unmoved_step e = (rw e at step) ∙ omega arith

  by_newest : ByReason (reason_of s (m ∷ h) x) (move_count_of s (m ∷ h) x) → ByReason (reason_of s (c ∷ m ∷ h) x) (move_count_of s (c ∷ m ∷ h) x)
  unfolding old_count earlier disk_count
  by_newest before =
      by_test (ltb x (m * s))
      (λ a.
      by_test (moving s (c ∷ m ∷ h) x)
      (λ e. rw (reason_moved s c m h r x e) (let most = moves_most s (m ∷ h) x in let one = rw e at step in (omega (arith, one), omega (arith, most, one))))
      (λ e. rw (reason_stays s c m h r x (ltb-true x (m * s) a) e, unmoved_step e) before))
      (λ a.
      let old = ltb-false x (m * s) a in
      rw (reason_added s c m h r x old)
      (unmoved_step (new_unmoved s (c ∷ m ∷ h) x old) ∙ absent_moves s (m ∷ h) x (rising_earlier c m h r) old))

by_reason : (s : ℕ) (h : List ℕ) (x : ℕ) → rising h ≡ true → ByReason (reason_of s h x) (move_count_of s h x)
unfolding reason_of
by_reason s [] x r = absurd (not_rising r)
by_reason s (c ∷ []) x r = moves_at_format s c x
by_reason s (c ∷ m ∷ h) x r = by_newest s c m h r x (by_reason s (m ∷ h) x (rising_earlier c m h r))

-- format moves none
start_unmoved : (s : ℕ) (h : List ℕ) (x : ℕ) → rising h ≡ true → moving s (first_growths 0 h) x ≡ false
start_unmoved s [] x r = absurd (not_rising r)
start_unmoved s (c ∷ []) x r = rw (all_growths 0 (c ∷ []) (omega arith)) (format_unmoved s c x)
start_unmoved s (c ∷ m ∷ h) x r = rw (without_newest 0 c (m ∷ h) (omega arith)) (start_unmoved s (m ∷ h) x (rising_earlier c m h r))

module _ (s : ℕ) (h : List ℕ) (x : ℕ) (r : rising h ≡ true) where
  none_moved : ((k : ℕ) → IsGrowth h k → moving s (first_growths k h) x ≡ false) → move_count_of s h x ≡ 0
  unfolding move_count_of
  none_moved f =
      count_none _ (length h)
      (λ k l. elim (ℕ_discrete k 0) [ yes z ↦ rw z (start_unmoved s h x r) | no z ↦ f k (omega (arith, z), l) ])

  moved_none : move_count_of s h x ≡ 0 → (k : ℕ) → IsGrowth h k → moving s (first_growths k h) x ≡ false
  unfolding move_count_of
  moved_none e k g = count_zero (λ j. moving s (first_growths j h) x) (length h) e k g.1

  -- of a block that growth k placed, or format
  placed_unmoved : (k : ℕ) → k < length h → (k ≡ 0) ⊎ (disk_count (first_growths (k - 1) h) * s ≤ x) → (j : ℕ) → j ≤ k
      → moving s (first_growths j h) x ≡ false
  placed_unmoved k u (inl z) j i = let e : j ≡ 0 = omega arith in rw e (start_unmoved s h x r)
  placed_unmoved k u (inr l) j i = unmoved_until_added s h x k r u l j i

  later_only : (k : ℕ) → k < length h → (k ≡ 0) ⊎ (disk_count (first_growths (k - 1) h) * s ≤ x)
      → move_count_of s h x ≡ count (λ j. ltb k j && moving s (first_growths j h) x) (length h)
  unfolding move_count_of
  later_only k u placed =
      count_ext _ _ (length h)
      (λ j _.
      elim (dec_lt k j) [
        | yes a ↦ rw (lt-ltb k j a)
        | no a ↦ rw (le-ltb k j (omega (arith, a)), placed_unmoved k u placed j (omega (arith, a)))
      ])

  told : {q : Reason} → reason_of s h x ≡ q → ByReason q (move_count_of s h x)
  told e = subst (λ q. ByReason q (move_count_of s h x)) e (by_reason s h x r)

  pub moves_law : MovesTrue s h x (reason_of s h x) (move_count_of s h x)
  moves_law =
      record {
        none_moved = none_moved;
        moved_none = moved_none;
        most_growths = moves_most s h x;
        told_moved = λ k part e. told e;
        told_set_out = λ e. told e;
        told_added = λ k e. told e;
        later_only = later_only;
      }

-- `later_only` of format gives the number, so no other one is true
pub only_moves_law : (s : ℕ) (h : List ℕ) (x : ℕ) → rising h ≡ true → (q r : Reason) (n k : ℕ) → MovesTrue s h x q n → MovesTrue s h x r k → n ≡ k
only_moves_law s h x a q r n k t u =
    let some = rising_length h a in t.later_only 0 some (inl refl) ∙ sym (u.later_only 0 some (inl refl))
