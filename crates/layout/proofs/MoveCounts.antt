-- How many blocks move in the newest growth, from m disks to c: by marks, and in closed form.
use Rattle.std.proofs.Common.{◌≡◌, ℕ, zero, suc, ◌+◌, ◌-◌, ◌*◌, ◌/◌, ◌%◌, ◌<◌, ◌≤◌, min, Bool, true, false, cond, not, ◌&&◌, eqb, ltb, List, ◌∷◌, get_or, sym, refl, ap, ◌∙◌, add-zero, mul-le-mul_right, suc-mul, div-lt_iff_lt-mul, div-add-mod', arith, ltb-false, ltb-true, le-ltb, lt-ltb, eq-eqb, ne_eqb, eqb-true}
use mathlib.Core.Bool.{and-true}
use native.Mathlib.Nat.{lt-div-mul-add}
use native.Mathlib.Decide.{dec_lt, ℕ_discrete}
use Rattle.base.specs.Below.{count, sum}
use Rattle.layout.specs.History.{disk_count, earlier, old_count, added_count, rising}
use Rattle.layout.specs.Windows.{spot_of_mark, row_exists, old_spot, moving, window_of_row, window_of, moving_in, mark_of, block_of_mark, marked_blocks, moves_of_window, moves_of_growth, uncopied, calls_left, cut_moves, later_moves, calls_left_by_marks}
use Rattle.layout.specs.Laws.{Marks, Counts, GrowthMoves}
use Rattle.base.proofs.Booleans.{and_left, and_right, and_both, same_order}
use Rattle.base.proofs.Counting.{count_ext, count_none, count_all, count_split, sum_ext, count_digits, count_below, OneToOne, count_one_to_one}
use Rattle.layout.proofs.NewestGrowth.{old_within, moving_old}
use Rattle.layout.proofs.MarkSpots.{mark_spot_window}
use Rattle.layout.proofs.MarkBlocks.{old_pos, added_pos, marks_law}

-- ---- the marks whose rows exist, of a window from m disks by n

-- terms past r are 0
sum_cut : (m r n : ℕ) → sum (λ d. min n (r - d)) m ≡ sum (λ d. min n (r - d)) (min m r)
unfolding sum
sum_cut zero r n = let e : min 0 r ≡ 0 = omega arith in rw e
sum_cut (suc m) r n = by (ltb m r) refl (sum_cut m r n)
  where
    by : (t : Bool) → ltb m r ≡ t → sum (λ d. min n (r - d)) m ≡ sum (λ d. min n (r - d)) (min m r)
        → sum (λ d. min n (r - d)) m + min n (r - m) ≡ sum (λ d. min n (r - d)) (min (suc m) r)
    by true e ih = let f : min (suc m) r ≡ suc m = omega (arith, ltb-true) in rw f
    by false e ih =
        let f : min (suc m) r ≡ min m r = omega (arith, ltb-false) in
        let z : min n (r - m) ≡ 0 = omega (arith, ltb-false) in
        rw (f, z, add-zero) ih

cut_rows : (m n s w r : ℕ) → s ≡ w * (m + n) + r → count (row_exists m n s w) (m * n) ≡ cut_moves m n r
unfolding cut_moves row_exists spot_of_mark
cut_rows m n s w r e =
    count_ext _ (λ j. ltb (j / n + j % n) r) (m * n) (λ j h. same_order _ s _ r (λ l. omega arith) (λ l. omega arith))
    ∙ count_digits (λ d i. ltb (d + i) r) m n ∙ sum_ext _ _ m (λ d h. count_below d r n) ∙ sum_cut m r n

-- the windows after w: the next one, and those after that
next_or_later : (a : Bool) (w v : ℕ) → cond (a && ltb w v) 1 0 ≡ cond (a && eqb v (suc w)) 1 0 + cond (a && ltb (suc w) v) 1 0
next_or_later false w v = refl
next_or_later true w v =
    elim (dec_lt w v) [
      | no l ↦ rw (le-ltb w v (omega arith), ne_eqb v (suc w) (λ z. omega arith), le-ltb (suc w) v (omega arith))
      | yes l ↦ elim (ℕ_discrete v (suc w)) [
        | yes e ↦ rw (lt-ltb w v l, eq-eqb v (suc w) e, le-ltb (suc w) v (omega arith))
        | no e ↦ rw (lt-ltb w v l, ne_eqb v (suc w) e, lt-ltb (suc w) v (omega (arith, e)))
      ]
    ]

-- window 0, with no block copied, and those after it
pub first_or_later : (a : Bool) (v : ℕ) → cond a 1 0 ≡ cond ((a && eqb v 0) && true) 1 0 + cond (a && ltb 0 v) 1 0
first_or_later false v = refl
first_or_later true v =
    elim (ℕ_discrete v 0) [
      | yes e ↦ rw (eq-eqb v 0 e, le-ltb 0 v (omega (arith, e)))
      | no e ↦ rw (ne_eqb v 0 e, lt-ltb 0 v (omega (arith, e)))
    ]

module _ (s c m : ℕ) (h : List ℕ) (r : rising (c ∷ m ∷ h) ≡ true) where
  abbrev n : ℕ
  n = c - m

  abbrev k : ℕ
  k = m + (c - m)

  hk : 0 < m + (c - m)
  hk = omega (arith, old_pos s c m h r)

  abbrev H : List ℕ
  H = c ∷ m ∷ h

  laws : Marks s (c ∷ m ∷ h)
  laws = marks_law s c m h r

  in_moving : (w x : ℕ) → moving_in s H w x ≡ true → (moving s H x ≡ true) × (window_of s H x ≡ w)
  unfolding moving_in
  in_moving w x e = (and_left (moving s H x) _ e, eqb-true _ w (and_right (moving s H x) _ e))

  moving_in_law : (w x : ℕ) → moving s H x ≡ true → window_of s H x ≡ w → moving_in s H w x ≡ true
  unfolding moving_in
  moving_in_law w x e f = and_both e (eq-eqb _ w f)

  -- moving blocks of window w that pass q, and their marks
  one_to_one : (w : ℕ) (q : ℕ → Bool) → OneToOne (λ x. moving_in s H w x && q x) (m * s)
      (λ j. row_exists m n s w j && q (block_of_mark s H w j)) (m * n) (mark_of s H) (block_of_mark s H w)
  unfolding old_count added_count earlier disk_count
  one_to_one w q =
      record {
        there = λ x l e.
            let i = in_moving w x (and_left (moving_in s H w x) (q x) e) in
            let b : block_of_mark s H w (mark_of s H x) ≡ x = (rw i.1 at (laws.block_of_mark_law x i.0)) in (
              laws.mark_within x i.0,
              and_both (rw i.1 at (laws.mark_row x i.0)) (rw b (and_right (moving_in s H w x) (q x) e)),
              b,
            );
        back = λ j l e.
            let t = laws.mark_moves w j l (and_left (row_exists m n s w j) _ e) in (
              moving_old s c m h r (block_of_mark s H w j) t.0,
              and_both (moving_in_law w (block_of_mark s H w j) t.0 t.1) (and_right (row_exists m n s w j) _ e),
              t.2,
            );
      }

  pub by_marks : (w : ℕ) (q : ℕ → Bool)
      → count (λ x. moving_in s H w x && q x) (m * s) ≡ count (λ j. row_exists m n s w j && q (block_of_mark s H w j)) (m * n)
  by_marks w q = count_one_to_one _ (m * s) _ (m * n) (mark_of s H) (block_of_mark s H w) (one_to_one w q)

  moves_by_marks : (w : ℕ) → moves_of_window s H w ≡ count (row_exists m n s w) (m * n)
  unfolding moves_of_window old_count earlier disk_count
  moves_by_marks w =
      count_ext _ _ (m * s) (λ x l. sym (and-true (moving_in s H w x)))
      ∙ by_marks w (λ x. true)
      ∙ count_ext _ _ (m * n) (λ j l. and-true (row_exists m n s w j))

  cut : (w z : ℕ) → s ≡ w * k + z → moves_of_window s H w ≡ cut_moves m n z
  cut w z e = moves_by_marks w ∙ cut_rows m n s w z e

  row_below : (w j : ℕ) → j < m * n → (spot_of_mark m n w j).row.0 < suc w * k
  unfolding window_of_row
  row_below w j hj =
      (div-lt_iff_lt-mul hk).0 (omega (arith, mark_spot_window m n (old_pos s c m h r) (added_pos s c m h r) w j hj))

  whole : (w : ℕ) → suc w * k ≤ s → moves_of_window s H w ≡ m * n
  unfolding row_exists
  whole w l = moves_by_marks w ∙ count_all (row_exists m n s w) (m * n) (λ j hj. lt-ltb _ s (omega (arith, row_below w j hj)))

  -- ---- the windows after w

  abbrev later : ℕ → ℕ → Bool
  later w x = moving s H x && ltb w (window_of s H x)

  later_next : (w : ℕ) → count (later w) (m * s) ≡ moves_of_window s H (suc w) + count (later (suc w)) (m * s)
  unfolding moves_of_window moving_in old_count earlier disk_count
  later_next w =
      count_split (later w) (moving_in s H (suc w)) (later (suc w)) (m * s) (λ x. next_or_later (moving s H x) w (window_of s H x))

  last_window : (x : ℕ) → moving s H x ≡ true → window_of s H x ≤ s / k
  unfolding window_of window_of_row old_count added_count old_spot earlier disk_count
  last_window x e =
      let b = (old_within s c m h r x (moving_old s c m h r x e)).row in
      let l : s < suc (s / k) * k = (let d = lt-div-mul-add {a = s} hk in omega (arith, suc-mul (s / k) k)) in
      omega (arith, (div-lt_iff_lt-mul {x = (old_spot s H x).row.0} {y = suc (s / k)} hk).1 (omega arith))

  later_none : (w : ℕ) → s / k ≤ w → count (later w) (m * s) ≡ 0
  later_none w l = count_none (later w) (m * s) (λ x hx. by x (moving s H x) refl)
    where
      by : (x : ℕ) (t : Bool) → moving s H x ≡ t → (t && ltb w (window_of s H x)) ≡ false
      by x true e = le-ltb w (window_of s H x) (omega (arith, last_window x e))
      by x false e = refl

  rows_split : s ≡ s / k * k + s % k
  rows_split = sym (div-add-mod' s k)

  -- a windows more before the last whole one
  later_some : (a w : ℕ) → suc w + a ≡ s / k → count (later w) (m * s) ≡ a * (m * n) + cut_moves m n (s % k)
  later_some zero w e =
      let f : suc w ≡ s / k = omega arith in
      later_next w ∙ (rw (later_none (suc w) (omega arith), cut (suc w) (s % k) (rw f rows_split)) (omega arith))
  later_some (suc a) w e =
      later_next w
      ∙ (rw (whole (suc w) (omega (arith, rows_split, mul-le-mul_right k (fits a w e))), later_some a (suc w) (omega arith)) (omega (arith, suc-mul a (m * n))))
    where
      fits : (a w : ℕ) → suc w + suc a ≡ s / k → suc (suc w) ≤ s / k
      fits a w e = omega arith

  later_is : (w : ℕ) → count (later w) (m * s) ≡ later_moves m n s w
  unfolding later_moves
  later_is w = by (ltb w (s / k)) refl
    where
      by : (t : Bool) → ltb w (s / k) ≡ t → count (later w) (m * s) ≡ cond t ((s / k - suc w) * (m * n) + cut_moves m n (s % k)) 0
      by true e = later_some (s / k - suc w) w (omega (arith, ltb-true w (s / k) e))
      by false e = later_none w (ltb-false w (s / k) e)

  closed : (w : ℕ) (copied : ℕ → Bool) → uncopied s H w copied
      ≡ count (λ j. row_exists m n s w j && not (copied (block_of_mark s H w j))) (m * n) + later_moves m n s w
  unfolding uncopied old_count earlier disk_count
  closed w copied = rw (by_marks w (λ x. not (copied x)), later_is w)

  -- the calls left, where the copied blocks of window w are those with a mark
  marked_is : (w j : ℕ) (marks : List Bool) → j < m * n → row_exists m n s w j ≡ true → marked_blocks s H w marks (block_of_mark s H w j) ≡ get_or marks j false
  unfolding marked_blocks old_count added_count earlier disk_count
  marked_is w j marks hj e =
      let t = laws.mark_moves w j hj e in
      rw (moving_in_law w (block_of_mark s H w j) t.0 t.1, t.2)

  calls_left_law : (w : ℕ) (marks : List Bool) → calls_left s H w (marked_blocks s H w marks) ≡ calls_left_by_marks m n s w marks
  unfolding calls_left calls_left_by_marks old_count added_count earlier disk_count
  calls_left_law w marks =
      rw (closed w (marked_blocks s H w marks), count_ext _ (λ j. row_exists m n s w j && not (get_or marks j false)) (m * n) (λ j hj. by j hj (row_exists m n s w j) refl))
    where
      by : (j : ℕ) → j < m * n → (t : Bool) → row_exists m n s w j ≡ t
          → (t && not (marked_blocks s H w marks (block_of_mark s H w j))) ≡ (t && not (get_or marks j false))
      by j hj true e = ap not (marked_is w j marks hj e)
      by j hj false e = refl

  pub counts_law : Counts s (c ∷ m ∷ h)
  unfolding old_count added_count earlier disk_count
  counts_law = record { whole_window = whole; cut_window = cut; closed_form = closed; calls_by_marks = calls_left_law }

  -- ---- all windows

  at_start : moves_of_growth s H ≡ uncopied s H 0 (λ x. false)
  unfolding moves_of_growth uncopied moving_in old_count earlier disk_count
  at_start = count_split (moving s H) _ (later 0) (m * s) (λ x. first_or_later (moving s H x) (window_of s H x))

  first_window : uncopied s H 0 (λ x. false) ≡ moves_of_window s H 0 + later_moves m n s 0
  unfolding moves_of_window
  first_window = closed 0 (λ x. false) ∙ ap (◌+ later_moves m n s 0) (count_ext _ _ (m * n) (λ j l. and-true (row_exists m n s 0 j)) ∙ sym (moves_by_marks 0))

  in_windows : moves_of_growth s H ≡ s / k * (m * n) + cut_moves m n (s % k)
  unfolding later_moves
  in_windows = at_start ∙ first_window ∙ by (s / k) refl
    where
      by : (q : ℕ) → s / k ≡ q → moves_of_window s H 0 + later_moves m n s 0 ≡ q * (m * n) + cut_moves m n (s % k)
      by zero e =
          let z : later_moves m n s 0 ≡ 0 = (rw e) in
          omega (arith, z, cut 0 (s % k) (rw e at rows_split))
      by (suc q) e =
          let p : suc q - 1 ≡ q = omega arith in
          let z : later_moves m n s 0 ≡ q * (m * n) + cut_moves m n (s % k) = (rw (e, lt-ltb 0 (suc q) (omega arith), p)) in
          omega (arith, z, whole 0 (omega (arith, rw e at rows_split, suc-mul q k)), suc-mul q (m * n))

  pub growth_law : GrowthMoves s (c ∷ m ∷ h)
  unfolding old_count added_count earlier disk_count
  growth_law = record { at_start = at_start; in_windows = in_windows }
