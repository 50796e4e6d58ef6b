-- What the loops over the growths need at each turn: the array of counts read as a history.
use Rattle.std.proofs.Common.{◌≡◌, ℕ, zero, suc, ◌+◌, ◌-◌, ◌*◌, ◌/◌, ◌%◌, ◌<◌, ◌≤◌, true, false, cond, List, ◌∷◌, length, get_or, sym, refl, ap, ◌∙◌, subst, inl, inr, le_refl, mul-le-mul, add-one, arith, le-ltb, lt-ltb, le-leb}
use native.Mathlib.Decide.{ℕ_discrete}
use borrow.Author.Tests.{lt-leb}
use Rattle.layout.specs.declared.Change.{Change}
use Rattle.layout.specs.declared.Change.TheVariants.{Added}
use Rattle.layout.specs.declared.Reason.{Reason}
use Rattle.layout.specs.declared.Reason.TheVariants.{AddedBy}
use Rattle.layout.specs.declared.Spot.{Spot}
use Rattle.layout.specs.Growth.{moves_from, old_block_spot, added_spot, spot_after, old_change, change_of, added_index, spot_before, block_after}
use Rattle.layout.specs.History.{Within, There, NotBefore, history, disk_count, earlier, old_count, added_count, newest_growth, rising, spot_of, block_at}
use Rattle.layout.specs.Limits.{Limits, Grows, most_disks, most_growths, most_rows}
use Rattle.layout.specs.Reasons.{reason_after, placed_reason, reason_of, move_count_of, moves_after}
use Rattle.layout.specs.Windows.{old_spot, moving}
use Rattle.base.proofs.Booleans.{and_both, clash, by_test}
use Rattle.layout.proofs.Histories.{rising_up, rising_earlier, rising_some}
use Rattle.layout.proofs.OneRow.{old_back}
use Rattle.layout.proofs.OneGrowth.{spot_after_old, spot_after_added, block_after_added, block_after_old}
use Rattle.layout.proofs.Bijection.{bijection}
use Rattle.layout.proofs.MovesTrue.{new_unmoved, moves_one_more, moves_at_format, absent_moves, moves_most}

pub history_length : (t : ℕ) (l : List ℕ) → length (history t l) ≡ suc t
unfolding history
history_length zero l = refl
history_length (suc t) l = ap suc (history_length t l)

pub history_disks : (t : ℕ) (l : List ℕ) → disk_count (history t l) ≡ get_or l t 0
unfolding history disk_count
history_disks zero l = refl
history_disks (suc t) l = refl

-- the first count of a history, and the first two of one with a growth
history_one : (t : ℕ) (l : List ℕ) → history t l ≡ get_or l t 0 ∷ earlier (history t l)
unfolding history earlier
history_one zero l = refl
history_one (suc t) l = refl

history_two : (j : ℕ) (l : List ℕ) → history (suc j) l ≡ get_or l (suc j) 0 ∷ get_or l j 0 ∷ earlier (history j l)
unfolding history
history_two j l = ap (λ (h : List ℕ). get_or l (suc j) 0 ∷ h) (history_one j l)

pub growths_most : (s t : ℕ) (l : List ℕ) → Limits s (history t l) → t ≤ most_growths
growths_most s t l a = omega (arith, a.growths_most, history_length t l)

-- ---- one growth back, from suc j growths to j

rise_two : (j : ℕ) (l : List ℕ) → rising (history (suc j) l) ≡ true → rising (get_or l (suc j) 0 ∷ get_or l j 0 ∷ earlier (history j l)) ≡ true
rise_two j l r = subst (λ (h : List ℕ). rising h ≡ true) (history_two j l) r

rise_one : (j : ℕ) (l : List ℕ) → rising (history (suc j) l) ≡ true → rising (get_or l j 0 ∷ earlier (history j l)) ≡ true
rise_one j l r = rising_earlier _ _ _ (rise_two j l r)

rise_before : (j : ℕ) (l : List ℕ) → rising (history (suc j) l) ≡ true → rising (history j l) ≡ true
rise_before j l r = subst (λ (h : List ℕ). rising h ≡ true) (sym (history_one j l)) (rise_one j l r)

-- with k for suc j, as the code has it
pub count_up : (j k : ℕ) (l : List ℕ) → k ≡ suc j → rising (history k l) ≡ true → get_or l j 0 < get_or l k 0
count_up j k l e r = rw e (rising_up _ _ _ (rise_two j l (rw e at r)))

module _ (s j : ℕ) (l : List ℕ) (a : Limits s (history (suc j) l)) where
  up : get_or l j 0 < get_or l (suc j) 0
  up = count_up j (suc j) l refl a.rise

  count_most : get_or l (suc j) 0 ≤ most_disks
  count_most = omega (arith, history_disks (suc j) l, a.disks_most)

  pub grows : Grows (get_or l j 0) (get_or l (suc j) 0 - get_or l j 0)
  grows =
      record {
        old = rising_some _ _ (rise_one j l a.rise);
        added = omega (arith, up);
        most = omega (arith, up, count_most);
      }

  one_earlier : Limits s (history j l)
  one_earlier =
      record {
        rise = rise_before j l a.rise;
        disks_most = omega (arith, history_disks j l, up, count_most);
        growths_most = omega (arith, a.growths_most, history_length j l, history_length (suc j) l);
        rows_least = a.rows_least;
        rows_most = a.rows_most;
      }

pub limits_at : (s t k : ℕ) (l : List ℕ) → Limits s (history t l) → k ≤ t → Limits s (history k l)
limits_at s zero k l a h = let e : 0 ≡ k = omega arith in subst (λ (i : ℕ). Limits s (history i l)) e a
limits_at s (suc t) k l a h =
    elim (ℕ_discrete k (suc t)) [
      | yes e ↦ subst (λ (i : ℕ). Limits s (history i l)) (sym e) a
      | no e ↦ limits_at s t k l (one_earlier s t l a) (omega (arith, e))
    ]

-- ---- counts that rise, as a test of them one by one finds

pub rising_first : (l : List ℕ) → 0 < get_or l 0 0 → rising (history 0 l) ≡ true
unfolding history rising
rising_first l h = le-leb 1 (get_or l 0 0) h

rising_suc : (k : ℕ) (l : List ℕ) → rising (history k l) ≡ true → get_or l k 0 < get_or l (suc k) 0 → rising (history (suc k) l) ≡ true
unfolding history rising
rising_suc zero l r h = and_both (lt-ltb (get_or l 0 0) (get_or l 1 0) h) r
rising_suc (suc k) l r h = and_both (lt-ltb (get_or l (suc k) 0) (get_or l (suc (suc k)) 0) h) r

-- one count more
pub rising_more : (k : ℕ) (l : List ℕ) → rising (history k l) ≡ true → get_or l k 0 < get_or l (k + 1) 0 → rising (history (k + 1) l) ≡ true
rising_more k l r h = rw (add-one k) (rising_suc k l r (rw (add-one k) at h))

-- after the last turn, k = t
pub limits_made : (s t k : ℕ) (l : List ℕ) → 0 < s → s ≤ most_rows → t ≤ most_growths → k ≤ t → t ≤ k → rising (history k l) ≡ true → get_or l t 0 ≤ most_disks
    → Limits s (history t l)
limits_made s t k l least most g up down r d =
    let e : k ≡ t = omega arith in
    record {
      rise = rw e at r;
      disks_most = omega (arith, history_disks t l);
      growths_most = omega (arith, history_length t l);
      rows_least = least;
      rows_most = most;
    }

-- A history does not rise if its first count is 0, or its newest not above the one before; nor does a later history then.
pub not_rising_first : (l : List ℕ) → get_or l 0 0 ≤ 0 → rising (history 0 l) ≡ false
unfolding history rising
not_rising_first l h = lt-leb 1 (get_or l 0 0) (omega arith)

pub not_rising_more : (k : ℕ) (l : List ℕ) → get_or l (k + 1) 0 ≤ get_or l k 0 → rising (history (k + 1) l) ≡ false
not_rising_more k l h =
    by_test (rising (history (k + 1) l)) (λ r. absurd (omega (arith, count_up k (k + 1) l (add-one k) r))) (λ r. r)

pub not_rising_later : (k t : ℕ) (l : List ℕ) → k ≤ t → rising (history k l) ≡ false → rising (history t l) ≡ false
not_rising_later k zero l h r = let e : k ≡ 0 = omega arith in rw e at r
not_rising_later k (suc t) l h r =
    elim (ℕ_discrete k (suc t)) [
      | yes e ↦ rw e at r
      | no e ↦ by_test (rising (history (suc t) l)) (λ f. clash (rise_before t l f) (not_rising_later k t l (omega (arith, e)) r)) (λ f. f)
    ]

-- ---- the growth that placed a block

-- with the counts that the code reads
pub there_counted : (s k : ℕ) (l : List ℕ) (x : ℕ) → x < get_or l k 0 * s → There s k l x
there_counted s k l x h = rw (history_disks k l) h

counted_there : (s k : ℕ) (l : List ℕ) (x : ℕ) → There s k l x → x < get_or l k 0 * s
counted_there s k l x h = rw (history_disks k l) at h

pub not_before_next : (s k : ℕ) (l : List ℕ) (x : ℕ) → get_or l k 0 * s ≤ x → NotBefore s (k + 1) l x
not_before_next s k l x h = let e : k + 1 - 1 ≡ k = omega arith in inr (rw (e, history_disks k l) h)

pub not_before_counted : (s j k : ℕ) (l : List ℕ) (x : ℕ) → k ≡ suc j → NotBefore s k l x → get_or l j 0 * s ≤ x
not_before_counted s j k l x e (inl z) = absurd (omega arith)
not_before_counted s j k l x e (inr h) = let i : k - 1 ≡ j = omega arith in rw (i, history_disks j l) at h

-- ---- the loops from that growth to now, at their turn k

module _ (s t k : ℕ) (l : List ℕ) (a : Limits s (history t l)) where
  pub first_count : 0 < get_or l 0 0
  first_count = rising_some _ _ (subst (λ (h : List ℕ). rising h ≡ true) (history_one 0 l) (limits_at s t 0 l a (omega arith)).rise)

  next_limits : k < t → Limits s (history (suc k) l)
  next_limits h = limits_at s t (suc k) l a h

  pub turn_up : k < t → get_or l k 0 < get_or l (k + 1) 0
  turn_up h = count_up k (k + 1) l (add-one k) (rw add-one (next_limits h).rise)

  pub turn_grows : k < t → Grows (get_or l k 0) (get_or l (k + 1) 0 - get_or l k 0)
  turn_grows h = rw add-one (grows s k l (next_limits h))

  -- the blocks after k growths do not wrap
  pub blocks_most : k ≤ t → get_or l k 0 * s ≤ 16_000_000
  blocks_most h =
      let d : get_or l k 0 ≤ most_disks = omega (arith, history_disks k l, (limits_at s t k l a h).disks_most) in
      mul-le-mul d a.rows_most

  module _ (x : ℕ) where
    pub turn_there : k < t → There s k l x → There s (k + 1) l x
    turn_there h w =
        let up : get_or l k 0 ≤ get_or l (k + 1) 0 = omega (arith, turn_up h) in
        there_counted s (k + 1) l x (omega (arith, counted_there s k l x w, mul-le-mul up (le_refl s)))

    pub turn_disk : (p : Spot) → k ≤ t → There s k l x → p ≡ spot_of s (history k l) x → p.disk < get_or l k 0
    turn_disk p h w e =
        let b = bijection s (history k l) (limits_at s t k l a h).rise in
        rw e (omega (arith, history_disks k l, (b.spot_within x w).disk))

pub spot_first : (s k : ℕ) (l : List ℕ) (x : ℕ) → k ≡ 0
    → ◌≡◌ {A = Spot} (record { disk = x % get_or l 0 0; row = record { 0 = x / get_or l 0 0 } }) (spot_of s (history k l) x)
unfolding history spot_of
spot_first s k l x e = rw e

spot_suc : (s k : ℕ) (l : List ℕ) (x : ℕ)
    → spot_of s (history (suc k) l) x ≡ spot_after (get_or l k 0) (get_or l (suc k) 0 - get_or l k 0) s x (spot_of s (history k l) x)
unfolding history spot_of
spot_suc s zero l x = refl
spot_suc s (suc k) l x = refl

pub spot_placed : (s j k : ℕ) (l : List ℕ) (x : ℕ) → k ≡ suc j → get_or l j 0 * s ≤ x
    → added_spot (get_or l j 0) (get_or l k 0 - get_or l j 0) (x - get_or l j 0 * s) ≡ spot_of s (history k l) x
spot_placed s j k l x e h = rw e (sym (spot_suc s j l x ∙ spot_after_added _ _ s x _ h))

pub spot_next : (s k : ℕ) (l : List ℕ) (x : ℕ) (p q : Spot) → There s k l x → p ≡ spot_of s (history k l) x
    → q ≡ old_block_spot (get_or l k 0) (get_or l (k + 1) 0 - get_or l k 0) p → q ≡ spot_of s (history (k + 1) l) x
spot_next s k l x p q w e f =
    rw (add-one k) (rw (e, add-one k) at f ∙ sym (spot_suc s k l x ∙ spot_after_old _ _ s x _ (counted_there s k l x w)))

-- and the reason
change_old : (m n s x : ℕ) (p : Spot) → x < m * s → change_of m n s x p ≡ old_change m n p
unfolding change_of
change_old m n s x p h = rw (lt-ltb x (m * s) h)

change_added : (m n s x : ℕ) (p : Spot) → m * s ≤ x → change_of m n s x p ≡ Added
unfolding change_of
change_added m n s x p h = rw (le-ltb x (m * s) h)

reason_suc : (s k : ℕ) (l : List ℕ) (x : ℕ) → reason_of s (history (suc k) l) x
    ≡ reason_after (change_of (get_or l k 0) (get_or l (suc k) 0 - get_or l k 0) s x (spot_of s (history k l) x)) (suc k) (reason_of s (history k l) x)
unfolding history reason_of
reason_suc s zero l x = refl
reason_suc s (suc k) l x = rw (history_length k l)

pub placed_added : (k : ℕ) → 0 < k → AddedBy k ≡ placed_reason k
unfolding placed_reason
placed_added zero h = absurd (omega arith)
placed_added (suc k) h = refl

pub reason_placed : (s k : ℕ) (l : List ℕ) (x : ℕ) → NotBefore s k l x → placed_reason k ≡ reason_of s (history k l) x
unfolding placed_reason reason_after history reason_of
reason_placed s zero l x h = refl
reason_placed s (suc j) l x h =
    sym (rw (reason_suc s j l x, change_added (get_or l j 0) (get_or l (suc j) 0 - get_or l j 0) s x (spot_of s (history j l) x) (not_before_counted s j (suc j) l x refl h)))

pub reason_next : (s k : ℕ) (l : List ℕ) (x : ℕ) (p : Spot) (c : Change) (r q : Reason) → There s k l x → p ≡ spot_of s (history k l) x
    → r ≡ reason_of s (history k l) x → c ≡ old_change (get_or l k 0) (get_or l (k + 1) 0 - get_or l k 0) p → q ≡ reason_after c (k + 1) r
    → q ≡ reason_of s (history (k + 1) l) x
reason_next s k l x p c r q w e f g o =
    let old = change_old (get_or l k 0) (get_or l (suc k) 0 - get_or l k 0) s x (spot_of s (history k l) x) (counted_there s k l x w) in
    rw (add-one k) (rw (g, e, f, add-one k, ← old) at o ∙ sym (reason_suc s k l x))

-- and by how many growths it was moved
moves_suc : (s k : ℕ) (l : List ℕ) (x : ℕ)
    → move_count_of s (history (suc k) l) x ≡ move_count_of s (history k l) x + cond (moving s (history (suc k) l) x) 1 0
unfolding history
moves_suc s k l x = moves_one_more s (get_or l (suc k) 0) (history k l) x

unmoved_counted : (s k : ℕ) (l : List ℕ) (x : ℕ) → get_or l k 0 * s ≤ x → moving s (history (suc k) l) x ≡ false
unfolding history old_count earlier
unmoved_counted s k l x h = new_unmoved s (history (suc k) l) x (rw (history_disks k l) h)

moving_counted : (s k : ℕ) (l : List ℕ) (x : ℕ) → There s k l x
    → moving s (history (suc k) l) x ≡ moves_from (get_or l k 0) (get_or l (suc k) 0 - get_or l k 0) (spot_of s (history k l) x)
unfolding moving history old_count added_count old_spot earlier disk_count
moving_counted s k l x h = rw (history_disks k l, lt-ltb x (get_or l k 0 * s) (counted_there s k l x h))

pub moves_placed : (s k : ℕ) (l : List ℕ) (x : ℕ) → rising (history k l) ≡ true → NotBefore s k l x → 0 ≡ move_count_of s (history k l) x
unfolding history
moves_placed s zero l x r h = sym (moves_at_format s (get_or l 0 0) x)
moves_placed s (suc j) l x r h =
    let old = not_before_counted s j (suc j) l x refl h in
    sym (rw (moves_suc s j l x, unmoved_counted s j l x old, absent_moves s (history j l) x (rise_before j l r) (rw (history_disks j l) old)))

-- what a growth did with an old block says whether it moved it
changed_moves : (m n : ℕ) (p : Spot) (before : ℕ) → moves_after (old_change m n p) before ≡ before + cond (moves_from m n p) 1 0
unfolding moves_after
changed_moves m n p before = by_test (moves_from m n p) (λ e. rw e) (λ e. rw e (omega arith))

pub moves_next : (s k : ℕ) (l : List ℕ) (x : ℕ) (p : Spot) (c : Change) (n q : ℕ) → There s k l x → p ≡ spot_of s (history k l) x
    → n ≡ move_count_of s (history k l) x → c ≡ old_change (get_or l k 0) (get_or l (k + 1) 0 - get_or l k 0) p → q ≡ moves_after c n
    → q ≡ move_count_of s (history (k + 1) l) x
moves_next s k l x p c n q w e f g o =
    let m = get_or l k 0 in
    let a = get_or l (suc k) 0 - get_or l k 0 in
    rw (add-one k)
    (rw (g, e, f, add-one k, changed_moves m a (spot_of s (history k l) x) (move_count_of s (history k l) x), ← moving_counted s k l x w) at o ∙ sym (moves_suc s k l x))

-- at most k, so that one more does not wrap
pub moves_below : (s t k : ℕ) (l : List ℕ) (x n : ℕ) → t ≤ most_growths → k ≤ t → n ≡ move_count_of s (history k l) x → n ≤ most_growths
moves_below s t k l x n g h e = omega (arith, e, moves_most s (history k l) x, history_length k l)

-- ---- the loop back from now to format, at its turn k = j + 1

block_suc : (s j : ℕ) (l : List ℕ) (p : Spot)
    → block_at s (history (suc j) l) p
    ≡ block_after (get_or l j 0) (get_or l (suc j) 0 - get_or l j 0) s p (block_at s (history j l) (spot_before (get_or l j 0) (get_or l (suc j) 0 - get_or l j 0) p))
unfolding history block_at
block_suc s zero l p = refl
block_suc s (suc j) l p = refl

-- The growth that a turn takes back, from m disks by n, which are read from the counts, and spot p of row b after it.
module _ (s t j k : ℕ) (l : List ℕ) (a : Limits s (history t l)) (e : k ≡ suc j) (h : k ≤ t) (m n : ℕ) (old : m ≡ get_or l j 0)
    (added : n ≡ get_or l (j + 1) 0 - get_or l j 0) (p : Spot) (b : ℕ) (w : Within s (history k l) p) (row : p.row.0 ≡ b) where
  here : Limits s (history (suc j) l)
  here = limits_at s t (suc j) l a (omega (arith, e, h))

  turn_back : Grows m n
  turn_back = rw (old, added, add-one j) (grows s j l here)

  back_sum : m + n ≡ get_or l k 0
  back_sum =
      let f : j + 1 ≡ k = omega (arith, e) in
      omega (arith, count_up j k l e (limits_at s t k l a h).rise, old, rw f at added)

  pub back_disk : p.disk < m + n
  back_disk = omega (arith, w.disk, history_disks k l, back_sum)

  block_now : block_at s (history k l) p ≡ block_after m n s p (block_at s (history j l) (spot_before m n p))
  block_now = rw (old, added, e, add-one j) (block_suc s j l p)

  module _ (i : ℕ) (f : i ≡ added_index m n p.disk b) where
    -- an added block of this growth
    pub back_added : i < n → m * s + b * n + i ≡ block_at s (history k l) p
    back_added u = rw (f, ← row) (sym (block_now ∙ block_after_added m n s p _ (rw (row, ← f) u)))

    -- an older one: the way back goes on from its spot before this growth
    pub back_none : n ≤ i → n ≤ added_index m n p.disk p.row.0
    back_none u = rw (row, ← f) u

    pub back_older : (q : Spot) → n ≤ i → q ≡ spot_before m n p
        → Within s (history j l) q × (q.row.0 ≡ b) × (block_at s (history j l) q ≡ block_at s (history k l) p)
    unfolding spot_before
    back_older q u v =
        let o = old_back m n p.row.0 turn_back.old turn_back.added p.disk back_disk (back_none u) in
        rw v (
          record { disk = rw (history_disks j l, ← old) o.0; row = w.row },
          row,
          sym (block_now ∙ block_after_old m n s p _ (back_none u)),
        )

-- at format
pub first_most : (s t : ℕ) (l : List ℕ) (b : ℕ) → Limits s (history t l) → b < s → b * get_or l 0 0 ≤ 16_000_000
first_most s t l b a h =
    let hb : b ≤ most_rows = omega (arith, a.rows_most) in
    let hd : get_or l 0 0 ≤ most_disks = omega (arith, history_disks 0 l, (limits_at s t 0 l a (omega arith)).disks_most) in
    mul-le-mul hb hd

pub turn_disk_most : (s t k : ℕ) (l : List ℕ) → Limits s (history t l) → (p : Spot) → k ≤ t → Within s (history k l) p → p.disk < most_disks
turn_disk_most s t k l a p h w = omega (arith, w.disk, (limits_at s t k l a h).disks_most)

pub block_first : (s k : ℕ) (l : List ℕ) (p : Spot) (b : ℕ) → k ≤ 0 → p.row.0 ≡ b → b * get_or l 0 0 + p.disk ≡ block_at s (history k l) p
unfolding history block_at
block_first s zero l p b h e = rw e
block_first s (suc k) l p b h e = omega arith

-- ---- the newest growth, to k = j + 1 growths

pub newest_is : (j k : ℕ) (l : List ℕ) → k ≡ suc j
    → ◌≡◌ {A = ℕ × ℕ} (get_or l j 0, get_or l k 0 - get_or l j 0) (newest_growth (history k l))
unfolding newest_growth old_count added_count earlier disk_count
newest_is j k l e = rw (e, history_two j l)

pub newest_old_is : (j k : ℕ) (l : List ℕ) → k ≡ suc j → get_or l j 0 ≡ old_count (history k l)
unfolding old_count earlier disk_count
newest_old_is j k l e = rw (e, history_two j l)

pub newest_added_is : (j k : ℕ) (l : List ℕ) → k ≡ suc j → get_or l k 0 - get_or l j 0 ≡ added_count (history k l)
unfolding old_count added_count earlier disk_count
newest_added_is j k l e = rw (e, history_two j l)

-- there is one where there was a growth
pub newest_old : (s t : ℕ) (l : List ℕ) → 0 < t → Limits s (history t l) → 0 < old_count (history t l)
unfolding old_count earlier disk_count
newest_old s zero l h a = absurd (omega arith)
newest_old s (suc j) l h a = rw (history_two j l) (grows s j l a).old

-- and it is within the limits
pub newest_grows : (s t : ℕ) (l : List ℕ) → 0 < t → Limits s (history t l) → Grows (old_count (history t l)) (added_count (history t l))
newest_grows s zero l h a = absurd (omega arith)
newest_grows s (suc j) l h a = rw (← newest_old_is j (suc j) l refl, ← newest_added_is j (suc j) l refl) (grows s j l a)
