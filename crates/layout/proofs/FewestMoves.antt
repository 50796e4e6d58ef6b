-- The fewest moves of the newest growth, from m disks to c: what is claimed in `specs/FewestMoves.antt`.
use Rattle.std.proofs.Common.{◌≡◌, ℕ, zero, suc, ◌+◌, ◌-◌, ◌*◌, ◌/◌, ◌%◌, ◌<◌, ◌≤◌, Bool, true, false, cond, not, ◌&&◌, eqb, ltb, leb, List, [], ◌∷◌, sym, refl, ap, ◌∙◌, subst, mul-le-mul_right, mod-lt, mod-eq_of_lt, mul_assoc, suc-mul, mul_comm, div-lt_iff_lt-mul, add_comm, div-add-mod', arith, ltb-true, lt-ltb, eq-eqb, ne_eqb, eqb-true, le-leb, leb-false, leb-true}
use mathlib.Core.Bool.{and-true, and-false, and_comm}
use native.Mathlib.Nat.{div-eq_of_lt, eq_of_mul-eq-mul_right}
use lib.Arith.{digits_div, digits_mod}
use Rattle.base.specs.Below.{count, sum}
use Rattle.base.proofs.Booleans.{and_left, and_right, and_both, clash, by_test, same_test}
use Rattle.base.proofs.Counting.{count_ext, count_zero, count_split, count_by_test, count_from, sum_all, sum_plus, OneToOne, count_one_to_one, count_by_value, count_agreeing}
use Rattle.layout.specs.declared.Row.{Row}
use Rattle.layout.specs.declared.Spot.{Spot}
use Rattle.layout.specs.Cases.{at}
use Rattle.layout.specs.Growth.{disk_after, added_index, spot_before, old_block_spot}
use Rattle.layout.specs.History.{Within, disk_count, earlier, old_count, added_count, rising, spot_of, block_at}
use Rattle.layout.specs.Windows.{old_spot, moving, window_of_row, window_of, moving_in, moves_of_window, windows, uncopied}
use Rattle.layout.specs.Spreads.{disk_of, in_window, in_first_windows, chosen_count, on_disk, on_another_disk, IsSpread, OnEachDisk, part_of_uncopied, part_at_grow, restriped, restripe_moves}
use Rattle.layout.specs.FewestMoves.{EvenSpread, EverySpread, WindowSpread, WindowLeast, FirstWindowsSpread, FirstWindowsLeast, PartsOfU, EveryGrowth, FewestInGrowth}
use Rattle.layout.proofs.Histories.{not_rising, rising_some}
use Rattle.layout.proofs.OneRow.{index_mod, old_there, old_back}
use Rattle.layout.proofs.NewestGrowth.{up, old_block, old_bijection, new_bijection, old_within, still_there, moving_law}
use Rattle.layout.proofs.AddedBlocks.{index_remainder, block_older}
use Rattle.layout.proofs.MarkBlocks.{old_pos, added_pos, marks_law}
use Rattle.layout.proofs.MoveCounts.{first_or_later, counts_law}

-- of the rows of a window, disk d has an old block in m: an added one is there where added_index, which takes each value below m+n once, is below n
old_rows : (m n d : ℕ) → 0 < n → count (λ b. leb n (added_index m n d b)) (m + n) ≡ m
old_rows m n d hn =
    count_one_to_one _ (m + n) (leb n) (m + n) (added_index m n d) (added_index m n d)
    (record {
      there = λ b l e. ((index_remainder m n d b hn).below, e, twice b l);
      back = λ q l e. ((index_remainder m n d q hn).below, rw (twice q l) e, twice q l);
    })
    ∙ count_from n (m + n) ∙ omega arith
  where
    twice : (b : ℕ) → b < m + n → added_index m n d (added_index m n d b) ≡ b
    twice b l =
        let q : ℕ = added_index m n d b in
        sym ((index_remainder m n d q hn).only b l (ap (◌% (m + n)) (add_comm b q) ∙ (index_remainder m n d b hn).same))

-- ---- any function, of any old blocks

module _ (s c m : ℕ) (h : List ℕ) (r : rising (c ∷ m ∷ h) ≡ true) where
  abbrev n : ℕ
  n = c - m

  abbrev k : ℕ
  k = m + (c - m)

  abbrev H : List ℕ
  H = c ∷ m ∷ h

  hm : 0 < m
  hm = old_pos s c m h r

  hn : 0 < n
  hn = added_pos s c m h r

  disks_some : 0 < k
  disks_some = omega (arith, hm)

  old_disk : (x : ℕ) → x < m * s → (old_spot s H x).disk < m
  unfolding old_spot earlier disk_count
  old_disk x l = (old_within s c m h r x l).disk

  module _ (chosen : ℕ → Bool) (each : ℕ) (f : ℕ → ℕ) (even : OnEachDisk s H chosen each f) where
    -- a spread has all of them on the disks
    blocks_of_spread : IsSpread s H chosen f → chosen_count s H chosen ≡ each * k
    unfolding chosen_count on_disk old_count added_count earlier disk_count
    blocks_of_spread spread = count_by_value chosen f k (m * s) spread ∙ sum_all _ k each even ∙ mul_comm k each

    module _ (blocks : chosen_count s H chosen ≡ each * k) where
      -- on the old disks it has m times each, so the rest of them is on another disk than before
      least_moved : each * n ≤ on_another_disk s H chosen f
      unfolding chosen_count on_disk on_another_disk old_count added_count earlier disk_count
      least_moved =
          let all = count_by_test chosen (λ x. eqb (f x) (old_spot s H x).disk) (m * s) in
          let kept = count_agreeing chosen f (λ x. (old_spot s H x).disk) m (m * s) each old_disk (λ d l. let e = even d (omega arith) in omega (arith, e)) in
          let product : each * k ≡ m * each + each * n = omega arith in
          omega (arith, blocks, all, kept, product)

      -- those on a disk are all of them
      on_disks : count (λ x. chosen x && ltb (f x) k) (m * s) ≡ each * k
      unfolding on_disk old_count added_count earlier disk_count
      on_disks =
          count_by_value (λ x. chosen x && ltb (f x) k) f k (m * s) (λ x l e. ltb-true (f x) k (and_right (chosen x) _ e))
          ∙ sum_all _ k each (λ d l. count_ext _ (λ x. chosen x && eqb (f x) d) (m * s) (λ x _. same x d l) ∙ even d l)
          ∙ mul_comm k each
        where
          same : (x d : ℕ) → d < k → ((chosen x && ltb (f x) k) && eqb (f x) d) ≡ (chosen x && eqb (f x) d)
          same x d l =
              same_test _ _ (λ e. and_both (and_left (chosen x) _ (and_left (chosen x && ltb (f x) k) _ e)) (and_right (chosen x && ltb (f x) k) _ e))
              (λ e.
              let z : f x ≡ d = eqb-true (f x) d (and_right (chosen x) _ e) in
              and_both (and_both (and_left (chosen x) _ e) (lt-ltb (f x) k (omega arith))) (and_right (chosen x) _ e))

      is_spread : IsSpread s H chosen f
      unfolding chosen_count old_count added_count earlier disk_count
      is_spread x l e =
          let all = count_by_test chosen (λ i. ltb (f i) k) (m * s) in
          let none = count_zero (λ i. chosen i && not (ltb (f i) k)) (m * s) (omega (arith, blocks, on_disks, all)) x l in
          by_test (ltb (f x) k) (λ t. ltb-true (f x) k t) (λ t. clash (and_both e (ap not t)) none)

  -- ---- the growth's own spread, of any old blocks

  new_disk : (x : ℕ) → x < m * s → disk_of s H x ≡ disk_after m n (old_spot s H x).disk ((old_spot s H x).row.0 % k)
  unfolding old_block_spot old_spot earlier
  new_disk x l = ap (λ (u : Spot). u.disk) (old_block s c m h r x l)

  ours_spread : (chosen : ℕ → Bool) → IsSpread s H chosen (disk_of s H)
  unfolding old_count added_count earlier disk_count
  ours_spread chosen x l e = rw (new_disk x l) (old_there m n (old_spot s H x).row.0 hm hn (old_spot s H x).disk (old_disk x l)).0

  -- where it has each of them on every disk and so many on another disk than before, both claims follow
  module _ (chosen : ℕ → Bool) (each moves : ℕ) (even : OnEachDisk s H chosen each (disk_of s H))
      (moved : on_another_disk s H chosen (disk_of s H) ≡ moves) where
    blocks : chosen_count s H chosen ≡ each * k
    blocks = blocks_of_spread chosen each (disk_of s H) even (ours_spread chosen)

    even_spread : EvenSpread s H chosen (disk_of s H) each moves
    unfolding old_count added_count earlier disk_count
    even_spread = record { blocks = blocks; is_spread = ours_spread chosen; even = even; moved = moved }

    every_spread : moves ≡ each * n → EverySpread s H chosen each moves
    unfolding old_count added_count earlier disk_count
    every_spread part =
        record {
          least = λ f e. subst (λ (z : ℕ). z ≤ on_another_disk s H chosen f) (sym part) (least_moved chosen each f e blocks);
          no_more = λ bound g. subst (λ (z : ℕ). bound ≤ z) moved (g (disk_of s H) even);
          is_spread = λ f e. is_spread chosen each f e blocks;
          only_each = λ f other g e. eq_of_mul-eq-mul_right k disks_some other each (sym (blocks_of_spread chosen other f e g) ∙ blocks);
        }

  -- ---- in one window

  row_kept : (x : ℕ) → x < m * s → (spot_of s H x).row.0 ≡ (old_spot s H x).row.0
  unfolding old_count earlier disk_count
  row_kept x l = ap (λ (b : Row). b.0) ((moving_law s c m h r).same_row x l)

  abbrev row_of : ℕ → ℕ
  row_of x = (old_spot s H x).row.0

  window_of_law : (x : ℕ) → window_of s H x ≡ row_of x / k
  unfolding window_of window_of_row old_count added_count earlier disk_count
  window_of_law x = refl

  module _ (w : ℕ) (fits : suc w * k ≤ s) (d : ℕ) (hd : d < k) where
    -- a row of the window, and the window of a row
    row_in : (x : ℕ) → in_window s H w x ≡ true → row_of x ≡ w * k + row_of x % k
    row_in x e =
        let f : row_of x / k ≡ w = sym (window_of_law x) ∙ eqb-true (window_of s H x) w e in
        sym (div-add-mod' (row_of x) k) ∙ ap (λ (j : ℕ). j * k + row_of x % k) f

    in_row : (x b : ℕ) → b < k → row_of x ≡ w * k + b → in_window s H w x ≡ true
    in_row x b l e = eq-eqb (window_of s H x) w (window_of_law x ∙ ap (λ (j : ℕ). j / k) e ∙ digits_div w l)

    row_exists : (b : ℕ) → b < k → w * k + b < s
    row_exists b l = omega (arith, fits, suc-mul w k)

    -- the block that disk d has in row b of the window
    block_on : ℕ → ℕ
    block_on b = block_at s H (at d (w * k + b))

    here : (b : ℕ) → b < k → Within s H (at d (w * k + b))
    unfolding disk_count
    here b l = record { disk = omega (arith, hd, up s c m h r); row = row_exists b l }

    older : (b : ℕ) → b < k → n ≤ added_index m n d b → block_on b < m * s
    unfolding block_on spot_before disk_count
    older b l e =
        let i : n ≤ added_index m n d (w * k + b) = rw (index_mod m n d (w * k + b), digits_mod w l) e in
        let o = old_back m n (w * k + b) hm hn d hd i in
        rw (block_older s c m h r (at d (w * k + b)) i)
        ((old_bijection s c m h r).block_within (spot_before m n (at d (w * k + b))) (record { disk = o.0; row = row_exists b l }))

    -- an old block that the growth has on disk d: there is no added one
    not_added : (x : ℕ) → x < m * s → disk_of s H x ≡ d → n ≤ added_index m n d (row_of x % k)
    not_added x l e =
        let o = old_there m n (row_of x) hm hn (old_spot s H x).disk (old_disk x l) in
        subst (λ (z : ℕ). n ≤ z) (index_mod m n d (row_of x)) (subst (λ (z : ℕ). n ≤ added_index m n z (row_of x)) (sym (new_disk x l) ∙ e) o.1)

    -- the window's old blocks on disk d, by their rows
    rows_of_disk : OneToOne (λ x. in_window s H w x && eqb (disk_of s H x) d) (m * s) (λ b. leb n (added_index m n d b)) k (λ x. row_of x % k) block_on
    unfolding block_on
    rows_of_disk =
        record {
          there = λ x l e.
              let g : disk_of s H x ≡ d = eqb-true _ d (and_right (in_window s H w x) _ e) in
              let z : w * k + row_of x % k ≡ (spot_of s H x).row.0 = sym (row_in x (and_left (in_window s H w x) _ e)) ∙ sym (row_kept x l) in (
                mod-lt (row_of x) disks_some,
                le-leb n _ (not_added x l g),
                (λ i. block_at s H (at (sym g i) (z i))) ∙ (new_bijection s c m h r).block_of_spot x (unfold disk_count in still_there s c m h r x l),
              );
          back = λ b l e.
              let low = older b l (leb-true n (added_index m n d b) e) in
              let q = (new_bijection s c m h r).spot_of_block (at d (w * k + b)) (here b l) in
              let z : row_of (block_on b) ≡ w * k + b = sym (row_kept (block_on b) low) ∙ ap (λ (u : Spot). u.row.0) q in (
                low,
                and_both (in_row (block_on b) b l z) (eq-eqb _ d (ap (λ (u : Spot). u.disk) q)),
                ap (λ (j : ℕ). j % k) z ∙ digits_mod w l,
              );
        }

    m_on_disk : count (λ x. in_window s H w x && eqb (disk_of s H x) d) (m * s) ≡ m
    m_on_disk = count_one_to_one _ (m * s) _ k (λ x. row_of x % k) block_on rows_of_disk ∙ old_rows m n d hn

  -- on another disk is exactly what moves
  moved_is : (x : ℕ) → x < m * s → not (eqb (disk_of s H x) (old_spot s H x).disk) ≡ moving s H x
  moved_is x l = by (moving s H x) refl
    where
      by : (t : Bool) → moving s H x ≡ t → not (eqb (disk_of s H x) (old_spot s H x).disk) ≡ t
      by true e =
          let high : m ≤ disk_of s H x = unfold old_count earlier disk_count in ((moving_law s c m h r).to_added_disk x e).0 in
          ap not (ne_eqb (disk_of s H x) (old_spot s H x).disk (λ z. omega (arith, old_disk x l, high, z)))
      by false e =
          ap not (eq-eqb (disk_of s H x) (old_spot s H x).disk (ap (λ (u : Spot). u.disk) ((moving_law s c m h r).stays x (unfold old_count earlier disk_count in l) e)))

  moved_in_window : (w : ℕ) → on_another_disk s H (in_window s H w) (disk_of s H) ≡ moves_of_window s H w
  unfolding on_another_disk moves_of_window moving_in old_count earlier disk_count
  moved_in_window w = count_ext _ _ (m * s) (λ x l. rw (moved_is x l) (and_comm (in_window s H w x) (moving s H x)))

  module _ (w : ℕ) (fits : suc w * k ≤ s) where
    window_even : OnEachDisk s H (in_window s H w) m (disk_of s H)
    unfolding on_disk old_count added_count earlier disk_count
    window_even d hd = m_on_disk w fits d hd

    window_moved : on_another_disk s H (in_window s H w) (disk_of s H) ≡ m * n
    unfolding old_count added_count earlier disk_count
    window_moved = moved_in_window w ∙ (counts_law s c m h r).whole_window w fits

    window_spread_law : WindowSpread s H w
    unfolding old_count added_count earlier disk_count
    window_spread_law = even_spread (in_window s H w) m (m * n) window_even window_moved

    window_least_law : WindowLeast s H w
    unfolding old_count added_count earlier disk_count
    window_least_law = every_spread (in_window s H w) m (m * n) window_even window_moved refl

  -- ---- in the first q windows

  module _ (q : ℕ) (fit : q * k ≤ s) where
    fits : (w : ℕ) → w < q → suc w * k ≤ s
    fits w l = omega (arith, mul-le-mul_right k l)

    -- a test with as many in each window
    by_windows : (p : ℕ → Bool) (each : ℕ) → ((w : ℕ) → w < q → count (λ x. in_window s H w x && p x) (m * s) ≡ each)
        → count (λ x. in_first_windows s H q x && p x) (m * s) ≡ q * each
    by_windows p each f =
        count_by_value (λ x. in_first_windows s H q x && p x) (window_of s H) q (m * s) (λ x l e. ltb-true _ q (and_left (in_first_windows s H q x) _ e))
        ∙ sum_all _ q each (λ w l. count_ext _ (λ x. in_window s H w x && p x) (m * s) (λ x _. one w l x) ∙ f w l)
      where
        one : (w : ℕ) → w < q → (x : ℕ) → ((in_first_windows s H q x && p x) && in_window s H w x) ≡ (in_window s H w x && p x)
        one w l x =
            same_test _ _ (λ e. and_both (and_right (in_first_windows s H q x && p x) _ e) (and_right (in_first_windows s H q x) _ (and_left (in_first_windows s H q x && p x) _ e)))
            (λ e.
            let z : window_of s H x ≡ w = eqb-true _ w (and_left (in_window s H w x) _ e) in
            and_both (and_both (lt-ltb (window_of s H x) q (omega arith)) (and_right (in_window s H w x) _ e)) (and_left (in_window s H w x) _ e))

    first_even : OnEachDisk s H (in_first_windows s H q) (q * m) (disk_of s H)
    unfolding on_disk old_count added_count earlier disk_count
    first_even d hd = by_windows (λ x. eqb (disk_of s H x) d) m (λ w l. m_on_disk w (fits w l) d hd)

    first_moved : on_another_disk s H (in_first_windows s H q) (disk_of s H) ≡ q * (m * n)
    unfolding on_another_disk old_count added_count earlier disk_count
    first_moved = by_windows (λ x. not (eqb (disk_of s H x) (old_spot s H x).disk)) (m * n) (λ w l. window_moved w (fits w l))

    first_windows_spread_law : FirstWindowsSpread s H q
    unfolding old_count added_count earlier disk_count
    first_windows_spread_law = even_spread (in_first_windows s H q) (q * m) (q * (m * n)) first_even first_moved

    first_windows_least_law : FirstWindowsLeast s H q
    unfolding old_count added_count earlier disk_count
    first_windows_least_law = every_spread (in_first_windows s H q) (q * m) (q * (m * n)) first_even first_moved (sym (mul_assoc q m n))

  all_old_law : (q : ℕ) → s ≡ q * k → (x : ℕ) → x < m * s → in_first_windows s H q x ≡ true
  all_old_law q all x l =
      let b : row_of x < q * k = subst (λ (z : ℕ). row_of x < z) all (unfold old_spot earlier in (old_within s c m h r x l).row) in
      lt-ltb (window_of s H x) q (rw (window_of_law x) ((div-lt_iff_lt-mul disks_some).1 b))

  -- ---- the windows' parts of U

  part_at_grow_law : (v : ℕ) → part_at_grow s H v ≡ moves_of_window s H v
  unfolding part_of_uncopied moves_of_window moving_in old_count earlier disk_count
  part_at_grow_law v =
      sym (count_split _ (λ x. ((moving s H x && eqb (window_of s H x) 0) && true) && in_window s H v x)
      (λ x. (moving s H x && ltb 0 (window_of s H x)) && in_window s H v x) (m * s) (λ x. by (moving s H x) (in_window s H v x) (window_of s H x)))
    where
      by : (a t : Bool) (u : ℕ) → cond (a && t) 1 0 ≡ cond (((a && eqb u 0) && true) && t) 1 0 + cond ((a && ltb 0 u) && t) 1 0
      by a true u = rw (and-true a, and-true ((a && eqb u 0) && true), and-true (a && ltb 0 u)) (first_or_later a u)
      by a false u = rw (and-false a, and-false ((a && eqb u 0) && true), and-false (a && ltb 0 u))

  -- where U counts only blocks that move, they are in its windows
  split_by_window : (p : ℕ → Bool) → ((x : ℕ) → p x ≡ true → moving s H x ≡ true)
      → count p (m * s) ≡ sum (λ v. count (λ x. p x && in_window s H v x) (m * s)) (windows m n s)
  unfolding old_count added_count earlier disk_count
  split_by_window p f = count_by_value p (window_of s H) (windows m n s) (m * s) (λ x l e. (marks_law s c m h r).in_windows x (f x e))

  parts_sum : (w : ℕ) (copied : ℕ → Bool) → uncopied s H w copied ≡ sum (part_of_uncopied s H w copied) (windows m n s)
  unfolding uncopied part_of_uncopied moving_in old_count earlier disk_count
  parts_sum w copied =
      let now : ℕ → Bool = λ x. (moving s H x && eqb (window_of s H x) w) && not (copied x) in
      let later : ℕ → Bool = λ x. moving s H x && ltb w (window_of s H x) in
      let a = split_by_window now (λ x e. and_left (moving s H x) _ (and_left (moving s H x && eqb (window_of s H x) w) _ e)) in
      let b = split_by_window later (λ x e. and_left (moving s H x) _ e) in
      rw (a, b) (sym (sum_plus (λ v. count (λ x. now x && in_window s H v x) (m * s)) (λ v. count (λ x. later x && in_window s H v x) (m * s)) (windows m n s)))

  parts_law : PartsOfU s H
  unfolding old_count added_count earlier disk_count
  parts_law =
      record {
        sum_of_parts = parts_sum;
        part_moved = λ w. part_at_grow_law w ∙ sym (moved_in_window w);
        cut_part = λ w z e. part_at_grow_law w ∙ (counts_law s c m h r).cut_window w z e;
      }

  pub fewest_law : FewestInGrowth s (c ∷ m ∷ h)
  unfolding old_count added_count earlier disk_count
  fewest_law =
      record {
        window_spread = window_spread_law;
        window_least = window_least_law;
        first_windows_spread = first_windows_spread_law;
        first_windows_least = first_windows_least_law;
        all_old = all_old_law;
        parts = parts_law;
      }

-- ---- every history grows

pub every_growth_law : EveryGrowth
unfolding rising old_count added_count earlier disk_count
every_growth_law =
    record {
      any_start = λ m g. le-leb 1 m (omega arith);
      any_next = next;
    }
  where
    next : (before : List ℕ) (n : ℕ) → rising before ≡ true → 0 < n
        → let h = (disk_count before + n) ∷ before in
        (rising h ≡ true) × (0 < old_count h) × (earlier h ≡ before) × (old_count h ≡ disk_count before) × (added_count h ≡ n)
    next [] n r g = absurd (not_rising r)
    next (m ∷ h) n r g =
        unfold rising old_count added_count earlier disk_count in
        (and_both (lt-ltb m (m + n) (omega arith)) r, rising_some m h r, refl, refl, omega arith)

-- ---- a full restripe

-- a block keeps its spot exactly if it is below m
restriped_from : (m n s x : ℕ) → 0 < m → 0 < n → restriped m n s x ≡ leb m x
unfolding restriped spot_of
restriped_from m n s x hm hn =
    by_test (leb m x)
    (λ e.
    let l : m ≤ x = leb-true m x e in
    rw e (ap not (by_test (eqb (x % (m + n)) (x % m) && eqb (x / (m + n)) (x / m))
    (λ t. absurd (apart l (eqb-true _ _ (and_left (eqb (x % (m + n)) (x % m)) _ t)) (eqb-true _ _ (and_right (eqb (x % (m + n)) (x % m)) _ t)))) (λ t. t))))
    (λ e.
    let l : x < m = leb-false m x e in
    rw (e, mod-eq_of_lt l, mod-eq_of_lt {n = x} {m = m + n} (omega arith), div-eq_of_lt l, div-eq_of_lt {n = x} {m = m + n} (omega arith), eq-eqb x x refl))
  where
    -- before row q, m disks have q·m blocks and m+n disks have q·n more
    same_place : (q z : ℕ) → z < m → m ≤ x → q * m + z ≡ x → q * (m + n) + z ≡ x → ⊥
    same_place zero z l g a b = omega arith
    same_place (suc q) z l g a b = omega arith

    apart : m ≤ x → x % (m + n) ≡ x % m → x / (m + n) ≡ x / m → ⊥
    apart l e f = same_place (x / m) (x % m) (mod-lt x hm) l (div-add-mod' x m) (rw (sym f, sym e) (div-add-mod' x (m + n)))

pub restripe_law : (m n s : ℕ) → 0 < m → 0 < n → restripe_moves m n s ≡ m * s - m
unfolding restripe_moves
restripe_law m n s hm hn = count_ext _ (leb m) (m * s) (λ x _. restriped_from m n s x hm hn) ∙ count_from m (m * s)
