-- Marks and old spots of moving blocks, in the growth from m disks by n. For all m and n above 0.
use Rattle.std.proofs.Common.{◌≡◌, ℕ, suc, ◌+◌, ◌-◌, ◌*◌, ◌/◌, ◌%◌, ◌<◌, ◌≤◌, true, ap, ◌∙◌, mod-lt, suc-mul, div-lt_iff_lt-mul, mul-pos, div-add-mod', le-div_iff_mul-le, arith}
use native.Mathlib.Nat.{lt-div-mul-add, zero-div, zero-mod}
use lib.Arith.{digits_lt, digits_div, digits_mod}
use Rattle.layout.specs.declared.Spot.{Spot}
use Rattle.layout.proofs.Spots.{same_spot}
use Rattle.layout.specs.Growth.{moves_from}
use Rattle.layout.specs.Windows.{windows, window_of_row, mark_of_spot, spot_of_mark}
use Rattle.layout.proofs.OneRow.{moves_rows, rows_move}

module _ (m n : ℕ) (hm : 0 < m) (hn : 0 < n) where
  -- the mark of a moving block, and the spot of that mark
  module _ (p : Spot) (hd : p.disk < m) (mv : moves_from m n p ≡ true) where
    b1 : ℕ
    b1 = p.row.0 % (m + n)

    rows : (p.disk ≤ b1) × (b1 < p.disk + n)
    unfolding moves_from b1
    rows = moves_rows n p.disk (p.row.0 % (m + n)) hn mv

    digit : b1 - p.disk < n
    digit = omega (arith, rows)

    pub mark_below : mark_of_spot m n p < m * n
    unfolding mark_of_spot b1
    mark_below = digits_lt hd digit

    pub mark_disk : mark_of_spot m n p / n ≡ p.disk
    unfolding mark_of_spot b1
    mark_disk = digits_div p.disk digit

    pub mark_row : mark_of_spot m n p / n + mark_of_spot m n p % n ≡ p.row.0 % (m + n)
    unfolding mark_of_spot b1
    mark_row =
        omega (arith, rows, digits_div p.disk digit, digits_mod p.disk digit)

    pub spot_of_mark_law : spot_of_mark m n (window_of_row m n p.row) (mark_of_spot m n p) ≡ p
    unfolding spot_of_mark window_of_row b1
    spot_of_mark_law =
        same_spot mark_disk
        (ap (λ (r : ℕ). p.row.0 / (m + n) * (m + n) + r) mark_row ∙ div-add-mod' p.row.0 (m + n))

  -- the spot of a mark, and the mark of that spot
  module _ (w j : ℕ) (hj : j < m * n) where
    pub mark_spot_disk : (spot_of_mark m n w j).disk < m
    unfolding spot_of_mark
    mark_spot_disk = (div-lt_iff_lt-mul hn).1 hj

    row_small : j / n + j % n < m + n
    row_small = omega (arith, mark_spot_disk, mod-lt j hn, (div-lt_iff_lt-mul hn).1 hj)

    pub mark_spot_window : window_of_row m n (spot_of_mark m n w j).row ≡ w
    unfolding spot_of_mark window_of_row
    mark_spot_window = digits_div w row_small

    row_is : (spot_of_mark m n w j).row.0 % (m + n) ≡ j / n + j % n
    unfolding spot_of_mark
    row_is = digits_mod w row_small

    pub mark_spot_moves : moves_from m n (spot_of_mark m n w j) ≡ true
    unfolding moves_from spot_of_mark
    mark_spot_moves =
        rw row_is (rows_move n (j / n) (j / n + j % n) hn (omega arith) (omega (arith, mod-lt j hn)))

    pub mark_of_spot_law : mark_of_spot m n (spot_of_mark m n w j) ≡ j
    unfolding mark_of_spot spot_of_mark
    mark_of_spot_law =
        let e : j / n + j % n - j / n ≡ j % n = omega arith in
        rw (row_is, e) (div-add-mod' j n)

  -- rows and windows
  pub row_window : (s b : ℕ) → b < s → b / (m + n) < windows m n s
  unfolding windows
  row_window s b h =
      let hk : 0 < m + n = omega arith in
      let k : s + (m + n - 1) < (s + (m + n - 1)) / (m + n) * (m + n) + (m + n) = lt-div-mul-add hk in
      (div-lt_iff_lt-mul hk).1 (omega arith)

  pub window_row : (s w : ℕ) → w < windows m n s → w * (m + n) < s
  unfolding windows
  window_row s w h =
      let hk : 0 < m + n = omega arith in
      let k : suc w * (m + n) ≤ s + (m + n - 1) = (le-div_iff_mul-le hk).0 h in
      omega (arith, rw suc-mul at k)

  -- the first mark is of the window's first row
  pub first_mark : (w : ℕ) → (0 < m * n) × ((spot_of_mark m n w 0).row.0 ≡ w * (m + n))
  unfolding spot_of_mark
  first_mark w = (mul-pos hm hn, omega (arith, zero-div n, zero-mod n))
