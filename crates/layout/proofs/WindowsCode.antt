-- The limits of the windows and marks, so that no sum in the code wraps.
use Rattle.std.proofs.Common.{◌≡◌, ℕ, suc, ◌+◌, ◌-◌, ◌*◌, ◌/◌, ◌%◌, ◌<◌, ◌≤◌, min, true, ltb, leb, refl, suc-mul, div-lt_iff_lt-mul, mul-le-mul, div-le_self, le-mul_of_pos_right, arith, leb-true}
use Rattle.base.specs.Below.{every}
use Rattle.layout.specs.Limits.{Grows, most_disks, most_rows}
use Rattle.layout.specs.Windows.{windows, cut_moves, later_moves}
use Rattle.base.proofs.Booleans.{cond_cases}
use Rattle.base.proofs.Counting.{every_use, sum_most}

-- a window has at most 64 marks: one computed test of all m and n with m+n at most that of the limits
products : every (λ m. every (λ n. leb (m * n) 64) (suc most_disks - m)) (suc most_disks) ≡ true
unfolding every
products = refl

pub marks_most : (m n : ℕ) → m + n ≤ most_disks → m * n ≤ 64
marks_most m n h =
    leb-true (m * n) 64
    (every_use (λ k. leb (m * k) 64) (suc most_disks - m)
    (every_use (λ j. every (λ k. leb (j * k) 64) (suc most_disks - j)) (suc most_disks) products m (omega arith)) n (omega arith))

-- there are no more windows than rows
pub windows_most : (m n s : ℕ) → 0 < n → windows m n s ≤ s
unfolding windows
windows_most m n s h =
    let k : 0 < m + n = omega arith in
    let l : s + (m + n - 1) < suc s * (m + n) = omega (arith, le-mul_of_pos_right s k, suc-mul s (m + n)) in
    omega (arith, (div-lt_iff_lt-mul k).1 l)

module _ (m n : ℕ) (g : Grows m n) where
  -- the most moves of a window that is cut off, of the whole windows from w on, and of all windows after w
  pub cut_most : (r : ℕ) → cut_moves m n r ≤ 256
  unfolding cut_moves
  cut_most r =
      let k : min m r ≤ most_disks = omega (arith, g.most) in
      omega (arith, sum_most (λ d. min n (r - d)) (min m r) most_disks (λ d h. omega (arith, g.most)))

  pub whole_most : (s w : ℕ) → s ≤ most_rows → (s / (m + n) - w) * (m * n) ≤ 64_000_000
  whole_most s w h =
      let k : s / (m + n) - w ≤ most_rows = omega (arith, div-le_self s (m + n)) in
      mul-le-mul k (marks_most m n g.most)

  pub later_most : (s w : ℕ) → s ≤ most_rows → later_moves m n s w ≤ 64_000_256
  unfolding later_moves
  later_most s w h =
      cond_cases (λ v. v ≤ 64_000_256) (ltb w (s / (m + n))) (λ e. omega (arith, whole_most s (suc w) h, cut_most (s % (m + n))))
      (λ e. omega arith)
