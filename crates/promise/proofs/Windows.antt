-- A block that moves does so in one of the growth's windows, whatever the counts: they need not rise.
use Prim.Native.Nat.{ℕ, zero, suc, ◌+◌, ◌-◌, ◌*◌, ◌/◌, ◌≤◌, ◌<◌}
use mathlib.Core.Path.{◌≡◌}
use mathlib.Core.Bool.{true}
use mathlib.Core.List.{List, [], ◌∷◌}
use native.Mathlib.Nat.{div-lt_iff_lt-mul, lt-div-mul-add, mul_comm, mul-sub}
use native.Mathlib.Omega.{arith}
use borrow.Author.Tests.{ltb-true, ltb-false}
use Rattle.base.proofs.Booleans.{cond_cases}
use Rattle.layout.specs.declared.Spot.{Spot}
use Rattle.layout.specs.Growth.{old_block_spot, added_spot, spot_after}
use Rattle.layout.specs.History.{disk_count, earlier, old_count, added_count, spot_of}
use Rattle.layout.specs.Windows.{windows, window_of_row, old_spot, moving, window_of}
use Rattle.layout.proofs.NextBlocks.{moving_old}

quotient_below : (y n s : ℕ) → y < n * s → y / n < s
quotient_below y zero s below = absurd (omega arith)
quotient_below y (suc n) s below =
    let some_n : 0 < suc n = omega arith in
    (div-lt_iff_lt-mul some_n).1 (omega arith)

-- what is left of a product beyond another
rest_below : (x c m s : ℕ) → x < c * s → m * s ≤ x → x - m * s < (c - m) * s
rest_below x c m s below past =
    let apart : s * (c - m) ≡ s * c - s * m = mul-sub s c m in
    omega (arith, apart, mul_comm (c - m) s)

row_below : (s : ℕ) (h : List ℕ) (x : ℕ) → x < disk_count h * s → (spot_of s h x).row.0 < s
unfolding spot_of disk_count spot_after old_block_spot added_spot
row_below s [] x below = absurd (omega arith)
row_below s (c ∷ []) x below = quotient_below x c s below
row_below s (c ∷ m ∷ h) x below =
    cond_cases (λ (p : Spot). p.row.0 < s) _ (λ t. row_below s (m ∷ h) x (ltb-true x (m * s) t))
    (λ t. quotient_below (x - m * s) (c - m) s (rest_below x c m s below (ltb-false x (m * s) t)))

pub some_disk : (m s x : ℕ) → x < m * s → 0 < m
some_disk zero s x below = absurd (omega arith)
some_disk (suc m) s x below = omega arith

-- a block that moves does so in one of the windows
pub window_there : (s : ℕ) (h : List ℕ) (x : ℕ) → moving s h x ≡ true → window_of s h x < windows (old_count h) (added_count h) s
unfolding windows window_of window_of_row old_spot old_count
window_there s h x e =
    let below : x < disk_count (earlier h) * s = moving_old s h x e in
    let k = disk_count (earlier h) + added_count h in
    let some_k : 0 < k = omega (arith, some_disk (disk_count (earlier h)) s x below) in
    let last : s + (k - 1) < (s + (k - 1)) / k * k + k = lt-div-mul-add some_k in
    let row : (spot_of s (earlier h) x).row.0 < s = row_below s (earlier h) x below in
    (div-lt_iff_lt-mul some_k).1 (omega arith)
