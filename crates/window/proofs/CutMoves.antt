-- Triangles, 1 + 2 + .. + k: three of them count the moving blocks of a window that is cut off.
use Prim.Native.Nat.{ℕ, zero, suc, ◌+◌, ◌-◌, ◌*◌, ◌≤◌, ◌<◌, min}
use mathlib.Core.Path.{◌≡◌, refl, ap}
use native.Mathlib.Nat.{sub-zero, suc-mul, mul-suc, mul-le-mul}
use native.Mathlib.Omega.{arith}
use Rattle.base.specs.Below.{sum}
use Rattle.layout.specs.Limits.{most_disks}
use Rattle.layout.specs.Windows.{cut_moves}

-- 1 + 2 + .. + k
unfoldable pub triangle : (k : ℕ) → ℕ
triangle zero = 0
triangle (suc k) = triangle k + suc k

pub triangle_twice : (k : ℕ) → triangle k + triangle k ≡ k * (k + 1)
unfolding triangle
triangle_twice zero = refl
triangle_twice (suc k) = omega (arith, triangle_twice k, suc-mul k (k + 1), mul-suc (suc k) (k + 1))

pub product_most : (k : ℕ) → k ≤ most_disks → k * (k + 1) ≤ 272
product_most k h = let i : k + 1 ≤ 17 = omega arith in mul-le-mul h i

-- a number whose double is k·(k+1) is the triangle of k
is_triangle : (k x : ℕ) → x + x ≡ k * (k + 1) → x ≡ triangle k
is_triangle k x h = omega (arith, triangle_twice k, h)

-- a triangle by the one before; at 0 both are that of 0
by_one_before : (k j : ℕ) → j ≡ k - 1 → triangle k ≡ triangle j + k
unfolding triangle
by_one_before zero j h = let e : j ≡ 0 = omega arith in rw e
by_one_before (suc k) j h = let e : j ≡ k = omega arith in rw e

-- the moving blocks of the first e disks: `triangle r` counts with them the rows of the disks from e on, and each disk's rows past n
first_disks : (n r e : ℕ) → sum (λ d. min n (r - d)) e + triangle (r - e) + triangle (r - n) ≡ triangle r + triangle (r - n - e)
unfolding sum
first_disks n r zero = rw (sub-zero r, sub-zero (r - n)) (omega arith)
first_disks n r (suc e) =
    omega (arith, first_disks n r e, by_one_before (r - e) (r - suc e) (omega arith), by_one_before (r - n - e) (r - n - suc e) (omega arith))

-- all old disks: past the last of them and past n no row is left
cut_triangles : (m n r : ℕ) → r < m + n → cut_moves m n r + triangle (r - m) + triangle (r - n) ≡ triangle r
unfolding cut_moves
cut_triangles m n r h =
    let rest : triangle (r - min m r) ≡ triangle (r - m) = ap triangle (omega arith) in
    let none : triangle (r - n - min m r) ≡ triangle 0 = ap triangle (omega arith) in
    omega (arith, first_disks n r (min m r), rest, none, triangle_twice 0)

-- with the triangles as the code has them, by their doubles
pub cut_found : (m n r all past_old past_added : ℕ) → r < m + n → all + all ≡ r * (r + 1) → past_old + past_old ≡ (r - m) * (r - m + 1)
    → past_added + past_added ≡ (r - n) * (r - n + 1) → (past_added ≤ all - past_old) × (all - past_old - past_added ≡ cut_moves m n r)
cut_found m n r all past_old past_added h f g i =
    let e = cut_triangles m n r h in
    let a = is_triangle r all f in
    let b = is_triangle (r - m) past_old g in
    let c = is_triangle (r - n) past_added i in
    (omega (arith, e, a, b, c), omega (arith, e, a, b, c))
