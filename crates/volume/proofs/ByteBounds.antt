-- The bytes that a volume needs: within the limits their number does not wrap, and the record is among them.
use Prim.Native.Nat.{ℕ, ◌*◌, ◌≤◌, ◌<◌, ◌^◌}
use native.Mathlib.Nat.{mul-le-mul, mul-le-mul_right}
use native.Mathlib.Omega.{arith}
use Rattle.layout.specs.Limits.{most_disks, most_rows}
use Rattle.medium.specs.declared.Geometry.{Geometry}
use Rattle.medium.specs.Medium.{record_bytes, bytes_needed, most_size}

pub bytes_bound : (g : Geometry) (n : ℕ) → g.size ≤ most_size → g.rows ≤ most_rows → n ≤ most_disks → bytes_needed g n < 2 ^ 64
unfolding bytes_needed
bytes_bound g n z s d =
    let h : n * g.rows * g.size ≤ most_disks * most_rows * most_size = mul-le-mul (mul-le-mul d s) z in
    omega (arith, h)

-- more disks need more
pub bytes_more : (g : Geometry) (n k : ℕ) → n ≤ k → bytes_needed g n ≤ bytes_needed g k
unfolding bytes_needed
bytes_more g n k h =
    let f : n * g.rows * g.size ≤ k * g.rows * g.size = mul-le-mul_right g.size (mul-le-mul_right g.rows h) in
    omega (arith, f)

-- a medium with room for the disks has room for the record
pub record_room : (g : Geometry) (n byte_count : ℕ) → bytes_needed g n ≤ byte_count → record_bytes ≤ byte_count
unfolding bytes_needed
record_room g n byte_count h = omega (arith, h)
