-- Where spots start on their shelf: within the bytes that it needs.
use Prim.Native.Nat.{ℕ, ◌+◌, ◌-◌, ◌*◌, ◌≤◌, ◌<◌}
use mathlib.Core.Path.{◌≡◌, ap, ◌∙◌}
use native.Mathlib.Nat.{add-mul}
use native.Mathlib.Omega.{arith}
use Rattle.layout.specs.declared.Spot.{Spot}
use Rattle.medium.specs.declared.Geometry.{Geometry}
use Rattle.medium.specs.Medium.{place, bytes_needed}
use Rattle.medium.proofs.Theorems.{medium_laws}
use Rattle.shelves.specs.Shelves.{second_needs, place_on_second}

-- what is counted from k on
split_product : (d k s : ℕ) → k ≤ d → d * s ≡ k * s + (d - k) * s
split_product d k s h = let e : d ≡ k + (d - k) = omega arith in ap (λ (n : ℕ). n * s) e ∙ add-mul k (d - k) s

-- the needs of both shelves are those of all disks
pub both_need : (g : Geometry) (n k : ℕ) → k ≤ n → bytes_needed g k + second_needs g n k ≡ bytes_needed g n
unfolding bytes_needed second_needs
both_need g n k h =
    let e : n * g.rows * g.size ≡ k * g.rows * g.size + (n - k) * g.rows * g.size =
    rw (split_product n k g.rows h) (add-mul (k * g.rows) ((n - k) * g.rows) g.size) in
    omega (arith, e)

-- a spot of the second shelf, counted from the start of the first
pub second_place : (g : Geometry) (k : ℕ) (p : Spot) → k ≤ p.disk → bytes_needed g k + place_on_second g k p ≡ place g p
unfolding bytes_needed place_on_second place
second_place g k p h =
    let d = p.disk - k in
    let f : p.disk * g.rows + p.row.0 ≡ k * g.rows + (d * g.rows + p.row.0) = omega (arith, split_product p.disk k g.rows h) in
    let e : (p.disk * g.rows + p.row.0) * g.size ≡ k * g.rows * g.size + (d * g.rows + p.row.0) * g.size =
    rw f (add-mul (k * g.rows) (d * g.rows + p.row.0) g.size) in
    omega (arith, e)

-- the block of a spot lies in the bytes that its shelf needs
pub first_holds : (g : Geometry) (k : ℕ) (p : Spot) → p.disk < k → p.row.0 < g.rows → place g p + g.size ≤ bytes_needed g k
first_holds g k p d r = (medium_laws.inside g k p d r).fits

pub second_holds : (g : Geometry) (n k : ℕ) (p : Spot) → k ≤ p.disk → p.disk < n → p.row.0 < g.rows
    → place_on_second g k p + g.size ≤ second_needs g n k
second_holds g n k p h d r =
    let e = both_need g n k (omega (arith, h, d)) in
    let f = second_place g k p h in
    omega (arith, e, f, (medium_laws.inside g n p d r).fits)
