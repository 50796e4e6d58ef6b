-- Places of spots: past the record, apart from each other, within the bytes that the disks need.
use Prim.Native.Nat.{ℕ, suc, ◌+◌, ◌*◌, ◌≤◌, ◌<◌}
use mathlib.Core.Path.{◌≡◌}
use mathlib.Core.Logic.{◌⊎◌, ◌≢◌, inl, inr}
use native.Mathlib.Nat.{mul-le-mul_right, suc-mul}
use native.Mathlib.Decide.{dec_lt}
use native.Mathlib.Omega.{arith}
use lib.Arith.{digits_lt}
use Rattle.layout.specs.declared.Spot.{Spot}
use Rattle.layout.proofs.Spots.{same_spot}
use Rattle.medium.specs.declared.Geometry.{Geometry}
use Rattle.medium.specs.Medium.{record_bytes, place, bytes_needed, Inside}

-- a spot's number among all spots, disk by disk
abbrev number : (g : Geometry) (p : Spot) → ℕ
number g p = p.disk * g.rows + p.row.0

-- a later disk begins past every row of an earlier one
later_disk : (s d e a b : ℕ) → d < e → a < s → d * s + a < e * s + b
later_disk s d e a b h k = omega (arith, digits_lt {q = d} {m = e} {r = a} {c = s} h k)

-- two numbers are in order, or the same
ordered : (a b : ℕ) → (a < b) ⊎ ((a ≡ b) ⊎ (b < a))
ordered a b = elim (dec_lt a b) [
  | yes h ↦ inl h
  | no h ↦ elim (dec_lt b a) [
    | yes k ↦ inr (inr k)
    | no k ↦ inr (inl (omega arith))
  ]
]

numbers_differ : (g : Geometry) (p q : Spot) → p.row.0 < g.rows → q.row.0 < g.rows → p ≢ q
    → (number g p < number g q) ⊎ (number g q < number g p)
numbers_differ g p q a b n = elim (ordered p.disk q.disk) [
  | inl h ↦ inl (later_disk g.rows p.disk q.disk p.row.0 q.row.0 h a)
  | inr (inr h) ↦ inr (later_disk g.rows q.disk p.disk q.row.0 p.row.0 h b)
  | inr (inl e) ↦ elim (ordered p.row.0 q.row.0) [
    | inl h ↦ inl (rw e (omega arith))
    | inr (inl f) ↦ absurd (n (same_spot e f))
    | inr (inr h) ↦ inr (rw e (omega arith))
  ]
]

lower_place : (g : Geometry) (p q : Spot) → number g p < number g q → place g p + g.size ≤ place g q
unfolding place
lower_place g p q h =
    let f : suc (number g p) * g.size ≤ number g q * g.size = mul-le-mul_right g.size h in
    omega (arith, rw suc-mul at f)

pub past_record : (g : Geometry) (p : Spot) → record_bytes ≤ place g p
unfolding place
past_record g p = omega arith

pub disjoint : (g : Geometry) (p q : Spot) → p.row.0 < g.rows → q.row.0 < g.rows → p ≢ q
    → (place g p + g.size ≤ place g q) ⊎ (place g q + g.size ≤ place g p)
disjoint g p q a b n = elim (numbers_differ g p q a b n) [
  | inl h ↦ inl (lower_place g p q h)
  | inr h ↦ inr (lower_place g q p h)
]

pub inside : (g : Geometry) (disks : ℕ) (p : Spot) → p.disk < disks → p.row.0 < g.rows → Inside g (bytes_needed g disks) p
unfolding place bytes_needed
inside g disks p d r =
    let f : suc (number g p) * g.size ≤ disks * g.rows * g.size = mul-le-mul_right g.size (digits_lt d r) in
    record { row = r; fits = omega (arith, rw suc-mul at f) }
