-- Document 02, W5: "The first shelf holds the record and disks 0 to k-1, the second the remaining disks": the bytes that each needs for n disks
-- in all, the two joined, and where a spot starts.
use Rattle.std.specs.Prelude.{ℕ, ◌+◌, ◌-◌, ◌*◌, cond, List, ◌++◌, ltb, take}
use Rattle.layout.specs.declared.Spot.{Spot}
use Rattle.medium.specs.declared.Geometry.{Geometry}
use Rattle.medium.specs.Medium.{place, bytes_needed}
use Rattle.shelves.specs.declared.ViewStart.{ViewStart}
use Rattle.shelves.specs.declared.ViewStart.TheVariants.{First, Second}

-- 512 + k·s·Z and (n-k)·s·Z
abbrev pub first_needs : (g : Geometry) (k : ℕ) → ℕ
first_needs g k = bytes_needed g k

unfoldable pub second_needs : (g : Geometry) (n k : ℕ) → ℕ
second_needs g n k = (n - k) * g.rows * g.size

-- "the two joined without spare bytes"
unfoldable pub joined : (g : Geometry) (n k : ℕ) (first second : List ℕ) → List ℕ
joined g n k first second = take (first_needs g k) first ++ take (second_needs g n k) second

-- "the one shelf that has its spot": spot (d, b) is at byte 512 + (d·s + b)·Z of the first shelf, as in a medium, or at byte ((d-k)·s + b)·Z of
-- the second, whose first disk is disk k
unfoldable pub place_on_second : (g : Geometry) (k : ℕ) (p : Spot) → ℕ
place_on_second g k p = ((p.disk - k) * g.rows + p.row.0) * g.size

unfoldable pub start_on_shelf : (g : Geometry) (k : ℕ) (p : Spot) → ViewStart
start_on_shelf g k p = cond (ltb p.disk k) (First (place g p)) (Second (place_on_second g k p))
