-- Document 01, "Layout after t growths": one growth, from m disks by n more, to m+n.
-- d0 is a block's disk before the growth, b its row and b1 = b mod (m+n).
use Rattle.std.specs.Prelude.{ℕ, ◌+◌, ◌-◌, ◌*◌, ◌/◌, ◌%◌, Bool, cond, ◌&&◌, nat_le, nat_lt}
use Rattle.layout.specs.declared.Part.{Part}
use Rattle.layout.specs.declared.Part.TheVariants.{Head, Body, Tail}
use Rattle.layout.specs.declared.Row.{Row}
use Rattle.layout.specs.declared.Spot.{Spot}
use Rattle.layout.specs.declared.Change.{Change}
use Rattle.layout.specs.declared.Change.TheVariants.{Moved, Added, Stays}

-- "Remainders are never negative, also of negative numbers": (a - c) mod k.
unfoldable pub minus_mod : (a c k : ℕ) → ℕ
minus_mod a c k = (a + (k - c % k)) % k

-- "It moves exactly when d0 ≤ b1 ≤ d0+n-1."
unfoldable pub moves : (n d0 b1 : ℕ) → Bool
moves n d0 b1 = nat_le d0 b1 && nat_le b1 (d0 + n - 1)

-- "The new disk, first rule that fits": head, then tail, then body.
abbrev pub first_fit : (head tail : Bool) → Part
first_fit head tail = cond head Head (cond tail Tail Body)

-- "m ≥ n: head, b1 ≤ n-1: .. Tail, b1 ≥ m-1: ..", "m < n: head, b1 ≤ m-1: .. Tail, b1 ≥ n-1: .."
unfoldable pub part_of : (m n b1 : ℕ) → Part
part_of m n b1 = cond (nat_le n m) (first_fit (nat_le b1 (n - 1)) (nat_le (m - 1) b1)) (first_fit (nat_le b1 (m - 1)) (nat_le (n - 1) b1))

-- one number for each part
abbrev pub by_part : Part → (head tail body : ℕ) → ℕ
by_part Head head tail body = head
by_part Tail head tail body = tail
by_part Body head tail body = body

-- "head, .. d0+m. Tail, .. d0+n. Body: m+n-1-(b1-d0).", for m < n "Body: d0+b1+1."
unfoldable pub new_disk : (m n d0 b1 : ℕ) → ℕ
new_disk m n d0 b1 = by_part (part_of m n b1) (d0 + m) (d0 + n) (cond (nat_le n m) (m + n - 1 - (b1 - d0)) (d0 + b1 + 1))

-- "Otherwise it stays."
unfoldable pub disk_after : (m n d0 b1 : ℕ) → ℕ
disk_after m n d0 b1 = cond (moves n d0 b1) (new_disk m n d0 b1) d0

-- b1 of a row: "b1 = b mod (m+n)"
abbrev pub row_in_window : (m n : ℕ) (b : Row) → ℕ
row_in_window m n b = b.0 % (m + n)

-- does the old block at spot p move
unfoldable pub moves_from : (m n : ℕ) (p : Spot) → Bool
moves_from m n p = moves n p.disk (row_in_window m n p.row)

-- the spot after the growth of an old block that was at p. "Its row never changes."
unfoldable pub old_block_spot : (m n : ℕ) (p : Spot) → Spot
old_block_spot m n p = record { disk = disk_after m n p.disk (row_in_window m n p.row); row = p.row }

-- The added block q of row b: "d = ((b-(n-1)) mod (m+n) + (y mod n)) mod (m+n)", q being y mod n.
unfoldable pub added_disk : (m n b q : ℕ) → ℕ
added_disk m n b q = (minus_mod b (n - 1) (m + n) + q) % (m + n)

-- "y = x - m·s, b = y/n rounded down"
unfoldable pub added_spot : (m n y : ℕ) → Spot
added_spot m n y = record { disk = added_disk m n (y / n) (y % n); row = record { 0 = y / n } }

-- The spot of block x after the growth, with s rows, where p is its spot before: "x < m·s", or "m·s ≤ x < (m+n)·s".
unfoldable pub spot_after : (m n s x : ℕ) (p : Spot) → Spot
spot_after m n s x p = cond (nat_lt x (m * s)) (old_block_spot m n p) (added_spot m n (x - m * s))

-- what the growth does with an old block that was at p
abbrev pub old_change : (m n : ℕ) (p : Spot) → Change
old_change m n p = cond (moves_from m n p) (Moved (part_of m n (row_in_window m n p.row))) Stays

-- what the growth does with block x, which was at p if it is an old one
unfoldable pub change_of : (m n s x : ℕ) (p : Spot) → Change
change_of m n s x p = cond (nat_lt x (m * s)) (old_change m n p) Added

-- ---- the way back, taken from the rules above

-- The added block of row b that disk d has, if this is below n: (d-(b-(n-1))) mod (m+n).
unfoldable pub added_index : (m n d b : ℕ) → ℕ
added_index m n d b = minus_mod d (minus_mod b (n - 1) (m + n)) (m + n)

-- the old disk of the moved block that the added disk d has
unfoldable pub old_disk : (m n d b1 : ℕ) → ℕ
old_disk m n d b1 = by_part (part_of m n b1) (d - m) (d - n) (cond (nat_le n m) (b1 - (m + n - 1 - d)) (d - (b1 + 1)))

-- the disk before the growth of the old block that disk d has
unfoldable pub disk_before : (m n d b1 : ℕ) → ℕ
disk_before m n d b1 = cond (nat_lt d m) d (old_disk m n d b1)

-- the spot before the growth of the old block at p
unfoldable pub spot_before : (m n : ℕ) (p : Spot) → Spot
spot_before m n p = record { disk = disk_before m n p.disk (row_in_window m n p.row); row = p.row }

-- The block at p after the growth, where x is the block that the older layout has at the spot before: an added block, or x.
unfoldable pub block_after : (m n s : ℕ) (p : Spot) (x : ℕ) → ℕ
block_after m n s p x =
    let q = added_index m n p.disk p.row.0 in
    cond (nat_lt q n) (m * s + p.row.0 * n + q) x
