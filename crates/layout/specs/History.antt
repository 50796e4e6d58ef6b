-- Document 01, "Words and limits" and "Layout after t growths": the whole history of growths.
-- A history is the list of disk counts N[t] .. N[0], newest first, and never empty; s is the number of rows on each disk.
-- Blocks are numbers here; rows are a type of their own.
use Rattle.std.specs.Prelude.{◌≡◌, ◌≤◌, ◌⊎◌, ℕ, zero, suc, ◌+◌, ◌-◌, ◌*◌, ◌/◌, ◌%◌, ◌<◌, Bool, false, ◌&&◌, List, [], ◌∷◌, nat_le, nat_lt, slice_index}
use Rattle.layout.specs.declared.Spot.{Spot}
use Rattle.layout.specs.Growth.{spot_after, spot_before, block_after}

-- N[t] to N[0] of an array of counts
unfoldable pub history : (t : ℕ) (counts : List ℕ) → List ℕ
history zero counts = slice_index counts 0 ∷ []
history (suc t) counts = slice_index counts (suc t) ∷ history t counts

-- N[t], the disks now
unfoldable pub disk_count : (h : List ℕ) → ℕ
disk_count [] = 0
disk_count (c ∷ h) = c

-- the history before the newest growth
unfoldable pub earlier : (h : List ℕ) → List ℕ
earlier [] = []
earlier (c ∷ h) = h

-- "In a growth m = N[t-1], n = N[t] - m", of the newest growth.
unfoldable pub old_count : (h : List ℕ) → ℕ
old_count h = disk_count (earlier h)

unfoldable pub added_count : (h : List ℕ) → ℕ
added_count h = disk_count h - old_count h

-- both
unfoldable pub newest_growth : (h : List ℕ) → ℕ × ℕ
newest_growth h = (old_count h, added_count h)

-- "disk counts, strictly rising", at least 1
unfoldable pub rising : (h : List ℕ) → Bool
rising [] = false
rising (c ∷ []) = nat_le 1 c
rising (c ∷ m ∷ h) = nat_lt m c && rising (m ∷ h)

-- p is a spot of the volume: on one of its disks, in one of its rows
pub record Within (s : ℕ) (h : List ℕ) (p : Spot) : Type 0 where
  pub disk : p.disk < disk_count h
  pub row : p.row.0 < s

-- The spot of block x. "t = 0: block x is at d = x mod N[0], b = x / N[0], rounded down."
unfoldable pub spot_of : (s : ℕ) (h : List ℕ) (x : ℕ) → Spot
spot_of s [] x = record { disk = 0; row = record { 0 = 0 } }
spot_of s (c ∷ []) x = record { disk = x % c; row = record { 0 = x / c } }
spot_of s (c ∷ m ∷ h) x = spot_after m (c - m) s x (spot_of s (m ∷ h) x)

-- The block of a spot: the way back through the growths.
unfoldable pub block_at : (s : ℕ) (h : List ℕ) (p : Spot) → ℕ
block_at s [] p = 0
block_at s (c ∷ []) p = p.row.0 * c + p.disk
block_at s (c ∷ m ∷ h) p = block_after m (c - m) s p (block_at s (m ∷ h) (spot_before m (c - m) p))

-- Block x of s rows is there after the first k growths of an array of counts; it was not there before growth k, format for 0.
abbrev pub There : (s k : ℕ) (counts : List ℕ) (x : ℕ) → Type 0
There s k counts x = x < disk_count (history k counts) * s

abbrev pub NotBefore : (s k : ℕ) (counts : List ℕ) (x : ℕ) → Type 0
NotBefore s k counts x = (k ≡ 0) ⊎ (disk_count (history (k - 1) counts) * s ≤ x)
