-- Document 02, W9: what a table of moves is, address by such a table, and what it is to agree with.
use Rattle.std.specs.Prelude.{ℕ, ◌+◌, ◌-◌, ◌*◌, ◌/◌, ◌%◌, ◌<◌, ◌≡◌, true, cond, List, [], ◌∷◌, ltb, length, get_or}
use Rattle.layout.specs.declared.Spot.{Spot}
use Rattle.layout.specs.Growth.{moves_from, added_spot}
use Rattle.layout.specs.History.{old_count, added_count, spot_of}
use Rattle.layout.specs.Windows.{mark_of_spot, moving, mark_of}
use Rattle.layout.specs.Tally.{Tally, is_running, live_spot_of, growths_of}
use Rattle.layout.specs.Limits.{Grows, Limits}
use Rattle.move_table.specs.Entries.{disk_of_mark, entry_count}

-- j is a mark of a growth from m disks by n within the limits, "m + n at most 16"
pub record IsMark (m n j : ℕ) : Type 0 where
  pub pair : Grows m n
  pub below : j < m * n

-- Of a list of numbers, and of a place in it for each mark:
pub record IsMoveTable (numbers : List ℕ) (place : (m n j : ℕ) → ℕ) : Type 0 where
  -- "one number for each mark of each pair m, n .. : the new disk"
  pub within : (m n j : ℕ) → IsMark m n j → place m n j < length numbers
  pub its_disk : (m n j : ℕ) → IsMark m n j → get_or numbers (place m n j) 0 ≡ disk_of_mark m n j
  -- and no other number
  pub each_place : (k : ℕ) → k < length numbers → (m : ℕ) × (n : ℕ) × (j : ℕ) × IsMark m n j × (place m n j ≡ k)
  -- "Order is m + n rising, then m rising, then mark rising"
  pub sum_rises : (m n j p q i : ℕ) → IsMark m n j → IsMark p q i → m + n < p + q → place m n j < place p q i
  pub old_rises : (m n j p q i : ℕ) → IsMark m n j → IsMark p q i → m + n ≡ p + q → m < p → place m n j < place p q i
  pub mark_rises : (m n j i : ℕ) → IsMark m n j → IsMark m n i → j < i → place m n j < place m n i
  -- "that makes 3,060 entries"
  pub size : length numbers ≡ entry_count

-- ---- address by a table: document 01's, but that the new disk of a moving block is taken from a list of numbers, at the place of its mark

module _ (numbers : List ℕ) (place : (m n j : ℕ) → ℕ) where
  -- the disk of an old block after a growth, p being its spot before
  unfoldable pub disk_by_table : (m n : ℕ) (p : Spot) → ℕ
  disk_by_table m n p = cond (moves_from m n p) (get_or numbers (place m n (mark_of_spot m n p)) 0) p.disk

  -- the spot of block x
  unfoldable pub spot_by_table : (s : ℕ) (h : List ℕ) (x : ℕ) → Spot
  spot_by_table s [] x = record { disk = 0; row = record { 0 = 0 } }
  spot_by_table s (c ∷ []) x = record { disk = x % c; row = record { 0 = x / c } }
  spot_by_table s (c ∷ m ∷ h) x =
      let p = spot_by_table s (m ∷ h) x in
      cond (ltb x (m * s)) (record { disk = disk_by_table m (c - m) p; row = p.row }) (added_spot m (c - m) (x - m * s))

-- "Address may use it, and agrees with the formula for every block."
pub record AddressAgrees (numbers : List ℕ) (place : (m n j : ℕ) → ℕ) : Type 0 where
  -- a moving block of a growth, the newest of its history: its number is the disk of its new spot
  pub moving_block : (s : ℕ) (h : List ℕ) (x : ℕ) → Limits s h → moving s h x ≡ true
      → get_or numbers (place (old_count h) (added_count h) (mark_of s h x)) 0 ≡ (spot_of s h x).disk
  -- every block, through all growths of a history
  pub every_block : (s : ℕ) (h : List ℕ) (x : ℕ) → Limits s h → spot_by_table numbers place s h x ≡ spot_of s h x
  -- and the live spot, which address tells, in every stage of a growth: through the growths that have placed the block
  pub live_block : (t : Tally) (x : ℕ) → Limits t.rows t.counts → (is_running t.mode ≡ true → 0 < old_count t.counts)
      → spot_by_table numbers place t.rows (growths_of t x) x ≡ live_spot_of t x
