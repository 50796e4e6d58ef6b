-- Document 01, "Words and limits": the limits that the layout's code needs so that no sum wraps, and that the 64 marks need.
use Rattle.std.specs.Prelude.{◌≡◌, ℕ, suc, ◌+◌, ◌<◌, ◌≤◌, true, List, length}
use Rattle.layout.specs.History.{disk_count, rising}

-- "disk counts, strictly rising, 1 to 16"
abbrev pub most_disks : ℕ
most_disks = 16

-- "t, the number of growths, is 0 to 7"
abbrev pub most_growths : ℕ
most_growths = 7

-- "s: rows on each disk, 1 to 1,000,000"
abbrev pub most_rows : ℕ
most_rows = 1_000_000

-- a history and its rows within the limits
pub record Limits (s : ℕ) (h : List ℕ) : Type 0 where
  pub rise : rising h ≡ true
  pub disks_most : disk_count h ≤ most_disks
  pub growths_most : length h ≤ suc most_growths
  pub rows_least : 0 < s
  pub rows_most : s ≤ most_rows

-- a growth from m disks by n within the limits
pub record Grows (m n : ℕ) : Type 0 where
  pub old : 0 < m
  pub added : 0 < n
  pub most : m + n ≤ most_disks
