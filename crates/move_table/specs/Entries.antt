-- Document 02, W9: "one number for each mark of each pair m, n with m + n at most 16: the new disk .. Order is m + n rising, then m rising,
-- then mark rising". m and n are those of a growth, from m disks by n more.
use Rattle.std.specs.Prelude.{ℕ, suc, ◌+◌, ◌-◌, ◌*◌, ◌/◌, ◌%◌, Bool, cond, ◌&&◌, List, Option, Some, None, leb, ltb}
use Rattle.base.specs.Below.{sum, table, joined}
use Rattle.layout.specs.Growth.{new_disk}
use Rattle.layout.specs.Limits.{most_disks}

-- ---- the table

-- "the disk of document 01's rule" for mark j: "mark d0·n + (b1-d0)", so that d0 = j/n and b1 = d0 + j mod n
unfoldable pub disk_of_mark : (m n j : ℕ) → ℕ
disk_of_mark m n j = new_disk m n (j / n) (j / n + j % n)

-- the entries of a pair, "mark rising"
unfoldable pub entries_of_pair : (m n : ℕ) → List ℕ
entries_of_pair m n = table (disk_of_mark m n) (m * n)

-- the entries of the pairs with m + n = k, "m rising"; m = 0 has none
unfoldable pub entries_of_sum : (k : ℕ) → List ℕ
entries_of_sum k = joined (λ m. entries_of_pair m (k - m)) k

-- all entries, "m + n rising", "m + n at most 16"
unfoldable pub entries : List ℕ
entries = joined entries_of_sum (suc most_disks)

-- "that makes 3,060 entries"
abbrev pub entry_count : ℕ
entry_count = 3_060

-- ---- the place of an entry in the table

-- the number of entries of the pairs with m + n = k
unfoldable pub marks_of_sum : (k : ℕ) → ℕ
marks_of_sum k = sum (λ m. m * (k - m)) k

-- how many entries are before that of mark j: those of lower sums, those of the same sum with a lower m, and those of lower marks
unfoldable pub offset : (m n j : ℕ) → ℕ
offset m n j = sum marks_of_sum (m + n) + sum (λ i. i * (m + n - i)) m + j

-- the same without a sum: with k = m+n, (k+1)·k·(k-1)·(k-2)/24 + m·(m-1)·(m+3n+1)/6 + j
unfoldable pub offset_formula : (m n j : ℕ) → ℕ
offset_formula m n j =
    let k = m + n in
    (k + 1) * k * (k - 1) * (k - 2) / 24 + m * (m - 1) * (m + 3 * n + 1) / 6 + j

-- is there such a pair, and such a mark of it
unfoldable pub has_mark : (m n j : ℕ) → Bool
has_mark m n j = leb 1 m && leb 1 n && leb (m + n) most_disks && ltb j (m * n)

-- the place of the entry of a mark, if there is such a mark
unfoldable pub place_of : (m n j : ℕ) → Option ℕ
place_of m n j = cond (has_mark m n j) (Some (offset m n j)) None
