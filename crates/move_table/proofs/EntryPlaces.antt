-- The entries of the table, and their places: every mark has one, in order, and no place is left.
use Prim.Native.Nat.{ℕ, zero, suc, ◌+◌, ◌-◌, ◌*◌, ◌/◌, ◌%◌, ◌≤◌, ◌<◌}
use mathlib.Core.Path.{◌≡◌, sym, ◌∙◌, ap}
use native.Mathlib.Nat.{add_assoc, zero-mul, not-suc-le-zero, mod-lt, div-lt_iff_lt-mul}
use native.Mathlib.Omega.{arith}
use lib.ListN.{length, get_or, get_or-eq_default}
use Rattle.base.specs.Below.{sum, joined}
use Rattle.base.proofs.Counting.{sum_ext, sum_within, sum_place}
use Rattle.base.proofs.Lists.{length_table, get_d_table, length_joined_sum, get_d_joined}
use Rattle.layout.specs.Limits.{most_disks}
use Rattle.layout.proofs.OneRow.{moved}
use Rattle.move_table.specs.Entries.{disk_of_mark, entries_of_pair, entries_of_sum, entries, entry_count, marks_of_sum, offset}
use Rattle.move_table.specs.Tables.{IsMark, IsMoveTable}

-- ---- lengths

length_pair : (m n : ℕ) → length (entries_of_pair m n) ≡ m * n
unfolding entries_of_pair
length_pair m n = length_table (disk_of_mark m n) (m * n)

length_sum : (k : ℕ) → length (entries_of_sum k) ≡ marks_of_sum k
unfolding entries_of_sum marks_of_sum
length_sum k = length_joined_sum (λ m. entries_of_pair m (k - m)) k ∙ sum_ext _ _ k (λ m _. length_pair m (k - m))

length_entries : length entries ≡ sum marks_of_sum (suc most_disks)
unfolding entries
length_entries = length_joined_sum entries_of_sum (suc most_disks) ∙ sum_ext _ _ (suc most_disks) (λ k _. length_sum k)

pub size_law : length entries ≡ entry_count
unfolding sum marks_of_sum
size_law = length_entries

-- ---- a mark's place

-- the place among the entries of its sum
abbrev place_in_sum : (m n j : ℕ) → ℕ
place_in_sum m n j = sum (λ i. i * (m + n - i)) m + j

module _ (m n j : ℕ) (h : IsMark m n j) where
  in_sum : place_in_sum m n j < marks_of_sum (m + n)
  unfolding marks_of_sum
  in_sum =
      let e : m + n - m ≡ n = omega arith in
      sum_within (λ i. i * (m + n - i)) (m + n) m j (omega (arith, h.pair.added)) (rw e h.below)

  pub within_law : offset m n j < length entries
  unfolding offset
  within_law =
      rw (length_entries, add_assoc)
      (sum_within marks_of_sum (suc most_disks) (m + n) (place_in_sum m n j) (omega (arith, h.pair.most)) in_sum)

  entry_of_pair : get_or (entries_of_pair m n) j 0 ≡ disk_of_mark m n j
  unfolding entries_of_pair
  entry_of_pair = get_d_table 0 (disk_of_mark m n) (m * n) j h.below

  entry_of_sum : get_or (entries_of_sum (m + n)) (place_in_sum m n j) 0 ≡ disk_of_mark m n j
  unfolding entries_of_sum
  entry_of_sum =
      let e : m + n - m ≡ n = omega arith in
      ap (λ (i : ℕ). get_or (joined (λ i. entries_of_pair i (m + n - i)) (m + n)) (i + j) 0) (sum_ext _ _ m (λ i _. sym (length_pair i (m + n - i))))
      ∙ get_d_joined 0 (λ i. entries_of_pair i (m + n - i)) (m + n) m j (omega (arith, h.pair.added)) (rw (e, length_pair m n) h.below)
      ∙ rw e entry_of_pair

  pub disk_law : get_or entries (offset m n j) 0 ≡ disk_of_mark m n j
  unfolding entries offset
  disk_law =
      rw add_assoc
      (ap (λ (i : ℕ). get_or (joined entries_of_sum (suc most_disks)) (i + place_in_sum m n j) 0) (sum_ext _ _ (m + n) (λ k _. sym (length_sum k)))
      ∙ get_d_joined 0 entries_of_sum (suc most_disks) (m + n) (place_in_sum m n j) (omega (arith, h.pair.most)) (rw (length_sum (m + n)) in_sum)
      ∙ entry_of_sum)

  pub added_disk_law : (m ≤ disk_of_mark m n j) × (disk_of_mark m n j < m + n)
  unfolding disk_of_mark
  added_disk_law =
      let old : j / n < m = (div-lt_iff_lt-mul h.pair.added).1 h.below in
      let digit : j % n < n = mod-lt j h.pair.added in
      let t = moved m n (j / n + j % n) h.pair.old h.pair.added (omega arith) (j / n) old (omega arith) (omega arith) in
      (t.0, t.1)

-- ---- order

module _ (m n j p q i : ℕ) (a : IsMark m n j) (b : IsMark p q i) where
  sum_rises_law : m + n < p + q → offset m n j < offset p q i
  unfolding offset
  sum_rises_law h = omega (arith, sum_within marks_of_sum (p + q) (m + n) (place_in_sum m n j) h (in_sum m n j a))

  old_rises_law : m + n ≡ p + q → m < p → offset m n j < offset p q i
  unfolding offset
  old_rises_law e h =
      let g : p + q - m ≡ n = omega arith in
      rw e (omega (arith, sum_within (λ i. i * (p + q - i)) p m j h (rw g a.below)))

mark_rises_law : (m n j i : ℕ) → j < i → offset m n j < offset m n i
unfolding offset
mark_rises_law m n j i h = omega arith

-- ---- no place is left

-- a mark of the sum k whose place among the entries of that sum is `at`
abbrev MarkAt : (k at : ℕ) → Type 0
MarkAt k at = (m : ℕ) × (n : ℕ) × (j : ℕ) × IsMark m n j × (m + n ≡ k) × (place_in_sum m n j ≡ at)

mark_at : (k m j at : ℕ) → k ≤ most_disks → m < k → j < m * (k - m) → sum (λ i. i * (k - i)) m + j ≡ at → MarkAt k at
mark_at k m j at most h below e =
    let split : m + (k - m) ≡ k = omega arith in
    (m, k - m, j, record { pair = record { old = some_old m below; added = omega arith; most = omega arith }; below = below }, split, rw split e)
  where
    some_old : (a : ℕ) → j < a * (k - m) → 0 < a
    some_old zero l = absurd (not-suc-le-zero (rw zero-mul at l))
    some_old (suc a) l = omega arith

mark_of_sum : (k at : ℕ) → k ≤ most_disks → at < marks_of_sum k → MarkAt k at
unfolding marks_of_sum
mark_of_sum k at most h = let (m, j, hm, hj, e) = sum_place (λ i. i * (k - i)) k at h in mark_at k m j at most hm hj e

each_place_law : (k : ℕ) → k < length entries → (m : ℕ) × (n : ℕ) × (j : ℕ) × IsMark m n j × (offset m n j ≡ k)
unfolding offset
each_place_law k h =
    let (s, r, hs, hr, e) = sum_place marks_of_sum (suc most_disks) k (rw length_entries at h) in
    let (m, n, j, a, same, place) = mark_of_sum s r (omega arith) hr in
    (m, n, j, a, omega (arith, place, ap (sum marks_of_sum) same, e))

-- ---- every entry is a disk from 1 to 15, and past the end 0 is told

pub entry_some_law : (k : ℕ) → k < entry_count → (0 < get_or entries k 0) × (get_or entries k 0 < most_disks)
entry_some_law k h =
    let (m, n, j, a, at) = each_place_law k (rw size_law h) in
    let disk = added_disk_law m n j a in
    rw (← at, disk_law m n j a) (omega (arith, disk.0, a.pair.old), omega (arith, disk.1, a.pair.most))

pub past_end_law : (k : ℕ) → entry_count ≤ k → get_or entries k 0 ≡ 0
past_end_law k h = get_or-eq_default entries 0 (rw size_law h)

pub table_law : IsMoveTable entries offset
table_law =
    record {
      within = within_law;
      its_disk = disk_law;
      each_place = each_place_law;
      sum_rises = sum_rises_law;
      old_rises = old_rises_law;
      mark_rises = λ m n j i _ _. mark_rises_law m n j i;
      size = size_law;
    }
