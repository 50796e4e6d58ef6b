-- What is proved of the table of moves. `proofs/Theorems.antt` has the proof.
use Rattle.std.specs.Prelude.{ℕ, ◌+◌, ◌≤◌, ◌<◌, ◌≡◌, List, get_or}
use Rattle.layout.specs.Limits.{most_disks}
use Rattle.move_table.specs.Entries.{disk_of_mark, entries, entry_count, offset, offset_formula}
use Rattle.move_table.specs.Tables.{IsMark, IsMoveTable, AddressAgrees}
use Rattle.move_table.specs.Cases.{Examples, Counterexamples}

pub record MoveTableLaws : Type 0 where
  pub is_table : IsMoveTable entries offset
  -- no other places and no other numbers are
  pub only_places : (numbers : List ℕ) (place : (m n j : ℕ) → ℕ) → IsMoveTable numbers place → (m n j : ℕ) → IsMark m n j → place m n j ≡ offset m n j
  pub only_numbers : (numbers : List ℕ) (place : (m n j : ℕ) → ℕ) → IsMoveTable numbers place → numbers ≡ entries
  -- a mark's disk is an added one; so every entry is a disk from 1 to 15, and 0, as it is read past the end, is none
  pub added_disk : (m n j : ℕ) → IsMark m n j → (m ≤ disk_of_mark m n j) × (disk_of_mark m n j < m + n)
  pub entry_some : (k : ℕ) → k < entry_count → (0 < get_or entries k 0) × (get_or entries k 0 < most_disks)
  pub past_end : (k : ℕ) → entry_count ≤ k → get_or entries k 0 ≡ 0
  pub formula : (m n j : ℕ) → IsMark m n j → offset m n j ≡ offset_formula m n j
  pub address_agrees : (numbers : List ℕ) (place : (m n j : ℕ) → ℕ) → IsMoveTable numbers place → AddressAgrees numbers place
  pub examples : Examples
  pub counterexamples : Counterexamples
