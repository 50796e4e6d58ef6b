-- Examples of the table of moves, and what breaks each part of `IsMoveTable` and of `AddressAgrees`.
use Rattle.std.specs.Prelude.{ℕ, suc, ◌+◌, ◌-◌, ◌*◌, ◌≡◌, List, [], ◌∷◌, ◌++◌, eqb, get_or, set, Some, None}
use Rattle.base.specs.Below.{table, joined}
use Rattle.layout.specs.declared.Spot.{Spot}
use Rattle.layout.specs.Windows.{mark_of}
use Rattle.layout.specs.Tally.{Tally, growing, live_spot_of, growths_of}
use Rattle.layout.specs.Limits.{most_disks}
use Rattle.move_table.specs.Entries.{entries_of_pair, entries_of_sum, entries, offset, offset_formula, place_of}
use Rattle.move_table.specs.Tables.{IsMoveTable, spot_by_table, AddressAgrees}

-- c entries from a place on
abbrev pub entries_from : (at c : ℕ) → List ℕ
entries_from at c = table (λ j. get_or entries (at + j) 0) c

abbrev pub at : (d b : ℕ) → Spot
at d b = record { disk = d; row = record { 0 = b } }

-- a growth from 3 disks to 5, with 5 rows, of which block 3 is copied and recorded
unfoldable pub under_way : Tally
under_way = record { rows = 5; counts = 5 ∷ 3 ∷ []; mode = growing; window = 0; copied = eqb 3; recorded = eqb 3 }

pub record Examples : Type 0 where
  -- the first pair, 1 and 1, has one mark; the last, 15 and 1, has 15
  pub first_place : place_of 1 1 0 ≡ Some 0
  pub last_place : place_of 15 1 14 ≡ Some 3_059
  pub last_formula : offset_formula 15 1 14 ≡ 3_059
  -- from 3 disks to 5, document 01's example: six marks
  pub three_to_five_place : place_of 3 2 0 ≡ Some 25
  pub three_to_five_law : entries_from 25 6 ≡ 3 ∷ 3 ∷ 4 ∷ 3 ∷ 4 ∷ 4 ∷ []
  -- from 2 disks to 5, the pair before: six marks too
  pub two_to_five_place : place_of 2 3 0 ≡ Some 19
  pub two_to_five : entries_from 19 6 ≡ 2 ∷ 2 ∷ 3 ∷ 3 ∷ 4 ∷ 4 ∷ []
  -- `moving_block`: block 4 of that growth is on disk 1 in row 1, and moves to disk 4
  pub its_mark : mark_of 5 (5 ∷ 3 ∷ []) 4 ≡ 2
  pub its_number : get_or entries (offset 3 2 2) 0 ≡ 4
  -- `every_block`, at document 01's cases L2, L5, L8 and L9: a block that moves and one that stays, also on another disk than 0, and after
  -- another growth one that moves once more and one that is added
  pub moves : spot_by_table entries offset 5 (5 ∷ 3 ∷ []) 4 ≡ at 4 1
  pub stays : spot_by_table entries offset 5 (5 ∷ 3 ∷ []) 12 ≡ at 0 4
  pub stays_on_another : spot_by_table entries offset 5 (5 ∷ 3 ∷ []) 1 ≡ at 1 0
  pub moves_later : spot_by_table entries offset 5 (6 ∷ 5 ∷ 3 ∷ []) 16 ≡ at 5 0
  pub added_later : spot_by_table entries offset 5 (6 ∷ 5 ∷ 3 ∷ []) 25 ≡ at 0 0
  -- `live_block`: in a growth under way block 3, which is recorded, is told at its new spot, and block 0 at its old one
  pub recorded_live : spot_by_table entries offset 5 (growths_of under_way 3) 3 ≡ at 3 1
  pub unrecorded_live : spot_by_table entries offset 5 (growths_of under_way 0) 0 ≡ at 0 0
  -- no old disk, no added disk, 17 disks, and a mark too many
  pub no_old : place_of 0 5 0 ≡ None
  pub no_added : place_of 5 0 0 ≡ None
  pub too_many_disks : place_of 9 8 0 ≡ None
  pub no_such_mark : place_of 3 2 6 ≡ None

-- Where `place` is any, no places make these numbers a table of moves; where `numbers` is any, no numbers do with these places.
pub record Counterexamples : Type 0 where
  -- `its_disk`: one entry changed, block 0's from 3 disks to 5
  pub one_changed : (place : (m n j : ℕ) → ℕ) → IsMoveTable (set entries 25 4) place → ⊥
  -- `within`: each place one more
  pub one_off : IsMoveTable entries (λ m n j. suc (offset m n j)) → ⊥
  -- `each_place`: a number more at the end
  pub one_more : IsMoveTable (entries ++ (1 ∷ [])) offset → ⊥
  -- `sum_rises`: all in the opposite order
  pub sums_fall : (numbers : List ℕ) → IsMoveTable numbers (λ m n j. 3_059 - offset m n j) → ⊥
  -- `old_rises`: m and n swapped
  pub swapped_places : (numbers : List ℕ) → IsMoveTable numbers (λ m n j. offset n m j) → ⊥
  pub swapped_numbers : (place : (m n j : ℕ) → ℕ) → IsMoveTable (joined (λ k. joined (λ m. entries_of_pair (k - m) m) k) (suc most_disks)) place → ⊥
  -- `mark_rises`: the marks of each pair falling
  pub marks_fall : (numbers : List ℕ) → IsMoveTable numbers (λ m n j. offset m n (m * n - suc j)) → ⊥
  -- `size`: m + n at most 15
  pub too_few : (place : (m n j : ℕ) → ℕ) → IsMoveTable (joined entries_of_sum most_disks) place → ⊥
  -- `moving_block`: one entry changed
  pub changed_disagrees : AddressAgrees (set entries 25 4) offset → ⊥
  -- `every_block`: m and n swapped
  pub swapped_disagrees : AddressAgrees entries (λ m n j. offset n m j) → ⊥
  -- `live_block`: each place one more, at a block that is recorded; and a step for a block that is not
  pub one_off_disagrees : AddressAgrees entries (λ m n j. suc (offset m n j)) → ⊥
  pub step_too_early : spot_by_table entries offset 5 (5 ∷ 3 ∷ []) 0 ≡ live_spot_of under_way 0 → ⊥
