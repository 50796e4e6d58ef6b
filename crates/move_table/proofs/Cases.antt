-- The examples and the counterexamples of the table of moves, by computation.
use Prim.Native.Nat.{ℕ, suc, ◌-◌, ◌<◌}
use mathlib.Core.Path.{◌≡◌, refl, sym, ◌∙◌, ap}
use mathlib.Core.List.{List, [], ◌∷◌}
use native.Mathlib.Omega.{arith}
use lib.ListN.{length, get_or, set}
use Rattle.base.specs.Below.{sum, table, joined}
use Rattle.layout.specs.declared.Spot.{Spot}
use Rattle.layout.specs.Growth.{minus_mod, moves, part_of, new_disk, disk_after, moves_from, old_block_spot, added_disk, added_spot, spot_after}
use Rattle.layout.specs.History.{disk_count, earlier, old_count, added_count, rising, spot_of}
use Rattle.layout.specs.Windows.{window_of_row, mark_of_spot, old_spot, moving, window_of, mark_of}
use Rattle.layout.specs.Live.{at_new_spot, live_spot}
use Rattle.layout.specs.Tally.{recorded_by, moved_blocks, live_spot_of, growths_of}
use Rattle.layout.specs.Limits.{Limits, most_disks}
use Rattle.move_table.specs.Entries.{disk_of_mark, entries_of_pair, entries_of_sum, entries, entry_count, marks_of_sum, offset, offset_formula, has_mark, place_of}
use Rattle.move_table.specs.Tables.{IsMoveTable, disk_by_table, spot_by_table}
use Rattle.move_table.specs.Cases.{under_way, Examples, Counterexamples}
use Rattle.move_table.proofs.PlacesCode.{mark_true}
use Rattle.move_table.proofs.EntryPlaces.{table_law}
use Rattle.move_table.proofs.OnlyTable.{only_numbers_law}

-- unfolded, it opens what the computations below share
unfoldable opened : Unit {0}
unfolding entries entries_of_sum entries_of_pair disk_of_mark marks_of_sum offset offset_formula has_mark place_of spot_by_table disk_by_table mark_of_spot moves_from moves new_disk part_of added_spot added_disk minus_mod under_way moving mark_of old_spot spot_of spot_after old_block_spot disk_after old_count added_count earlier disk_count live_spot_of growths_of at_new_spot live_spot moved_blocks recorded_by window_of window_of_row table joined sum
opened = tt

pub examples_law : Examples
unfolding opened
examples_law =
    record {
      first_place = refl;
      last_place = refl;
      last_formula = refl;
      three_to_five_place = refl;
      three_to_five_law = refl;
      two_to_five_place = refl;
      two_to_five = refl;
      its_mark = refl;
      its_number = refl;
      moves = refl;
      stays = refl;
      stays_on_another = refl;
      moves_later = refl;
      added_later = refl;
      recorded_live = refl;
      unrecorded_live = refl;
      no_old = refl;
      no_added = refl;
      too_many_disks = refl;
      no_such_mark = refl;
    }

-- ---- tables

-- a list whose entry k is another than ours
other_entry : (numbers : List ℕ) (place : (m n j : ℕ) → ℕ) (k a b : ℕ) → get_or numbers k 0 ≡ a → get_or entries k 0 ≡ b → (a ≡ b → ⊥)
    → IsMoveTable numbers place → ⊥
other_entry numbers place k a b ours theirs differ is =
    differ (sym ours ∙ ap (λ (l : List ℕ). get_or l k 0) (only_numbers_law numbers place is) ∙ theirs)

-- a list of another length
other_length : (numbers : List ℕ) (place : (m n j : ℕ) → ℕ) (k : ℕ) → length numbers ≡ k → (k ≡ entry_count → ⊥) → IsMoveTable numbers place → ⊥
other_length numbers place k theirs differ is = differ (sym theirs ∙ is.size)

-- ---- address, from 3 disks to 5 with 5 rows

abbrev disk : Spot → ℕ
disk p = p.disk

three_to_five : Limits 5 (5 ∷ 3 ∷ [])
unfolding rising disk_count
three_to_five = record { rise = refl; disks_most = omega arith; growths_most = omega arith; rows_least = omega arith; rows_most = omega arith }

pub counterexamples_law : Counterexamples
unfolding opened
counterexamples_law =
    record {
      one_changed = λ place. other_entry (set entries 25 4) place 25 4 3 refl refl (λ e. omega arith);
      one_off = λ is. let h : 3_060 < 3_060 = is.within 15 1 14 (mark_true 15 1 14 refl) in omega arith;
      one_more =
          λ is.
          let (m, n, j, a, at) = is.each_place 3_060 (omega arith) in
          let h : offset m n j < 3_060 = table_law.within m n j a in
          omega (arith, h, at);
      sums_fall = λ numbers is. let h : 3_059 < 3_058 = is.sum_rises 1 1 0 1 2 0 (mark_true 1 1 0 refl) (mark_true 1 2 0 refl) (omega arith) in omega arith;
      swapped_places = λ numbers is. let h : 3 < 1 = is.old_rises 1 2 0 2 1 0 (mark_true 1 2 0 refl) (mark_true 2 1 0 refl) refl (omega arith) in omega arith;
      swapped_numbers = λ place. other_entry (joined (λ k. joined (λ m. entries_of_pair (k - m) m) k) (suc most_disks)) place 1 2 1 refl refl (λ e. omega arith);
      marks_fall = λ numbers is. let h : 2 < 1 = is.mark_rises 1 2 0 1 (mark_true 1 2 0 refl) (mark_true 1 2 1 refl) (omega arith) in omega arith;
      too_few = λ place. other_length (joined entries_of_sum most_disks) place 2_380 refl (λ e. omega arith);
      changed_disagrees = λ agrees. let e : ◌≡◌ {A = ℕ} 4 3 = agrees.moving_block 5 (5 ∷ 3 ∷ []) 0 three_to_five refl in omega (arith, e);
      swapped_disagrees = λ agrees. let e : ◌≡◌ {A = ℕ} 2 3 = ap disk (agrees.every_block 5 (5 ∷ 3 ∷ []) 0 three_to_five) in omega (arith, e);
      one_off_disagrees = λ agrees. let e : ◌≡◌ {A = ℕ} 4 3 = ap disk (agrees.live_block under_way 3 three_to_five (λ r. omega arith)) in omega (arith, e);
      step_too_early = λ told. let e : ◌≡◌ {A = ℕ} 3 0 = ap disk told in omega (arith, e);
    }
