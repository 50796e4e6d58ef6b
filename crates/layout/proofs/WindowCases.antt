-- The cases on windows and marks, by computing.
use Rattle.std.proofs.Common.{refl}
use Rattle.base.specs.Below.{count, every, lower, lowest}
use Rattle.layout.specs.Growth.{minus_mod, moves, part_of, new_disk, disk_after, moves_from, old_block_spot, added_disk, added_spot, spot_after}
use Rattle.layout.specs.History.{disk_count, earlier, old_count, added_count, spot_of, block_at}
use Rattle.layout.specs.WindowCases.{WindowsHold}
use Rattle.layout.specs.Windows.{windows, window_of_row, mark_of_spot, spot_of_mark, row_exists, old_spot, moving, window_of, moving_in, mark_of, block_of_mark, next_to_copy, are_copied, next_of_window, all_copied, moves_of_window, uncopied, calls_left}

pub windows_hold : WindowsHold
unfolding windows window_of_row mark_of_spot spot_of_mark row_exists old_spot moving window_of moving_in mark_of block_of_mark next_to_copy are_copied next_of_window all_copied moves_of_window uncopied calls_left count every lower lowest spot_of block_at old_count added_count earlier disk_count spot_after old_block_spot added_spot disk_after new_disk moves moves_from part_of added_disk minus_mod
windows_hold =
    record {
      window_counts = refl;
      marks_hold_law = refl;
      rows_exist = refl;
      moving_in_law = refl;
      window_moves = refl;
      next_blocks = refl;
      all_copied_law = refl;
      calls_at_grow = refl;
      calls_left_law = refl;
    }
