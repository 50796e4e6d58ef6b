-- The table of views, by computing.
use mathlib.Core.Path.{refl}
use Rattle.base.specs.Below.{every, table}
use Rattle.base.specs.Bits.{bits}
use Rattle.base.specs.Refusals.{refusal}
use Rattle.layout.specs.Growth.{minus_mod, moves, part_of, new_disk, disk_after, moves_from, old_block_spot, added_disk, added_spot, spot_after}
use Rattle.layout.specs.History.{history, disk_count, earlier, old_count, added_count, rising, spot_of}
use Rattle.layout.specs.Live.{at_new_spot, live_spot}
use Rattle.layout.specs.Tally.{open_blocks, recorded_by, moved_blocks, live_spot_of}
use Rattle.layout.specs.Windows.{windows, window_of_row, mark_of_spot, spot_of_mark, row_exists, old_spot, moving, window_of, moving_in, mark_of, block_of_mark, marked_blocks}
use Rattle.marks.specs.Marks.{no_marks, within, moving_marks, at_rest, in_growth, zeros_after}
use Rattle.medium.specs.Medium.{place, bytes_needed}
use Rattle.volume.specs.Sound.{size_holds, rows_hold, disks_hold, limits_hold, moving_of, stage_holds, types_hold, sound}
use Rattle.volume.specs.States.{geometry, history_of, disks, mode_of, tally_of}
use Rattle.shelves.specs.Cases.{worked, TableHolds}
use Rattle.shelves.specs.Shelves.{second_needs, place_on_second, start_on_shelf}
use Rattle.shelves.specs.Views.{shelves_table, view_table, view_answer}

pub view_cases : TableHolds
unfolding every table bits refusal minus_mod moves part_of new_disk disk_after moves_from old_block_spot added_disk added_spot spot_after history disk_count earlier old_count added_count rising spot_of at_new_spot live_spot open_blocks recorded_by moved_blocks live_spot_of windows window_of_row mark_of_spot spot_of_mark row_exists old_spot moving window_of moving_in mark_of block_of_mark marked_blocks no_marks within moving_marks at_rest in_growth zeros_after place bytes_needed size_holds rows_hold disks_hold limits_hold moving_of stage_holds types_hold sound geometry history_of disks mode_of tally_of worked second_needs place_on_second start_on_shelf shelves_table view_table view_answer
view_cases = refl
