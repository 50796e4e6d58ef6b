-- The table of moves worked out by hand, by computing.
use Rattle.std.proofs.Common.{refl}
use Rattle.base.specs.Below.{count, sum}
use Rattle.layout.specs.Growth.{minus_mod, moves, part_of, new_disk, disk_after, moves_from, old_block_spot, added_disk, added_spot, spot_after}
use Rattle.layout.specs.History.{disk_count, earlier, old_count, added_count, spot_of}
use Rattle.layout.specs.Live.{at_new_spot}
use Rattle.layout.specs.MoveCases.{worked, MovesHold}
use Rattle.layout.specs.Reasons.{first_growths, move_count_of}
use Rattle.layout.specs.Tally.{recorded_by, moved_blocks, growths_of, live_move_count_of}
use Rattle.layout.specs.Windows.{window_of_row, old_spot, moving, window_of}

pub moves_hold : MovesHold
unfolding worked live_move_count_of growths_of moved_blocks recorded_by at_new_spot move_count_of first_growths count sum moving moves_from moves window_of window_of_row old_spot spot_of spot_after old_block_spot added_spot added_disk disk_after new_disk part_of minus_mod old_count added_count earlier disk_count
moves_hold = refl
