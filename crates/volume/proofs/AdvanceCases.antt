-- The parts that an advance tells, by computing.
use mathlib.Core.Path.{refl}
use Rattle.layout.specs.Growth.{part_of}
use Rattle.layout.specs.History.{history, disk_count, earlier, old_count, added_count, spot_of}
use Rattle.layout.specs.Windows.{old_spot, part_moved}
use Rattle.volume.specs.AdvanceCases.{PartsTold}
use Rattle.volume.specs.Answers.{copied_block, copied_part, block_copied, part_copied}
use Rattle.volume.specs.Calls.{telling, advancing}
use Rattle.volume.specs.States.{history_of, new_state, with_growth, grown}

pub parts_told : PartsTold
unfolding advancing telling block_copied part_copied copied_block copied_part part_moved part_of old_spot spot_of old_count added_count earlier disk_count history_of history new_state with_growth grown
parts_told o = refl
