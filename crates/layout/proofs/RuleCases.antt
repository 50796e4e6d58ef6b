-- The cases of each rule of one growth, by computing.
use Rattle.std.proofs.Common.{refl}
use Rattle.layout.specs.Cases.{worked, Hold}
use Rattle.layout.specs.Growth.{minus_mod, moves, part_of, new_disk, disk_after, moves_from, old_block_spot, added_disk, added_spot, spot_after, change_of, added_index, old_disk, disk_before, spot_before, block_after}
use Rattle.layout.specs.History.{disk_count, earlier, old_count, added_count, spot_of, block_at}
use Rattle.layout.specs.Reasons.{reason_after, reason_of}
use Rattle.layout.specs.RuleCases.{heads, bodies_below, bodies_above, tails, stays, added, FoundBelow, kept_reasons, other_reasons, ReasonsHold, RulesHold}
use Rattle.layout.specs.Windows.{old_spot}

heads_hold : Hold heads
unfolding worked spot_of block_at change_of old_spot old_count added_count earlier disk_count spot_after spot_before block_after old_block_spot added_spot disk_after new_disk moves moves_from part_of added_disk minus_mod disk_before old_disk added_index
heads_hold = refl

bodies_below_hold : Hold bodies_below
unfolding worked spot_of block_at change_of old_spot old_count added_count earlier disk_count spot_after spot_before block_after old_block_spot added_spot disk_after new_disk moves moves_from part_of added_disk minus_mod disk_before old_disk added_index
bodies_below_hold = refl

bodies_found_law : FoundBelow
unfolding block_at spot_before block_after part_of minus_mod disk_before old_disk added_index
bodies_found_law = refl

bodies_above_hold : Hold bodies_above
unfolding worked spot_of block_at change_of old_spot old_count added_count earlier disk_count spot_after spot_before block_after old_block_spot added_spot disk_after new_disk moves moves_from part_of added_disk minus_mod disk_before old_disk added_index
bodies_above_hold = refl

tails_hold : Hold tails
unfolding worked spot_of block_at change_of old_spot old_count added_count earlier disk_count spot_after spot_before block_after old_block_spot added_spot disk_after new_disk moves moves_from part_of added_disk minus_mod disk_before old_disk added_index
tails_hold = refl

stays_hold : Hold stays
unfolding worked spot_of block_at change_of old_spot old_count added_count earlier disk_count spot_after spot_before block_after old_block_spot added_spot disk_after new_disk moves moves_from part_of added_disk minus_mod disk_before old_disk added_index
stays_hold = refl

added_hold : Hold added
unfolding worked spot_of block_at change_of old_spot old_count added_count earlier disk_count spot_after spot_before block_after old_block_spot added_spot disk_after new_disk moves moves_from part_of added_disk minus_mod disk_before old_disk added_index
added_hold = refl

kept_reasons_law : ReasonsHold kept_reasons
unfolding reason_of reason_after spot_of change_of spot_after old_block_spot added_spot disk_after new_disk moves moves_from part_of added_disk minus_mod
kept_reasons_law = refl

other_reasons_law : ReasonsHold other_reasons
unfolding reason_of reason_after spot_of change_of spot_after old_block_spot added_spot disk_after new_disk moves moves_from part_of added_disk minus_mod
other_reasons_law = refl

pub rules_hold : RulesHold
rules_hold =
    record {
      heads_hold = heads_hold;
      bodies_below_hold = bodies_below_hold;
      bodies_found_law = bodies_found_law;
      bodies_above_hold = bodies_above_hold;
      tails_hold = tails_hold;
      stays_hold = stays_hold;
      added_hold = added_hold;
      kept_reasons_law = kept_reasons_law;
      other_reasons_law = other_reasons_law;
    }
