-- The cases on grow, by computing.
use mathlib.Core.Path.{◌≡◌, refl}
use mathlib.Core.List.{[], ◌∷◌, map}
use Rattle.base.specs.Below.{every}
use Rattle.base.specs.Bits.{bits}
use Rattle.base.specs.Refusals.{refusal}
use Rattle.layout.specs.History.{history, disk_count, rising}
use Rattle.marks.specs.Marks.{no_marks, within, zeros_after, at_rest}
use Rattle.medium.specs.Medium.{bytes_needed}
use Rattle.volume.specs.Calls.{reporting, too_short, doubling_rows, grow_table_of, grow_table, grow_beyond_doubling_table, grow_effect, grow_outcome_of, grow_beyond_doubling_outcome}
use Rattle.volume.specs.GrowCases.{three_disks, long_medium, GrowCases}
use Rattle.volume.specs.Sound.{size_holds, rows_hold, limits_hold, stage_holds, types_hold, sound}
use Rattle.volume.specs.States.{geometry, history_of, disks, none_pending, new_state, with_growth, with_pending, grown}

doubling_bounds : map (λ count. refusal (grow_table three_disks count 8_704)) (5 ∷ 6 ∷ 7 ∷ []) ≡ (0 ∷ 0 ∷ 20 ∷ [])
unfolding refusal grow_table_of doubling_rows too_short bytes_needed geometry disks sound types_hold limits_hold size_holds rows_hold stage_holds zeros_after at_rest within no_marks bits every rising history_of history disk_count new_state none_pending
doubling_bounds = refl

doubling_before_room : refusal (grow_table three_disks 7 512) ≡ 20
unfolding refusal grow_table_of doubling_rows too_short bytes_needed geometry disks sound types_hold limits_hold size_holds rows_hold stage_holds zeros_after at_rest within no_marks bits every rising history_of history disk_count new_state none_pending
doubling_before_room = refl

without_doubling : refusal (grow_beyond_doubling_table three_disks 7 8_704) ≡ 0
unfolding refusal grow_table_of doubling_rows too_short bytes_needed geometry disks sound types_hold limits_hold size_holds rows_hold stage_holds zeros_after at_rest within no_marks bits every rising history_of history disk_count new_state none_pending
without_doubling = refl

count_added : (grow_beyond_doubling_outcome three_disks 5 long_medium).reply.state.counts ≡ (3 ∷ 5 ∷ 0 ∷ 0 ∷ 0 ∷ 0 ∷ 0 ∷ 0 ∷ [])
unfolding grow_outcome_of grow_effect reporting with_pending grown with_growth refusal grow_table_of doubling_rows too_short bytes_needed geometry disks sound types_hold limits_hold size_holds rows_hold stage_holds zeros_after at_rest within no_marks bits every rising history_of history disk_count new_state none_pending
count_added = refl

pub grow_cases : GrowCases
grow_cases =
    record {
      doubling_bounds = doubling_bounds;
      doubling_before_room = doubling_before_room;
      without_doubling = without_doubling;
      count_added = count_added;
    }
