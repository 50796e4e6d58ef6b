-- The cases on limits, by computing.
use mathlib.Core.Path.{◌≡◌, refl}
use mathlib.Core.Bool.{true, false}
use mathlib.Core.List.{[], ◌∷◌, map}
use Rattle.base.specs.Below.{every}
use Rattle.base.specs.Refusals.{refusal}
use Rattle.layout.specs.History.{history, disk_count, rising}
use Rattle.marks.specs.Marks.{no_marks, within, zeros_after, at_rest}
use Rattle.base.specs.Bits.{bits}
use Rattle.medium.specs.Medium.{bytes_needed}
use Rattle.volume.specs.Calls.{too_short, doubling_rows, grow_table_of, grow_table}
use Rattle.volume.specs.Laws.{SoundFacts}
use Rattle.volume.specs.LimitCases.{Says, six_growths, seven_growths, eight_growths, sixteen_disks, seventeen_disks, LimitCases}
use Rattle.volume.specs.Sound.{size_holds, rows_hold, disks_hold, limits_hold, stage_holds, types_hold, sound}
use Rattle.volume.specs.States.{geometry, history_of, disks, none_pending, new_state, with_growth}
use Rattle.volume.proofs.SoundLaws.{sound_facts}

size_steps : Says size_holds
    ((511, false) ∷ (512, true) ∷ (513, false) ∷ (768, false) ∷ (1_024, true) ∷ (65_024, true) ∷ (65_280, false) ∷ [])
unfolding size_holds
size_steps = refl

size_bounds : Says size_holds ((0, false) ∷ (512, true) ∷ (65_024, true) ∷ (65_535, false) ∷ (65_536, true) ∷ (65_537, false) ∷ (66_048, false) ∷ [])
unfolding size_holds
size_bounds = refl

row_bounds : Says rows_hold ((0, false) ∷ (1, true) ∷ (2, true) ∷ (999_999, true) ∷ (1_000_000, true) ∷ (1_000_001, false) ∷ [])
unfolding rows_hold
row_bounds = refl

disk_bounds : Says disks_hold ((0, false) ∷ (1, true) ∷ (2, true) ∷ (15, true) ∷ (16, true) ∷ (17, false) ∷ [])
unfolding disks_hold
disk_bounds = refl

count_bounds : map sound (sixteen_disks ∷ seventeen_disks ∷ []) ≡ (true ∷ false ∷ [])
unfolding sound types_hold limits_hold size_holds rows_hold stage_holds zeros_after at_rest within no_marks bits every rising history_of history disk_count new_state with_growth none_pending
count_bounds = refl

growth_bounds : map sound (new_state 512 1 1 ∷ six_growths ∷ seven_growths ∷ eight_growths ∷ []) ≡ (true ∷ true ∷ true ∷ false ∷ [])
unfolding sound types_hold limits_hold size_holds rows_hold stage_holds zeros_after at_rest within no_marks bits every rising history_of history disk_count new_state with_growth none_pending
growth_bounds = refl

grow_bounds : map (λ v. refusal (grow_table v 9 8_704)) (six_growths ∷ seven_growths ∷ eight_growths ∷ []) ≡ (0 ∷ 9 ∷ 1 ∷ [])
unfolding refusal grow_table_of doubling_rows too_short bytes_needed geometry disks sound types_hold limits_hold size_holds rows_hold stage_holds zeros_after at_rest within no_marks bits every rising history_of history disk_count new_state with_growth none_pending
grow_bounds = refl

grow_counts : map (λ count. refusal (grow_table (new_state 512 1 15) count 8_704)) (14 ∷ 15 ∷ 16 ∷ 17 ∷ []) ≡ (8 ∷ 8 ∷ 0 ∷ 8 ∷ [])
unfolding refusal grow_table_of doubling_rows too_short bytes_needed geometry disks sound types_hold limits_hold size_holds rows_hold stage_holds zeros_after at_rest within no_marks bits every rising history_of history disk_count new_state with_growth none_pending
grow_counts = refl

pub largest_blocks : SoundFacts (new_state 65_536 1 1)
unfolding sound types_hold limits_hold size_holds rows_hold stage_holds zeros_after at_rest within no_marks bits every rising history_of history disk_count new_state none_pending
largest_blocks = sound_facts (new_state 65_536 1 1) refl

pub limit_cases : LimitCases
limit_cases =
    record {
      size_steps = size_steps;
      size_bounds = size_bounds;
      row_bounds = row_bounds;
      disk_bounds = disk_bounds;
      count_bounds = count_bounds;
      growth_bounds = growth_bounds;
      grow_bounds = grow_bounds;
      grow_counts = grow_counts;
    }
