-- Programs whose growths are wrong: for each a list, computed, after which what is told breaks a part of demand 3.
use Prim.Native.Nat.{ℕ}
use mathlib.Core.Path.{◌≡◌, refl, ◌∙◌}
use mathlib.Core.Bool.{Bool, true, false, ◌&&◌}
use mathlib.Core.List.{List, [], ◌∷◌}
use lib.Dec.{eqb}
use borrow.Author.Tests.{eqb-true}
use Rattle.base.proofs.Booleans.{and_left, and_right}
use Rattle.layout.specs.Tally.{Mode, calls_left_of}
use Rattle.record.specs.Sector.{fields_hold, marks_hold, spaces_hold, is_record, read_record}
use Rattle.volume.specs.Answers.{is_finished, told_finished}
use Rattle.volume.specs.Calls.{restart_table}
use Rattle.volume.specs.Records.{state_found, state_read, is_sound_record}
use Rattle.promise.specs.Calls.{Call, grow, grow_beyond_doubling, copy, advance, restart, is_advance}
use Rattle.promise.specs.Model.{Model}
use Rattle.promise.specs.Promise.{Start}
use Rattle.promise.specs.WithoutCache.{DirectEvent, ends, flushed_after, from_format, no_call, an_advance, system_without, model_without}
use Rattle.worked.specs.Worked.{worked_start}
use Rattle.worked.specs.BeyondDoubling.{one_disk}
use Rattle.worked.specs.WrongPrograms.{Act, program, never_advances, ends_early, ends_late, made_up_count, grows_to_twice, keeps_copies, grows_always}
use Rattle.promise.specs.Parts.{NoneTold, Finished, LastTold, CallsLeftTold, AdvanceAccepted, EveryGrowth, EveryFurther, EveryDirectGrowth, EveryDirectFurther}
use Rattle.worked.specs.BrokenParts.{two_disks, to_three, four_advances, LateEnd}
use Rattle.worked.proofs.Computed.{Tested, tested}
use Rattle.worked.proofs.Computing.{computing}
use Rattle.worked.proofs.BrokenGrowths.{GrowthHeard, accepted_only, all_of, direct_told, no_advance, ends_up, growth_test, growth_tested, broken_growth, broken_direct_growth, other_than, other_count, some_refused, refused_advance, advance_after_flushed, refutes_count, refutes_advance}
use Rattle.worked.proofs.BrokenFurther.{wrong_for, wrong_twice, broken_direct, broken_twice, same_told, are_same, told_early, runs_on, told_late, refutes_none_told, refutes_finished, refutes_last_told}

-- unfolded, it opens what a computed list with a growth needs
unfoldable testing : Unit {0}
unfolding computing growth_test accepted_only all_of no_advance ends_up other_than some_refused same_told is_finished told_finished is_advance program
testing = tt

abbrev one_growth : List DirectEvent
one_growth = ends (grow 2) ∷ []

-- ---- the number reported

abbrev BreaksCount : (calls : (c : Call) → Act) → Type 0
BreaksCount calls = (EveryGrowth calls (CallsLeftTold calls) → ⊥) × (EveryDirectGrowth calls (λ a es. CallsLeftTold calls a (from_format es)) → ⊥)

breaks_count : (calls : (c : Call) → Act) (a : Start) (es : List DirectEvent) → growth_test calls a (from_format es) [] other_count ≡ true → BreaksCount calls
breaks_count calls a es t = (
  broken_growth calls (CallsLeftTold calls) [] other_count (refutes_count calls) a es t,
  broken_direct_growth calls (CallsLeftTold calls) [] other_count (refutes_count calls) a es t,
)

-- a made-up count of calls left: grow reports 7, and 2 are left
made_up_tested : Tested made_up_count (λ p. growth_test p worked_start (from_format one_growth) [] other_count)
unfolding testing made_up_count
made_up_tested = (λ v o. refl, refl)

pub made_up_count_law : BreaksCount made_up_count
made_up_count_law = breaks_count made_up_count worked_start one_growth (tested made_up_count (λ p. growth_test p worked_start (from_format one_growth) [] other_count) made_up_tested)

-- a grow without 20 that goes to twice as many disks: it reports 2, and of the growth to three 3 are left
abbrev to_three_disks : List DirectEvent
to_three_disks = ends (grow_beyond_doubling 3) ∷ []

twice_tested : Tested grows_to_twice (λ p. growth_test p one_disk (from_format to_three_disks) [] other_count)
unfolding testing grows_to_twice
twice_tested = (λ v o. refl, refl)

pub grows_to_twice_law : BreaksCount grows_to_twice
grows_to_twice_law =
    breaks_count grows_to_twice one_disk to_three_disks (tested grows_to_twice (λ p. growth_test p one_disk (from_format to_three_disks) [] other_count) twice_tested)

-- a restart that keeps unrecorded copies: it reports one call less than the tally has left
abbrev one_copy : List DirectEvent
one_copy = ends (grow 2) ∷ ends (copy 0) ∷ ends restart ∷ []

copies_tested : growth_test keeps_copies worked_start (from_format one_copy) [] other_count ≡ true
unfolding testing keeps_copies restart_table is_sound_record state_read state_found read_record is_record fields_hold marks_hold spaces_hold
copies_tested = refl

pub keeps_copies_law : BreaksCount keeps_copies
keeps_copies_law = breaks_count keeps_copies worked_start one_copy copies_tested

-- ---- an advance that always refuses: directly after flushed too, and so that two calls do not finish

never_refused : Tested never_advances (λ p. growth_test p worked_start (from_format one_growth) advance_after_flushed refused_advance)
unfolding testing never_advances
never_refused = (λ v o. refl, refl)

pub never_advances_law : EveryGrowth never_advances (AdvanceAccepted never_advances) → ⊥
never_advances_law =
    broken_growth never_advances (AdvanceAccepted never_advances) advance_after_flushed refused_advance (refutes_advance never_advances) worked_start one_growth
    (tested never_advances (λ p. growth_test p worked_start (from_format one_growth) advance_after_flushed refused_advance) never_refused)

abbrev one_advance : List DirectEvent
one_advance = ends advance ∷ []

abbrev two_advances : List DirectEvent
two_advances = ends advance ∷ one_advance

abbrev three_advances : List DirectEvent
three_advances = ends advance ∷ two_advances

never_runs_on : Tested never_advances (λ p. growth_test p worked_start (from_format one_growth) (flushed_after two_advances) (wrong_for runs_on all_of))
unfolding testing never_advances
never_runs_on = (λ v o. refl, refl)

pub never_finishes : EveryDirectFurther never_advances Finished → ⊥
never_finishes =
    broken_direct Finished runs_on refutes_finished never_advances worked_start one_growth two_advances (an_advance (an_advance no_call)) never_runs_on

-- ---- what further calls tell

abbrev BreaksFurther : (calls : (c : Call) → Act) (P : (told : List Bool) (mode : Mode) (n : ℕ) → Type 0) → Type 0
BreaksFurther calls P = (EveryFurther calls P → ⊥) × (EveryDirectFurther calls P → ⊥)

-- an advance that ends the growth a call early: the first of two tells finished
early_tested : Tested ends_early (λ p. growth_test p worked_start (from_format one_growth) (flushed_after one_advance) (wrong_twice told_early))
unfolding testing ends_early
early_tested = (λ v o. refl, refl)

pub ends_early_law : BreaksFurther ends_early NoneTold
ends_early_law = broken_twice NoneTold told_early refutes_none_told ends_early worked_start one_growth one_advance (an_advance no_call) early_tested

-- one that ends it a call late: with two blocks to copy, the third of three does not tell it
late_tested : Tested ends_late (λ p. growth_test p two_disks (from_format to_three) (flushed_after three_advances) (wrong_twice told_late))
unfolding testing ends_late two_disks to_three
late_tested = (λ v o. refl, refl)

pub ends_late_law : BreaksFurther ends_late LastTold
ends_late_law = broken_twice LastTold told_late refutes_last_told ends_late two_disks to_three three_advances (an_advance (an_advance (an_advance no_call))) late_tested

-- and the fourth does
abbrev fourth_tells : (h : GrowthHeard) (k last : Model) → Bool
fourth_tells h k last = eqb (calls_left_of k.tally) 3 && same_told (all_of h.advances) (false ∷ false ∷ false ∷ true ∷ [])

fourth_tested : Tested ends_late (λ p. growth_test p two_disks (from_format to_three) (flushed_after four_advances) fourth_tells)
unfolding testing ends_late two_disks to_three
fourth_tested = (λ v o. refl, refl)

pub late_end : LateEnd
late_end =
    let both = growth_tested ends_late two_disks (from_format to_three) (flushed_after four_advances) fourth_tells
    (tested ends_late (λ p. growth_test p two_disks (from_format to_three) (flushed_after four_advances) fourth_tells) fourth_tested) in
    let left = (model_without ends_late two_disks to_three).tally in
    record {
      calls_left_law = eqb-true (calls_left_of left) 3 (and_left (eqb (calls_left_of left) 3) _ both.1);
      told =
          direct_told ends_late (system_without ends_late two_disks to_three) four_advances
          ∙ are_same _ (false ∷ false ∷ false ∷ true ∷ []) (and_right (eqb (calls_left_of left) 3) _ both.1);
    }

-- a grow that refuses nothing: from 0 disks to 0 there are no windows, no call is left, and the growth runs
abbrev to_none : List DirectEvent
to_none = ends (grow 0) ∷ ends (grow 0) ∷ []

always_tested : Tested grows_always (λ p. growth_test p worked_start (from_format to_none) (flushed_after []) (wrong_twice runs_on))
unfolding testing grows_always
always_tested = (λ v o. refl, refl)

pub grows_always_law : BreaksFurther grows_always Finished
grows_always_law = broken_twice Finished runs_on refutes_finished grows_always worked_start to_none [] no_call always_tested
