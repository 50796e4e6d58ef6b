-- The claim on the numbers reported: programs that break it, each by a list that is computed.
use Prim.Native.Nat.{ℕ, ◌-◌, ◌<◌}
use mathlib.Core.Path.{◌≡◌, refl, sym, ap, ◌∙◌, subst}
use mathlib.Core.Bool.{Bool, true, false, cond, not, ◌&&◌}
use mathlib.Core.List.{List, [], ◌∷◌, ◌++◌, append-nil}
use mathlib.Core.Logic.{inl}
use mathlib.Core.Option.{Option, none, some}
use lib.Dec.{ltb, eqb}
use lib.ListN.{length, drop, replicate}
use borrow.Author.Tests.{ltb-true, eqb-true, not-true}
use Rattle.base.proofs.Booleans.{and_left, and_right, clash, by_test}
use Rattle.layout.specs.Tally.{is_running}
use Rattle.volume.specs.Answers.{accepted, is_finished, told_finished}
use Rattle.promise.specs.Calls.{Call, grow, advance, flushed, is_advance, Fed}
use Rattle.promise.specs.Lists.{call_outcome, Event, runs, after, after_all, fed, fed_all, NoEarlyCut, IsUp, AllFurther, an_advance, a_flushed, last_reported, finished_told}
use Rattle.promise.specs.Model.{Model}
use Rattle.promise.specs.Promise.{Start, formatted, begin, system_after}
use Rattle.promise.specs.WithoutCache.{DirectEvent, ends, from_format}
use Rattle.promise.specs.ExactReports.{a_grow, growth_runs, ExactNumber, ExactReport, ExactReportsOf}
use Rattle.promise.proofs.ExactReports.{exact_reports}
use Rattle.promise.proofs.Theorem.{lawful_before, promise}
use Rattle.worked.specs.ExactReports.{ExactReportsWorked}
use Rattle.worked.specs.Worked.{worked_start, first_events}
use Rattle.worked.specs.WrongPrograms.{Act, program, never_advances, made_up_count, ends_early, ends_late}
use Rattle.worked.proofs.Reflects.{passed}
use Rattle.worked.proofs.Computed.{computed, fed_same, is_lawful, Tested, tested, accepted_first}
use Rattle.worked.proofs.Computing.{computing}
use Rattle.worked.proofs.Worked.{hear_nothing, first_runs, first_model, first_lawful, first_early, first_up, worked}
use Rattle.worked.proofs.BrokenGrowths.{GrowthHeard, accepted_only, advances_heard, accepted_told, no_advance, ends_up, growth_test, growth_tested, other_than}
use Rattle.worked.proofs.BrokenFurther.{same_told, not_same}

-- ---- a number that is not exact

-- two advances, each directly after flushed
unfoldable two_advances : List Event
two_advances = runs flushed ∷ runs advance ∷ runs flushed ∷ runs advance ∷ []

unfoldable first_taken : (heard : List (Bool × Bool)) → Bool
first_taken [] = false
first_taken (t ∷ heard) = t.0

abbrev number_is : (n : ℕ) → GrowthHeard → Model → Model → Bool
number_is n h k last = not (other_than h.number n)

-- finished is told by one of fewer calls than n, or of n calls not by the last alone
unfoldable wrong_told : (n : ℕ) (told : List Bool) → Bool
wrong_told n told =
    cond (ltb (length told) n) (not (same_told told (replicate (length told) false))) (eqb (length told) n && not (same_told told (replicate (n - 1) false ++ (true ∷ []))))

-- an advance is accepted, and what is told is wrong
abbrev told_wrong : (n : ℕ) → GrowthHeard → Model → Model → Bool
told_wrong n h k last = first_taken h.advances && wrong_told n (accepted_only h.advances)

-- an exact number shuts it out
refutes_told : (told : List Bool) (n : ℕ) → wrong_told n told ≡ true → (length told < n → told ≡ replicate (length told) false)
    → (length told ≡ n → told ≡ replicate (n - 1) false ++ (true ∷ [])) → ⊥
unfolding wrong_told
refutes_told told n t before last =
    by_test (ltb (length told) n)
    (λ e. not_same told (replicate (length told) false) (rw e at t) (before (ltb-true (length told) n e)))
    (λ e.
    let both : (eqb (length told) n && not (same_told told (replicate (n - 1) false ++ (true ∷ [])))) ≡ true = rw e at t in
    not_same told (replicate (n - 1) false ++ (true ∷ [])) (and_right (eqb (length told) n) _ both) (last (eqb-true (length told) n (and_left _ _ both))))

number_is_law : (told : Option ℕ) (n : ℕ) → not (other_than told n) ≡ true → told ≡ some n
unfolding other_than
number_is_law none n t = clash t refl
number_is_law (some k) n t = ap some (eqb-true k n (not_not _ t))
  where
    not_not : (b : Bool) → not (not b) ≡ true → b ≡ true
    not_not true t = refl
    not_not false t = t

module _ (calls : (c : Call) → Act) (a : Start) (es : List Event) (n : ℕ) (early : NoEarlyCut es) where
  all_further : AllFurther calls (system_after calls a es) two_advances
  unfolding two_advances AllFurther
  all_further = (a_flushed, (an_advance, (a_flushed, (an_advance, tt))))

  breaks_exact : Tested calls (λ p. growth_test p a es [] (number_is n)) → Tested calls (λ p. growth_test p a es two_advances (told_wrong n)) → ExactReportsOf calls → ⊥
  unfolding two_advances advances_heard first_taken is_advance ExactReport
  breaks_exact first then claim =
      let reported = growth_tested calls a es [] (number_is n) (tested calls (λ p. growth_test p a es [] (number_is n)) first) in
      let heard = growth_tested calls a es two_advances (told_wrong n) (tested calls (λ p. growth_test p a es two_advances (told_wrong n)) then) in
      let c = heard.0 in
      let number : last_reported calls (begin a) es none ≡ some n =
      ap (λ (l : List Event). last_reported calls (begin a) l none) (sym (append-nil es)) ∙ number_is_law _ n reported.1 in
      let exact : ExactNumber calls a es n =
      subst (ExactReport calls a es) number (claim.is_exact a c.format_accepted es c.lawful early c.is_up_law (and_left _ _ heard.1)) in
      refutes_told (finished_told calls (system_after calls a es) two_advances) n
      (ap (wrong_told n) (accepted_told calls (system_after calls a es) two_advances) ∙ and_right (growth_runs calls (system_after calls a es)) _ heard.1)
      (exact.none_told two_advances all_further) (exact.last_told two_advances all_further)

-- ---- a growth that begins and does not go on

abbrev flushed_first : List Event
flushed_first = runs flushed ∷ []

module _ (calls : (c : Call) → Act) (a : Start) (count : ℕ) where
  unfoldable grow_list : List Event
  grow_list = flushed_first ++ (runs (grow count) ∷ runs flushed ∷ runs advance ∷ [])

  -- grow is accepted, and an advance directly after flushed is not
  unfoldable grow_test : Bool
  grow_test =
      let r = computed calls hear_nothing (begin a) grow_list tt in
      accepted (formatted a).reply.answer && (r.lawful && (accepted_first (drop 1 r.fed) && not (accepted_first (drop 3 r.fed))))

  breaks_begins : grow_test ≡ true → ExactReportsOf calls → ⊥
  unfolding grow_test grow_list fed_all fed accepted_first system_after after_all after IsUp NoEarlyCut
  breaks_begins t claim =
      let r = computed calls hear_nothing (begin a) grow_list tt in
      let lawful_and = and_right (accepted (formatted a).reply.answer) _ t in
      let both = and_right r.lawful _ lawful_and in
      let lawful = lawful_before calls (begin a) flushed_first (runs (grow count) ∷ runs flushed ∷ runs advance ∷ []) (passed (is_lawful calls hear_nothing (begin a) grow_list tt) (and_left _ _ lawful_and)) in
      let fed_at : (n : ℕ) → accepted_first (drop n (fed_all calls (begin a) grow_list)) ≡ accepted_first (drop n r.fed) =
      λ n. ap (λ (fs : List Fed). accepted_first (drop n fs)) (sym (fed_same calls hear_nothing (begin a) grow_list tt)) in
      clash (claim.begins a (and_left _ _ t) flushed_first lawful (inl refl) tt (grow count) a_grow (fed_at 1 ∙ and_left _ _ both))
      (fed_at 3 ∙ not-true _ (and_right (accepted_first (drop 1 r.fed)) _ both))

-- ---- the programs

unfoldable testing : Unit {0}
unfolding computing growth_test accepted_only no_advance ends_up other_than same_told told_finished is_finished first_taken wrong_told two_advances is_advance program grow_test grow_list accepted_first
testing = tt

abbrev one_growth : List DirectEvent
one_growth = ends (grow 2) ∷ []

made_up_count_law : ExactReportsOf made_up_count → ⊥
unfolding testing made_up_count from_format NoEarlyCut
made_up_count_law = breaks_exact made_up_count worked_start (from_format one_growth) 7 (inl refl) (λ v o. refl, refl) (λ v o. refl, refl)

ends_early_law : ExactReportsOf ends_early → ⊥
unfolding testing ends_early from_format NoEarlyCut
ends_early_law = breaks_exact ends_early worked_start (from_format one_growth) 2 (inl refl) (λ v o. refl, refl) (λ v o. refl, refl)

ends_late_law : ExactReportsOf ends_late → ⊥
unfolding testing ends_late from_format NoEarlyCut
ends_late_law = breaks_exact ends_late worked_start (from_format one_growth) 2 (inl refl) (λ v o. refl, refl) (λ v o. refl, refl)

never_advances_law : ExactReportsOf never_advances → ⊥
unfolding testing never_advances
never_advances_law = breaks_begins never_advances worked_start 2 (tested never_advances (λ p. grow_test p worked_start 2) (λ v o. refl, refl))

-- ---- and ours

two_left : ExactNumber call_outcome worked_start first_events 2
unfolding ExactReport
two_left =
    let running = ap (λ (o : Model). is_running o.tally.mode) first_model ∙ first_runs in
    let on = (promise worked_start worked.is_accepted_law first_events first_lawful first_early).advances first_up running in
    subst (ExactReport call_outcome worked_start first_events) worked.calls_told
    (exact_reports.is_exact worked_start worked.is_accepted_law first_events first_lawful first_early first_up on)

pub exact_reports_worked : ExactReportsWorked
exact_reports_worked =
    record { two_left = two_left; begins_broken = never_advances_law; none_told_broken = made_up_count_law; none_told_early = ends_early_law; last_told_broken = ends_late_law }
