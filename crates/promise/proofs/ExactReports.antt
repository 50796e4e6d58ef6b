-- The number last reported is exact: `exact_reports`, from demand 3.
use Prim.Native.Nat.{ℕ, ◌<◌}
use mathlib.Core.Path.{◌≡◌, refl, sym, ap, ◌∙◌, subst}
use mathlib.Core.Bool.{true, false, false≢true}
use mathlib.Core.List.{List, [], ◌∷◌}
use mathlib.Core.Logic.{◌≢◌}
use mathlib.Core.Option.{Option, none}
use Rattle.base.proofs.Booleans.{by_test}
use Rattle.layout.specs.Tally.{not_growing, growing, is_running, Tally, calls_left_of}
use Rattle.medium.specs.declared.Geometry.{Geometry}
use Rattle.medium.specs.Medium.{Observations, observe}
use Rattle.volume.specs.declared.Volume.{Volume}
use Rattle.volume.specs.Answers.{accepted}
use Rattle.volume.specs.Calls.{advance_outcome}
use Rattle.volume.proofs.Accepted.{advance_accepted}
use Rattle.volume.proofs.Theorems.{volume_laws}
use Rattle.promise.specs.Calls.{Call, advance, flushed, settles, is_advance, ended}
use Rattle.promise.specs.Lists.{call_outcome, Event, runs, cut, Drives, System, up, down, memory_of, outcome, is_accepted, after, after_all, fed, fed_all, heard, NoEarlyCut, Lawful, IsUp, AllFurther, last_reported}
use Rattle.promise.specs.Model.{grown_tally, leaving, recording, step_of, CachedModel, model_after, modelled}
use Rattle.promise.specs.Promise.{Start, formatted, begin, system_after}
use Rattle.promise.specs.ExactReports.{Grows, a_grow, a_grow_beyond_doubling, growth_runs, ExactReport, ExactReports}
use Rattle.volume.proofs.Judged.{accepted_number}
use Rattle.promise.proofs.CallsCounted.{in_window, left_positive}
use Rattle.promise.proofs.PendingStores.{seen, Live}
use Rattle.promise.proofs.StateTallies.{running_of}
use Rattle.promise.proofs.EventSteps.{Invariant, flushed_keeps, other_keeps, seen_medium}
use Rattle.promise.proofs.FurtherCalls.{tally_runs, quiet_by, is_run, further_keeps}
use Rattle.promise.proofs.SavesKept.{tally_after}
use Rattle.promise.proofs.Theorem.{invariant_after, start_geometry, cached_after, left_after, ending_after, advances_after}

-- ---- whether a growth runs: by the tally, and by an advance directly after flushed

flushed_tally : (s : System) (k : CachedModel) → (model_after (fed call_outcome s (runs flushed)) k).current.tally ≡ k.current.tally
flushed_tally s k = (quiet_by call_outcome s flushed (unfold is_advance in refl) (λ t. unfold step_of leaving in refl)).tally_kept k

accepted_growing : (v : Volume) (o : Observations) → accepted (advance_outcome v o).reply.answer ≡ true → v.growing ≢ 0
accepted_growing v o ok =
    let passes = sym (volume_laws.advance_refuses v o).number_told ∙ accepted_number (advance_outcome v o).reply.answer ok in
    (advance_accepted v o.byte_count passes).0.is_growing

live_growing : (g : Geometry) (v : Volume) (d : Drives) (k : CachedModel) (told : Option ℕ) → Live true g v d k told → is_accepted call_outcome advance (up v d) ≡ true
    → k.current.tally.mode ≡ growing
unfolding outcome memory_of call_outcome
live_growing g v d k told i ok =
    let on = accepted_growing v (observe (seen d)) (rw (seen_medium g k told v d i) at ok) in
    ap (λ (t : Tally). t.mode) i.up.same_tally ∙ (running_of v i.up.consistent.is_sound on).is_growing

runs_growing : (g : Geometry) (v : Volume) (d : Drives) (k : CachedModel) (told : Option ℕ) → Live false g v d k told → growth_runs call_outcome (up v d) ≡ true
    → k.current.tally.mode ≡ growing
unfolding after
runs_growing g v d k told i ok =
    ap (λ (t : Tally). t.mode) (sym (flushed_tally (up v d) k)) ∙ live_growing g _ _ _ _ (flushed_keeps g k told false v d i) ok

-- both ways
record Agree (s : System) (k : CachedModel) : Type 0 where
  while_growing : k.current.tally.mode ≡ growing → growth_runs call_outcome s ≡ true
  at_rest_law : k.current.tally.mode ≡ not_growing → growth_runs call_outcome s ≡ false

modes_differ : not_growing ≡ growing → ⊥
modes_differ e = false≢true (ap is_running e)

agree_live : (g : Geometry) (v : Volume) (d : Drives) (k : CachedModel) (told : Option ℕ) → Live false g v d k told → Agree (up v d) k
unfolding IsUp
agree_live g v d k told i =
    record {
      while_growing = λ on. advances_after g (up v d) k told i tt on;
      at_rest_law = λ off. by_test (growth_runs call_outcome (up v d)) (λ e. absurd (modes_differ (sym off ∙ runs_growing g v d k told i e))) (λ e. e);
    }

-- after further calls
agree_further : (es : List Event) (g : Geometry) (v : Volume) (d : Drives) (k : CachedModel) (told : Option ℕ) → Live false g v d k told → AllFurther call_outcome (up v d) es
    → Agree (after_all call_outcome (up v d) es) (modelled (fed_all call_outcome (up v d) es) k)
unfolding after_all modelled fed_all AllFurther after
agree_further [] g v d k told i f = agree_live g v d k told i
agree_further (cut c left ∷ es) g v d k told i f = absurd (is_run (up v d) (cut c left) f.0)
agree_further (runs c ∷ es) g v d k told i f =
    agree_further es g _ _ (model_after (fed call_outcome (up v d) (runs c)) k) (heard call_outcome (up v d) (runs c) told) (further_keeps false g v d k told i (runs c) f.0) f.1

-- ---- a system

agree_after : (g : Geometry) (s : System) (k : CachedModel) (told : Option ℕ) → Invariant false g s k told → IsUp s → (es : List Event) → AllFurther call_outcome s es
    → Agree (after_all call_outcome s es) (modelled (fed_all call_outcome s es) k)
unfolding IsUp
agree_after g (up v d) k told i is_up es f = agree_further es g v d k told i f
agree_after g (down m) k told i is_up es f = absurd is_up

grows_after : (g : Geometry) (s : System) (k : CachedModel) (told : Option ℕ) → Invariant false g s k told → IsUp s → growth_runs call_outcome s ≡ true
    → k.current.tally.mode ≡ growing
unfolding IsUp
grows_after g (up v d) k told i is_up on = runs_growing g v d k told i on
grows_after g (down m) k told i is_up on = absurd is_up

some_left : (g : Geometry) (s : System) (k : CachedModel) (told : Option ℕ) → Invariant false g s k told → IsUp s → k.current.tally.mode ≡ growing
    → 0 < calls_left_of k.current.tally
unfolding IsUp
some_left g (up v d) k told i is_up on = left_positive k.current.tally (in_window (tally_runs i.up on))
some_left g (down m) k told i is_up on = absurd is_up

-- ---- an accepted grow

-- what an accepted call is fed as
fed_accepted : (v : Volume) (d : Drives) (k : CachedModel) (c : Call) → is_accepted call_outcome c (up v d) ≡ true
    → (model_after (ended c true) k).current.tally.mode ≡ growing → (model_after (fed call_outcome (up v d) (runs c)) k).current.tally.mode ≡ growing
unfolding fed
fed_accepted v d k c ok grows = rw ok grows

begins_live : (g : Geometry) (v : Volume) (d : Drives) (k : CachedModel) (told : Option ℕ) → Live false g v d k told → (c : Call) → Grows c
    → is_accepted call_outcome c (up v d) ≡ true → growth_runs call_outcome (after call_outcome (up v d) (runs c)) ≡ true
unfolding after
begins_live g v d k told i c grows ok = (agree_live g _ _ _ _ (other_keeps g k told false v d i c (settles_not c grows))).while_growing (grown c grows ok)
  where
    settles_not : (c : Call) → Grows c → settles c ≡ false
    settles_not c a_grow = unfold settles in refl
    settles_not c a_grow_beyond_doubling = unfold settles in refl

    mode_grown : (c : Call) → Grows c → (step_of c k.current.tally).tally.mode ≡ growing
    mode_grown c a_grow = unfold step_of recording grown_tally in refl
    mode_grown c a_grow_beyond_doubling = unfold step_of recording grown_tally in refl

    grown : (c : Call) → Grows c → is_accepted call_outcome c (up v d) ≡ true → (model_after (fed call_outcome (up v d) (runs c)) k).current.tally.mode ≡ growing
    grown c grows ok = fed_accepted v d k c ok (ap (λ (t : Tally). t.mode) (tally_after c k) ∙ mode_grown c grows)

begins_after : (g : Geometry) (s : System) (k : CachedModel) (told : Option ℕ) → Invariant false g s k told → IsUp s → (c : Call) → Grows c
    → is_accepted call_outcome c s ≡ true → growth_runs call_outcome (after call_outcome s (runs c)) ≡ true
unfolding IsUp
begins_after g (up v d) k told i is_up c grows ok = begins_live g v d k told i c grows ok
begins_after g (down m) k told i is_up c grows ok = absurd is_up

is_exact : (a : Start) → accepted (formatted a).reply.answer ≡ true → (es : List Event) → Lawful call_outcome (begin a) es → NoEarlyCut es
    → IsUp (system_after call_outcome a es) → growth_runs call_outcome (system_after call_outcome a es) ≡ true
    → ExactReport call_outcome a es (last_reported call_outcome (begin a) es none)
unfolding ExactReport
is_exact a ok es l early is_up on =
    let g = start_geometry a in
    let s = system_after call_outcome a es in
    let k = cached_after a es in
    let told = last_reported call_outcome (begin a) es none in
    let i = invariant_after a ok es l early in
    let mode = grows_after g s k told i is_up on in
    subst (ExactReport call_outcome a es) (sym (left_after g s k told i is_up mode))
    (record {
      some_left = some_left g s k told i is_up mode;
      still_runs = λ further f less. (agree_after g s k told i is_up further f).while_growing ((ending_after g s k told i is_up mode further f).still_runs less);
      none_told = λ further f less. (ending_after g s k told i is_up mode further f).none_told less;
      finished = λ further f all. (agree_after g s k told i is_up further f).at_rest_law ((ending_after g s k told i is_up mode further f).finished all);
      last_told = λ further f all. (ending_after g s k told i is_up mode further f).last_told all;
    })

pub exact_reports : ExactReports
exact_reports =
    record {
      begins = λ a ok es l early is_up c grows taken.
          begins_after (start_geometry a) (system_after call_outcome a es) (cached_after a es) _ (invariant_after a ok es l early) is_up c grows taken;
      is_exact = is_exact;
    }
