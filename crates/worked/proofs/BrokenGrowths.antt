-- A list that leaves a growth running, and calls after it, computed: whether demand 3 is about it, and whether what is told is wrong:
-- `growth_test`. One that is breaks a part of the demand.
use Prim.Native.Nat.{ℕ}
use mathlib.Core.Path.{◌≡◌, refl, sym, ap, ap₂, ◌∙◌}
use mathlib.Core.Bool.{Bool, true, false, cond, not, ◌&&◌, ◌||◌, false≢true}
use mathlib.Core.List.{List, [], ◌∷◌, ◌++◌, append-nil, append_assoc}
use mathlib.Core.Logic.{inl}
use mathlib.Core.Option.{Option, none, some}
use lib.Dec.{eqb}
use lib.ListN.{length, take}
use borrow.Author.Tests.{eq-eqb, not-true}
use Rattle.base.proofs.Booleans.{and_left, and_right, by_test, clash}
use Rattle.layout.specs.Tally.{is_running, calls_left_of}
use Rattle.volume.specs.Answers.{accepted, reported, told_finished}
use Rattle.promise.specs.Calls.{Call, advance, flushed, is_advance}
use Rattle.promise.specs.Lists.{Event, runs, cut, System, outcome, is_accepted, after, heard, later, after_all, NoEarlyCut, Lawful, last_reported, IsUp, tellings, finished_told}
use Rattle.promise.specs.Model.{Model}
use Rattle.promise.specs.Promise.{Start, formatted, begin, system_after, model_of}
use Rattle.promise.specs.WithoutCache.{DirectEvent, ends, fails, flushed_after, from_format, advances_told}
use Rattle.promise.proofs.Theorem.{lawful_before}
use Rattle.worked.specs.WrongPrograms.{Act}
use Rattle.promise.specs.Parts.{CallsLeftTold, AdvanceAccepted, EveryGrowth, EveryDirectGrowth}
use Rattle.worked.proofs.Reflects.{passed}
use Rattle.worked.proofs.Computed.{Hearing, heard_all, computed, fed_same, heard_same, is_lawful, fed_before, model_fed, model_fed_law}

-- ---- what is heard

-- the number last reported; of each advance, whether it was accepted and whether it told finished
pub record GrowthHeard : Type 0 where
  pub number : Option ℕ
  pub advances : List (Bool × Bool)

abbrev hear_growth : Hearing GrowthHeard
hear_growth c m out before =
    record {
      number = later before.number (reported out.reply.answer);
      advances =
          cond (is_advance c) (before.advances ++ ((accepted out.reply.answer, told_finished out.reply.answer) ∷ [])) before.advances;
    }

abbrev nothing_heard : GrowthHeard
nothing_heard = record { number = none; advances = [] }

unfoldable pub accepted_only : (heard : List (Bool × Bool)) → List Bool
accepted_only [] = []
accepted_only (t ∷ heard) = cond t.0 (t.1 ∷ accepted_only heard) (accepted_only heard)

unfoldable pub all_of : (heard : List (Bool × Bool)) → List Bool
all_of [] = []
all_of (t ∷ heard) = t.1 ∷ all_of heard

module _ (calls : (c : Call) → Act) where
  unfoldable pub advances_heard : (s : System) (es : List Event) → List (Bool × Bool)
  advances_heard s [] = []
  advances_heard s (runs c ∷ es) =
      let rest = advances_heard (after calls s (runs c)) es in
      cond (is_advance c) ((is_accepted calls c s, told_finished (outcome calls c s).reply.answer) ∷ rest) rest
  advances_heard s (cut c left ∷ es) = advances_heard (after calls s (cut c left)) es

  heard_growth : (s : System) (es : List Event) (before : GrowthHeard)
      → heard_all calls hear_growth s es before ≡ record { number = last_reported calls s es before.number; advances = before.advances ++ advances_heard s es }
  unfolding heard_all last_reported heard advances_heard
  heard_growth s [] before = ap (λ (l : List (Bool × Bool)). record { number = before.number; advances = l }) (sym (append-nil before.advances))
  heard_growth s (runs c ∷ es) before =
      let out = outcome calls c s in
      let told : Bool × Bool = (accepted out.reply.answer, told_finished out.reply.answer) in
      let rest = advances_heard (after calls s (runs c)) es in
      heard_growth (after calls s (runs c)) es _
      ∙ ap (λ (l : List (Bool × Bool)). record { number = last_reported calls (after calls s (runs c)) es (later before.number (reported out.reply.answer)); advances = l })
      (by_test (is_advance c) (λ t. rw t (append_assoc before.advances (told ∷ []) rest)) (λ t. rw t refl))
  heard_growth s (cut c left ∷ es) before = heard_growth (after calls s (cut c left)) es before

  pub accepted_told : (s : System) (es : List Event) → finished_told calls s es ≡ accepted_only (advances_heard s es)
  unfolding finished_told tellings advances_heard accepted_only
  accepted_told s [] = refl
  accepted_told s (runs c ∷ es) =
      let rest = accepted_told (after calls s (runs c)) es in
      let finish = told_finished (outcome calls c s).reply.answer in
      by_test (is_advance c)
      (λ t. by_test (is_accepted calls c s) (λ u. rw (t, u) (ap (λ (l : List Bool). finish ∷ l) rest)) (λ u. rw (t, u) rest))
      (λ t. rw t rest)
  accepted_told s (cut c left ∷ es) = accepted_told (after calls s (cut c left)) es

  pub direct_told : (s : System) (es : List DirectEvent) → advances_told calls s es ≡ all_of (advances_heard s (flushed_after es))
  unfolding advances_told flushed_after advances_heard all_of after_all is_advance
  direct_told s [] = refl
  direct_told s (ends c ∷ es) =
      let rest = direct_told (after calls (after calls s (runs c)) (runs flushed)) es in
      let finish = told_finished (outcome calls c s).reply.answer in
      by_test (is_advance c) (λ t. rw t (ap (λ (l : List Bool). finish ∷ l) rest)) (λ t. rw t rest)
  direct_told s (fails c left ∷ es) = direct_told (after calls s (cut (some c) (left ∷ []))) es

-- the list has no advance
unfoldable pub no_advance : (es : List Event) → Bool
no_advance [] = true
no_advance (runs c ∷ es) = not (is_advance c) && no_advance es
no_advance (cut c left ∷ es) = no_advance es

only_later : (calls : (c : Call) → Act) (s : System) (es rest : List Event) → no_advance es ≡ true
    → advances_heard calls s (es ++ rest) ≡ advances_heard calls (after_all calls s es) rest
unfolding no_advance advances_heard after_all
only_later calls s [] rest t = refl
only_later calls s (runs c ∷ es) rest t =
    rw (not-true (is_advance c) (and_left (not (is_advance c)) (no_advance es) t)) (only_later calls (after calls s (runs c)) es rest (and_right (not (is_advance c)) (no_advance es) t))
only_later calls s (cut c left ∷ es) rest t = only_later calls (after calls s (cut c left)) es rest t

-- it does not end in a cut
unfoldable pub ends_up : (is_up : Bool) (es : List Event) → Bool
ends_up is_up [] = is_up
ends_up is_up (runs c ∷ es) = ends_up true es
ends_up is_up (cut c left ∷ es) = ends_up false es

ends_up_law : (calls : (c : Call) → Act) (s : System) (is_up : Bool) (es : List Event) → (is_up ≡ true → IsUp s) → ends_up is_up es ≡ true → IsUp (after_all calls s es)
unfolding ends_up after_all after IsUp
ends_up_law calls s is_up [] start t = start t
ends_up_law calls s is_up (runs c ∷ es) start t = ends_up_law calls (after calls s (runs c)) true es (λ _. tt) t
ends_up_law calls s is_up (cut c left ∷ es) start t = ends_up_law calls (after calls s (cut c left)) false es (λ f. false≢true f) t

-- ---- a list that leaves a growth running, and calls after it, computed

module _ (calls : (c : Call) → Act) (a : Start) (es : List Event) where
  -- the list is lawful, does not end in a cut and leaves a growth running
  pub record Covered : Type 0 where
    pub format_accepted : accepted (formatted a).reply.answer ≡ true
    pub lawful : Lawful calls (begin a) es
    pub is_up_law : IsUp (system_after calls a es)
    pub is_running_law : is_running (model_of calls a es).tally.mode ≡ true

  module _ (rest : List Event) where
    abbrev pub heard_there : GrowthHeard
    heard_there = record { number = last_reported calls (begin a) (es ++ rest) none; advances = advances_heard calls (system_after calls a es) rest }

    -- what is wrong is worked out from what is heard, the model after the list, and the one after all
    unfoldable pub growth_test : (wrong : GrowthHeard → Model → Model → Bool) → Bool
    growth_test wrong =
        let r = computed calls hear_growth (begin a) (es ++ rest) nothing_heard in
        let k = model_fed a (take (length es) r.fed) in
        accepted (formatted a).reply.answer
        && (r.lawful && (is_running k.tally.mode && ((ends_up true es && no_advance es) && wrong r.heard k (model_fed a r.fed))))

    heard_there_law : no_advance es ≡ true → (computed calls hear_growth (begin a) (es ++ rest) nothing_heard).heard ≡ heard_there
    unfolding system_after
    heard_there_law none_before =
        heard_same calls hear_growth (begin a) (es ++ rest) nothing_heard
        ∙ heard_growth calls (begin a) (es ++ rest) nothing_heard
        ∙ ap (λ (l : List (Bool × Bool)). record { number = last_reported calls (begin a) (es ++ rest) none; advances = l }) (only_later calls (begin a) es rest none_before)

    model_all : model_fed a (computed calls hear_growth (begin a) (es ++ rest) nothing_heard).fed ≡ model_of calls a (es ++ rest)
    model_all = sym (model_fed_law calls a (es ++ rest) _ (sym (fed_same calls hear_growth (begin a) (es ++ rest) nothing_heard)))

    model_first : model_fed a (take (length es) (computed calls hear_growth (begin a) (es ++ rest) nothing_heard).fed) ≡ model_of calls a es
    model_first =
        sym (model_fed_law calls a es _ (fed_before calls (begin a) es rest ∙ ap (take (length es)) (sym (fed_same calls hear_growth (begin a) (es ++ rest) nothing_heard))))

    pub growth_tested : (wrong : GrowthHeard → Model → Model → Bool) → growth_test wrong ≡ true
        → Covered × (wrong heard_there (model_of calls a es) (model_of calls a (es ++ rest)) ≡ true)
    unfolding growth_test system_after begin IsUp
    growth_tested wrong t =
        let r = computed calls hear_growth (begin a) (es ++ rest) nothing_heard in
        let k = model_fed a (take (length es) r.fed) in
        let lawful_and = and_right (accepted (formatted a).reply.answer) _ t in
        let runs_and = and_right r.lawful _ lawful_and in
        let list_and = and_right (is_running k.tally.mode) _ runs_and in
        let list_fits = and_left (ends_up true es && no_advance es) _ list_and in (
          record {
            format_accepted = and_left _ _ t;
            lawful = lawful_before calls (begin a) es rest (passed (is_lawful calls hear_growth (begin a) (es ++ rest) nothing_heard) (and_left _ _ lawful_and));
            is_up_law = ends_up_law calls (begin a) true es (λ _. tt) (and_left _ _ list_fits);
            is_running_law = ap (λ (o : Model). is_running o.tally.mode) (sym model_first) ∙ and_left _ _ runs_and;
          },
          ap (λ (h : GrowthHeard). wrong h (model_of calls a es) (model_of calls a (es ++ rest))) (sym (heard_there_law (and_right (ends_up true es) _ list_fits)))
              ∙ ap₂ (wrong r.heard) (sym model_first) (sym model_all)
              ∙ and_right (ends_up true es && no_advance es) _ list_and,
        )

-- ---- parts about such a list

module _ (calls : (c : Call) → Act) (P : (a : Start) (es : List Event) → Type 0) (rest : List Event) (wrong : GrowthHeard → Model → Model → Bool)
    (refutes : (a : Start) (es : List Event) → wrong (heard_there calls a es rest) (model_of calls a es) (model_of calls a (es ++ rest)) ≡ true → P a es → ⊥)
    (a : Start) (es : List DirectEvent) (t : growth_test calls a (from_format es) rest wrong ≡ true) where
  pub broken_growth : EveryGrowth calls P → ⊥
  unfolding from_format NoEarlyCut
  broken_growth every =
      let both = growth_tested calls a (from_format es) rest wrong t in
      refutes a (from_format es) both.1 (every a both.0.format_accepted (from_format es) both.0.lawful (inl refl) both.0.is_up_law both.0.is_running_law)

  pub broken_direct_growth : EveryDirectGrowth calls (λ a es. P a (from_format es)) → ⊥
  broken_direct_growth every =
      let both = growth_tested calls a (from_format es) rest wrong t in
      refutes a (from_format es) both.1 (every a both.0.format_accepted es both.0.lawful both.0.is_up_law both.0.is_running_law)

-- another number is told, or none
unfoldable pub other_than : (told : Option ℕ) (n : ℕ) → Bool
other_than none n = true
other_than (some k) n = not (eqb k n)

abbrev pub other_count : (h : GrowthHeard) (k last : Model) → Bool
other_count h k last = other_than h.number (calls_left_of k.tally)

-- an advance is refused
unfoldable pub some_refused : (heard : List (Bool × Bool)) → Bool
some_refused [] = false
some_refused (t ∷ heard) = not t.0 || some_refused heard

abbrev pub refused_advance : (h : GrowthHeard) (k last : Model) → Bool
refused_advance h k last = some_refused h.advances

abbrev pub advance_after_flushed : List Event
advance_after_flushed = runs flushed ∷ runs advance ∷ []

module _ (calls : (c : Call) → Act) (a : Start) (es : List Event) where
  pub refutes_count : other_count (heard_there calls a es []) (model_of calls a es) (model_of calls a (es ++ [])) ≡ true → CallsLeftTold calls a es → ⊥
  unfolding other_than
  refutes_count t right =
      let n = calls_left_of (model_of calls a es).tally in
      let told = ap (λ (l : List Event). last_reported calls (begin a) l none) (append-nil es) ∙ right in
      clash (eq-eqb n n refl) (not-true (eqb n n) (ap (λ (o : Option ℕ). other_than o n) (sym told) ∙ t))

  pub refutes_advance : refused_advance (heard_there calls a es advance_after_flushed) (model_of calls a es) (model_of calls a (es ++ advance_after_flushed)) ≡ true
      → AdvanceAccepted calls a es → ⊥
  unfolding advances_heard is_advance some_refused
  refutes_advance t right = false≢true (rw right at t)
