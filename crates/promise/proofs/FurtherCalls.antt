-- "further advance calls, uncut, with any reads and writes" and flushed between, and refused calls: as many accepted ones as are left finish
-- the growth, and only the last tells so.
use Prim.Native.Nat.{ℕ, suc, ◌-◌, ◌<◌}
use mathlib.Core.Path.{◌≡◌, refl, sym, ap, ◌∙◌, subst}
use mathlib.Core.Bool.{Bool, true, false, true≢false, and-false, ◌&&◌, not}
use mathlib.Core.List.{List, [], ◌∷◌, ◌++◌}
use mathlib.Core.Logic.{◌≢◌}
use mathlib.Core.Option.{Option, none, some}
use native.Mathlib.Omega.{arith}
use lib.Dec.{eqb}
use lib.ListN.{length, replicate}
use borrow.Author.Tests.{le-ltb, ne_eqb}
use Rattle.base.specs.Refusals.{refusal}
use Rattle.base.proofs.Booleans.{by_test, clash}
use Rattle.layout.specs.Tally.{Mode, not_growing, growing, Tally, calls_left_of, next_block, window_full, last_window}
use Rattle.medium.specs.declared.Geometry.{Geometry}
use Rattle.medium.specs.Medium.{Observations, observe}
use Rattle.volume.specs.declared.Pending.{Pending}
use Rattle.volume.specs.declared.Volume.{Volume}
use Rattle.volume.specs.Answers.{accepted, is_finished, told_finished}
use Rattle.volume.specs.Calls.{Outcome, refused, telling, too_short, is_none, advance_table, checkpoint_told, advancing, advance_effect, advance_outcome}
use Rattle.volume.specs.States.{tally_of, none_pending, with_growth, checkpointed}
use Rattle.volume.proofs.Judged.{judged_cases}
use Rattle.promise.specs.Calls.{Call, advance, write, read, flushed, settles, is_advance, ended}
use Rattle.promise.specs.Lists.{call_outcome, Event, runs, cut, Drives, System, up, memory_of, outcome, is_accepted, after, fed, fed_all, Further, an_advance, a_write, a_read, a_flushed, a_refused, AllFurther, tellings, finished_told}
use Rattle.promise.specs.Model.{checkpoint_finishes, leaving, saving, recording, advance_step, step_of, Model, stepped, accepting, CachedModel, nothing_pending, with_step, following, model_after, modelled}
use Rattle.promise.proofs.Tallies.{Running}
use Rattle.promise.proofs.CallsCounted.{in_window, left_positive, goes_on, ends, advance_step_law}
use Rattle.promise.proofs.StateTallies.{running_of, resting_of}
use Rattle.promise.proofs.Steps.{Up, advance_told}
use Rattle.promise.proofs.PendingStores.{seen, Live}
use Rattle.promise.proofs.EventSteps.{Next, settling_accepted, weaker, seen_medium, flushed_keeps, other_keeps}

-- ---- n advance calls are left: whether those made told finished, and the mode after them

pub record Ending (told : List Bool) (mode : Mode) (n : ℕ) : Type 0 where
  pub still_runs : length told < n → mode ≡ growing
  pub none_told : length told < n → told ≡ replicate (length told) false
  pub finished : length told ≡ n → mode ≡ not_growing
  pub last_told : length told ≡ n → told ≡ replicate (n - 1) false ++ (true ∷ [])

pub ending_none : {mode : Mode} {n : ℕ} → mode ≡ growing → 0 < n → Ending [] mode n
ending_none e h =
    record { still_runs = λ _. e; none_told = λ _. refl; finished = λ z. absurd (omega arith); last_told = λ z. absurd (omega arith) }

pub ending_more : {told : List Bool} {mode : Mode} {n : ℕ} → 0 < n → Ending told mode n → Ending (false ∷ told) mode (suc n)
ending_more {n = n} h f =
    record {
      still_runs = λ l. f.still_runs (omega arith);
      none_told = λ l. ap (λ (rest : List Bool). false ∷ rest) (f.none_told (omega arith));
      finished = λ l. f.finished (omega arith);
      last_told = λ l.
          let one_more : suc n - 1 ≡ suc (n - 1) = omega arith in
          rw one_more (ap (λ (rest : List Bool). false ∷ rest) (f.last_told (omega arith)));
    }

pub ending_last : {told : List Bool} {mode : Mode} → (length told ≡ 0 → mode ≡ not_growing) → Ending (true ∷ told) mode 1
ending_last {told = told} f =
    record {
      still_runs = λ l. absurd (omega arith);
      none_told = λ l. absurd (omega arith);
      finished = λ l. f (omega arith);
      last_told = λ l. ap (λ (rest : List Bool). true ∷ rest) (empty told (omega arith));
    }
  where
    empty : (l : List Bool) → length l ≡ 0 → l ≡ []
    empty [] e = refl
    empty (b ∷ l) e = absurd (omega arith)

-- ---- whether an advance tells finished

told_by : (w : Volume) (b : Bool) → eqb w.growing 0 ≡ b → is_finished (checkpoint_told w) ≡ b
unfolding checkpoint_told is_finished
told_by w true e = rw e
told_by w false e = rw e

checkpoint_told_law : (v : Volume) → v.growing ≢ 0 → is_finished (checkpoint_told (checkpointed v)) ≡ checkpoint_finishes (tally_of v)
unfolding checkpointed with_growth checkpoint_finishes
checkpoint_told_law v on =
    let still : eqb v.growing 0 ≡ false = ne_eqb v.growing 0 on in
    by_test (window_full (tally_of v))
    (λ e. by_test (last_window (tally_of v)) (λ f. rw (e, f) (told_by _ true refl)) (λ f. rw (e, f) (told_by _ false still)))
    (λ e. rw e (told_by _ false still))

advancing_told : (v : Volume) (o : Observations) → v.growing ≢ 0 → (next : Option ℕ)
    → told_finished (advancing v next o).reply.answer ≡ (advance_step next (tally_of v)).finishes
unfolding advancing telling told_finished is_finished advance_step recording leaving
advancing_told v o on none = checkpoint_told_law v on
advancing_told v o on (some x) = refl

-- ---- an advance while a growth runs

all_fail : (a b c d e : Bool) → a ≡ false → b ≡ false → c ≡ false → d ≡ false → e ≡ false
    → refusal ((1, a) ∷ (2, b) ∷ (5, c) ∷ (19, d) ∷ (18, e) ∷ []) ≡ 0
unfolding refusal
all_fail a b c d e f g h i j = rw (f, g, h, i, j) refl

module _ {g : Geometry} {v : Volume} {o : Observations} {k : Model} {told : Option ℕ} (u : Up g v o k told) (on : k.tally.mode ≡ growing) where
  pub state_grows : v.growing ≢ 0
  state_grows e =
      let resting = resting_of v u.consistent.is_sound e in
      let both : not_growing ≡ growing = sym resting.is_resting ∙ ap (λ (t : Tally). t.mode) (sym u.same_tally) ∙ on in
      true≢false cc

  pub tally_runs : Running k.tally
  tally_runs = subst Running (sym u.same_tally) (running_of v u.consistent.is_sound state_grows)

  -- with nothing pending it is accepted
  pub no_refusal : v.pending.records ≡ false → v.pending.blocks ≡ false → refusal (advance_table v o.byte_count) ≡ 0
  unfolding advance_table too_short
  no_refusal record_down blocks_down =
      let none_due : (is_none (next_block (tally_of v)) && v.pending.blocks) ≡ false =
      ap (λ (b : Bool). is_none (next_block (tally_of v)) && b) blocks_down ∙ and-false (is_none (next_block (tally_of v))) in
      all_fail _ _ _ _ _ (ap not u.consistent.is_sound) (le-ltb _ _ u.consistent.room) (ne_eqb v.growing 0 state_grows) record_down none_due

  pub advance_passes : v.pending.records ≡ false → v.pending.blocks ≡ false → accepted (advance_outcome v o).reply.answer ≡ true
  unfolding advance_outcome advance_effect
  advance_passes record_down blocks_down =
      judged_cases (λ (out : Outcome). accepted out.reply.answer ≡ true) (advance_table v o.byte_count) (λ n. refused v n []) _
      (λ _. advance_told v o (next_block (tally_of v))) (λ f. absurd (f (no_refusal record_down blocks_down)))

  pub told_finished_law : accepted (advance_outcome v o).reply.answer ≡ true → told_finished (advance_outcome v o).reply.answer ≡ (step_of advance k.tally).finishes
  unfolding step_of advance_outcome advance_effect
  told_finished_law =
      rw u.same_tally
      (judged_cases (λ (out : Outcome). accepted out.reply.answer ≡ true → told_finished out.reply.answer ≡ (advance_step (next_block (tally_of v)) (tally_of v)).finishes)
      (advance_table v o.byte_count) (λ n. refused v n []) _
      (λ _ _. advancing_told v o state_grows (next_block (tally_of v)))
      (λ f e. unfold refused accepted in cc))

pub one_told : {l rest : List Bool} {b : Bool} → l ≡ b ∷ rest → length l ≡ 0 → ⊥
one_told {rest = rest} e z = let k : suc (length rest) ≡ 0 = rw e at z in omega arith

-- ---- an advance that is accepted, and calls that leave the tally as it is and tell nothing of the growth; of any program

module _ (calls : (c : Call) (v : Volume) (o : Observations) → Outcome) where
  pub record Quiet (s : System) (c : Call) : Type 0 where
    pub tally_kept : (k : CachedModel) → (model_after (fed calls s (runs c)) k).current.tally ≡ k.current.tally
    pub none_told : (rest : List Bool) → tellings calls s (runs c) rest ≡ rest

  pub data Counted (s : System) : Event → Type 0 where
    counted : is_accepted calls advance s ≡ true → Counted s (runs advance)
    quiet : {c : Call} → Quiet s c → Counted s (runs c)

  quiet_refused : (s : System) (c : Call) → is_accepted calls c s ≡ false → Quiet s c
  unfolding fed model_after tellings
  quiet_refused s c e = record { tally_kept = λ k. rw e refl; none_told = λ rest. rw (e, and-false (is_advance c)) refl }

  pub quiet_by : (s : System) (c : Call) → is_advance c ≡ false → ((t : Tally) → (step_of c t).tally ≡ t) → Quiet s c
  unfolding fed
  quiet_by s c e same = record { tally_kept = λ k. kept k (is_accepted calls c s); none_told = λ rest. unfold tellings in rw e refl }
    where
      through : (k : CachedModel) (b : Bool) → settles c ≡ b → (following c k).current.tally ≡ k.current.tally
      through k true s = unfold following nothing_pending accepting stepped in rw s (same k.current.tally)
      through k false s = unfold following with_step stepped in rw s (same k.current.tally)

      kept : (k : CachedModel) (ok : Bool) → (model_after (ended c ok) k).current.tally ≡ k.current.tally
      kept k true = unfold model_after in through k (settles c) refl
      kept k false = unfold model_after in refl

  pub counted_of : (s : System) (e : Event) → Further calls s e → Counted s e
  unfolding step_of leaving saving is_advance
  counted_of s e an_advance =
      by_test (is_accepted calls advance s) (λ f. counted f) (λ f. quiet (quiet_refused s advance f))
  counted_of s e (a_write {x = x} {piece = piece}) = quiet (quiet_by s (write x piece) refl (λ t. refl))
  counted_of s e (a_read {x = x} {piece = piece}) = quiet (quiet_by s (read x piece) refl (λ t. refl))
  counted_of s e a_flushed = quiet (quiet_by s flushed refl (λ t. refl))
  counted_of s e (a_refused {c = c} f) = quiet (quiet_refused s c f)

  pub tellings_counted : (s : System) → is_accepted calls advance s ≡ true → (rest : List Bool)
      → tellings calls s (runs advance) rest ≡ told_finished (outcome calls advance s).reply.answer ∷ rest
  unfolding tellings is_advance
  tellings_counted s a rest = rw a refl

  pub advanced_tally : (s : System) (k : CachedModel) → is_accepted calls advance s ≡ true
      → (model_after (fed calls s (runs advance)) k).current.tally ≡ (step_of advance k.current.tally).tally
  unfolding fed model_after following settles with_step stepped
  advanced_tally s k a = rw a refl

  -- with no advance accepted the tally stays
  pub none_advanced : (es : List Event) (s : System) (k : CachedModel) → AllFurther calls s es → length (finished_told calls s es) ≡ 0
      → (modelled (fed_all calls s es) k).current.tally ≡ k.current.tally
  unfolding finished_told modelled fed_all AllFurther
  none_advanced [] s k f e = refl
  none_advanced (e ∷ es) s k f z = go e (counted_of s e f.0) z (none_advanced es (after calls s e) (model_after (fed calls s e) k) f.1)
    where
      go : (e : Event) → Counted s e
          → length (tellings calls s e (finished_told calls (after calls s e) es)) ≡ 0
          → (length (finished_told calls (after calls s e) es) ≡ 0
          → (modelled (fed_all calls (after calls s e) es) (model_after (fed calls s e) k)).current.tally ≡ (model_after (fed calls s e) k).current.tally)
          → (modelled (fed_all calls (after calls s e) es) (model_after (fed calls s e) k)).current.tally ≡ k.current.tally
      go e (counted a) z more = absurd (one_told (tellings_counted s a _) z)
      go e (quiet {c = c} q) z more = more (rw (q.none_told _) at z) ∙ q.tally_kept k

-- the invariant
pub further_keeps : (sure : Bool) (g : Geometry) (v : Volume) (d : Drives) (k : CachedModel) (told : Option ℕ) → Live sure g v d k told → (e : Event)
    → Further call_outcome (up v d) e → Next g k told sure (up v d) e
unfolding settles after
further_keeps sure g v d k told i e an_advance = other_keeps g k told sure v d i advance refl
further_keeps sure g v d k told i e (a_write {x = x} {piece = piece}) = other_keeps g k told sure v d i (write x piece) refl
further_keeps sure g v d k told i e (a_read {x = x} {piece = piece}) = other_keeps g k told sure v d i (read x piece) refl
further_keeps sure g v d k told i e a_flushed = weaker g _ _ _ _ (flushed_keeps g k told sure v d i) sure
further_keeps sure g v d k told i e (a_refused {c = c} f) =
    by_test (settles c)
    (λ s. clash (settling_accepted sure g v d k told i c s) (refused_here c f))
    (λ s. other_keeps g k told sure v d i c s)
  where
    refused_here : (c : Call) → is_accepted call_outcome c (up v d) ≡ false → accepted (call_outcome c v (observe (seen d))).reply.answer ≡ false
    refused_here c f =
        unfold outcome memory_of in
        subst (λ (m : List ℕ). accepted (call_outcome c v (observe m)).reply.answer ≡ false) (seen_medium g k told v d i) f

-- ---- lists

-- an advance that is accepted, as an event
module _ (sure : Bool) (g : Geometry) (v : Volume) (d : Drives) (k : CachedModel) (told : Option ℕ) (i : Live sure g v d k told)
    (on : k.current.tally.mode ≡ growing) (a : is_accepted call_outcome advance (up v d) ≡ true) where
  pub event_told : told_finished (outcome call_outcome advance (up v d)).reply.answer ≡ (step_of advance k.current.tally).finishes
  unfolding outcome memory_of call_outcome
  event_told =
      subst (λ (m : List ℕ). accepted (advance_outcome v (observe m)).reply.answer ≡ true → told_finished (advance_outcome v (observe m)).reply.answer ≡ (step_of advance k.current.tally).finishes)
      (sym (seen_medium g k told v d i)) (told_finished_law i.up on) a

-- the events are calls that come to their end
abbrev pub IsRun : (e : Event) → Type 0
IsRun (runs c) = Unit {0}
IsRun (cut c left) = ⊥

pub is_run : (s : System) (e : Event) → Further call_outcome s e → IsRun e
is_run s e an_advance = tt
is_run s e a_write = tt
is_run s e a_read = tt
is_run s e a_flushed = tt
is_run s e (a_refused f) = tt

-- directly after flushed an advance is accepted
pub advance_after_flushed : (g : Geometry) (v : Volume) (d : Drives) (k : CachedModel) (told : Option ℕ) (j : Live true g v d k told)
    → k.current.tally.mode ≡ growing → v.pending ≡ none_pending → is_accepted call_outcome advance (up v d) ≡ true
unfolding outcome memory_of call_outcome none_pending
advance_after_flushed g v d k told j on down =
    subst (λ (m : List ℕ). accepted (advance_outcome v (observe m)).reply.answer ≡ true) (sym (seen_medium g k told v d j))
    (advance_passes j.up on (ap (λ (p : Pending). p.records) down) (ap (λ (p : Pending). p.blocks) down))

module _ (sure : Bool) (g : Geometry) (v : Volume) (d : Drives) (k : CachedModel) (told : Option ℕ) (i : Live sure g v d k told)
    (on : k.current.tally.mode ≡ growing) (es : List Event) where
  abbrev next : (c : Call) → CachedModel
  next c = model_after (fed call_outcome (up v d) (runs c)) k

  abbrev rest : (c : Call) → List Bool
  rest c = finished_told call_outcome (after call_outcome (up v d) (runs c)) es

  abbrev last : (c : Call) → CachedModel
  last c = modelled (fed_all call_outcome (after call_outcome (up v d) (runs c)) es) (next c)

  one_more : (c : Call) → Counted call_outcome (up v d) (runs c) → Next g k told sure (up v d) (runs c)
      → ((next c).current.tally.mode ≡ growing → Ending (rest c) (last c).current.tally.mode (calls_left_of (next c).current.tally))
      → (length (rest c) ≡ 0 → (last c).current.tally ≡ (next c).current.tally)
      → Ending (tellings call_outcome (up v d) (runs c) (rest c)) (last c).current.tally.mode (calls_left_of k.current.tally)
  unfolding after
  one_more c (counted a) j more stays =
      let same : (next advance).current.tally ≡ (step_of advance k.current.tally).tally = advanced_tally call_outcome (up v d) k a in
      let told_it = event_told sure g v d k told i on a in
      elim (advance_step_law k.current.tally (in_window (tally_runs i.up on))) [
        | goes_on mode finish left ↦
            let still : (next advance).current.tally.mode ≡ growing = ap (λ (t : Tally). t.mode) same ∙ mode in
            rw (tellings_counted call_outcome (up v d) a (rest advance), left, sym same, told_it ∙ finish)
            (ending_more (left_positive (next advance).current.tally (in_window (tally_runs j.up still))) (more still))
        | ends mode finish left ↦
            rw (tellings_counted call_outcome (up v d) a (rest advance), left, told_it ∙ finish)
            (ending_last (λ z. ap (λ (t : Tally). t.mode) (stays z ∙ same) ∙ mode))
      ]
  one_more c (quiet q) j more stays =
      rw (q.none_told (rest c), ap calls_left_of (sym (q.tally_kept k))) (more (ap (λ (t : Tally). t.mode) (q.tally_kept k) ∙ on))

pub ending : (es : List Event) (sure : Bool) (g : Geometry) (v : Volume) (d : Drives) (k : CachedModel) (told : Option ℕ) → Live sure g v d k told
    → k.current.tally.mode ≡ growing → AllFurther call_outcome (up v d) es
    → Ending (finished_told call_outcome (up v d) es) (modelled (fed_all call_outcome (up v d) es) k).current.tally.mode (calls_left_of k.current.tally)
unfolding finished_told modelled fed_all AllFurther after
ending [] sure g v d k told i on f = ending_none on (left_positive k.current.tally (in_window (tally_runs i.up on)))
ending (cut c left ∷ es) sure g v d k told i on f = absurd (is_run (up v d) (cut c left) f.0)
ending (runs c ∷ es) sure g v d k told i on f =
    let j : Next g k told sure (up v d) (runs c) = further_keeps sure g v d k told i (runs c) f.0 in
    one_more sure g v d k told i on es c (counted_of call_outcome (up v d) (runs c) f.0) j (λ still. ending es sure g _ _ _ _ j still f.1)
    (none_advanced call_outcome es (after call_outcome (up v d) (runs c)) (model_after (fed call_outcome (up v d) (runs c)) k) f.1)
