-- What holds of every program, whichever calls it accepts: a growth still runs after fewer accepted advances than were left, `still_runs` and
-- `still_runs_direct`; and after as many it is finished, if a call was left: `finished_left`. The tally is fed which calls were accepted, and
-- each accepted advance takes one call off what it has left. The counts of a program's tally need not rise, and any block may be copied.
use Prim.Native.Nat.{ℕ, suc, ◌+◌, ◌-◌, ◌≤◌, ◌<◌}
use mathlib.Core.Path.{◌≡◌, refl, sym, ap, ◌∙◌, subst}
use mathlib.Core.Bool.{Bool, true, false, false≢true}
use mathlib.Core.List.{List, [], ◌∷◌, ◌++◌}
use mathlib.Core.Option.{Option, none, some}
use native.Mathlib.Decide.{ℕ_discrete}
use native.Mathlib.Nat.{div-zero, zero-mul, le-div_iff_mul-le, mul_comm}
use native.Mathlib.Omega.{arith}
use lib.ListN.{length}
use borrow.Author.Tests.{eqb-false}
use Rattle.base.specs.Below.{count}
use Rattle.base.proofs.Booleans.{cond_cases, by_test}
use Rattle.layout.specs.History.{old_count, added_count}
use Rattle.layout.specs.Tally.{Tally, Mode, not_growing, growing, is_running, calls_left_of, next_block, window_full, last_window}
use Rattle.layout.specs.Windows.{windows, uncopied, calls_left}
use Rattle.volume.specs.Answers.{accepted}
use Rattle.promise.specs.Calls.{Call, grow, grow_beyond_doubling, copy, checkpoint, advance, write, read, restart, flushed, settles, is_advance, CutLeft, same_record, record_old, record_new, Fed, ended, cut_in}
use Rattle.promise.specs.Lists.{Event, runs, cut, System, is_accepted, after, fed, after_all, fed_all, an_advance, a_write, a_read, a_flushed, AllFurther, tellings, finished_told}
use Rattle.promise.specs.Model.{start_tally, grown_tally, with_blocks, copied_tally, next_window_tally, finished_tally, recorded_tally, restarted_tally, leaving, saving, recording, advance_step, step_of, Model, start_model, stepped, accepting, CachedModel, nothing_pending, with_step, following, with_call, model_or, left_model, after_cut, model_after, modelled}
use Rattle.promise.specs.Promise.{Start, formatted, begin, system_after, model_of}
use Rattle.promise.specs.WithoutCache.{DirectEvent, ends, fails, flushed_after, from_format, DirectFurther, no_call, an_advance as one_advance, a_write as one_write, a_read as one_read, advances_told}
use Rattle.promise.proofs.CallsCounted.{InWindow, left_of, left_positive, goes_on, ends as Ended-by, advance_step_law}
use Rattle.promise.proofs.FurtherCalls.{Counted, counted, quiet, counted_of, tellings_counted, advanced_tally, none_advanced}
use Rattle.promise.proofs.Theorem.{start_cached, running_grows, grows_running, rests_not_running, modelled_append}
use Rattle.promise.proofs.WithoutCache.{from_append}
use Rattle.promise.proofs.Windows.{some_disk}
use Rattle.worked.specs.WrongPrograms.{Act}
use Rattle.promise.specs.Parts.{StillRuns, Finished, EveryFurther, EveryDirectFurther}
use Rattle.worked.proofs.EveryFormat.{some_block}

-- ---- the tally stays within its windows

abbrev disks_of : (t : Tally) → ℕ
disks_of t = old_count t.counts + added_count t.counts

-- there is a row, and while a growth with a disk runs, w is one of its windows
pub record Inside (t : Tally) : Type 0 where
  pub some_row : 0 < t.rows
  pub below : t.mode ≡ growing → 0 < disks_of t → t.window < windows (old_count t.counts) (added_count t.counts) t.rows

no_growth : {P : Type 0} → not_growing ≡ growing → P
no_growth e = absurd (false≢true (ap is_running e))

first_window : (m n s : ℕ) → 0 < m + n → 0 < s → 0 < windows m n s
unfolding windows
first_window m n s some_k some-s = (le-div_iff_mul-le some_k).1 (omega arith)

inside_blocks : {t : Tally} → Inside t → (copied recorded : ℕ → Bool) → Inside (with_blocks t copied recorded)
unfolding with_blocks
inside_blocks i copied recorded = record { some_row = i.some_row; below = i.below }

inside_recorded : (t : Tally) → Inside t → Inside (recorded_tally t)
unfolding recorded_tally finished_tally next_window_tally last_window
inside_recorded t i =
    cond_cases Inside (window_full t)
    (λ _. cond_cases Inside (last_window t) (λ _. record { some_row = i.some_row; below = λ e. no_growth e })
    (λ more. record {
      some_row = i.some_row;
      below = λ on disk. let w = i.below on disk in
          omega (arith, w, eqb-false (suc t.window) (windows (old_count t.counts) (added_count t.counts) t.rows) more);
    }))
    (λ _. inside_blocks i t.copied t.copied)

inside_advance : (t : Tally) → Inside t → (next : Option ℕ) → Inside (advance_step next t).tally
unfolding advance_step leaving recording copied_tally
inside_advance t i none = inside_recorded t i
inside_advance t i (some x) = inside_blocks i _ t.recorded

inside_grown : (n : ℕ) (t : Tally) → Inside t → Inside (grown_tally n t)
unfolding grown_tally
inside_grown n t i =
    record { some_row = i.some_row; below = λ on disk. first_window (old_count (n ∷ t.counts)) (added_count (n ∷ t.counts)) t.rows disk i.some_row }

inside_step : (c : Call) (t : Tally) → Inside t → Inside (step_of c t).tally
unfolding step_of leaving saving recording copied_tally restarted_tally
inside_step (grow n) t i = inside_grown n t i
inside_step (grow_beyond_doubling n) t i = inside_grown n t i
inside_step (copy x) t i = inside_blocks i _ t.recorded
inside_step checkpoint t i = inside_recorded t i
inside_step advance t i = inside_advance t i (next_block t)
inside_step (write x piece) t i = i
inside_step (read x piece) t i = i
inside_step restart t i = inside_blocks i t.recorded t.recorded
inside_step flushed t i = i

-- and those that a cut may bring back
abbrev InsideIf : (o : Option Model) → Type 0
InsideIf none = Unit {0}
InsideIf (some o) = Inside o.tally

pub record InsideAll (k : CachedModel) : Type 0 where
  pub now : Inside k.current.tally
  pub before : InsideIf k.before_record

inside_following : (c : Call) (k : CachedModel) → InsideAll k → InsideAll (following c k)
unfolding following nothing_pending accepting with_step stepped
inside_following c k i =
    let next = inside_step c k.current.tally i.now in
    cond_cases InsideAll (settles c) (λ _. record { now = next; before = tt })
    (λ _. record { now = next; before = cond_cases InsideIf (step_of c k.current.tally).stores_record (λ _. i.now) (λ _. i.before) })

inside_call : (c : Option Call) (k : CachedModel) → InsideAll k → InsideAll (with_call c k)
unfolding with_call
inside_call none k i = i
inside_call (some c) k i = inside_following c k i

inside_or : (o : Option Model) (other : Model) → InsideIf o → Inside other.tally → Inside (model_or o other).tally
inside_or none other i j = j
inside_or (some o) other i j = i

inside_left : (c : Option Call) (left : CutLeft) (k : CachedModel) → InsideAll k → Inside (left_model c left k).tally
unfolding left_model
inside_left c same_record k i = i.now
inside_left c record_old k i = inside_or (with_call c k).before_record k.current (inside_call c k i).before i.now
inside_left c record_new k i = (inside_call c k i).now

inside_all : (fs : List Fed) (k : CachedModel) → InsideAll k → InsideAll (modelled fs k)
unfolding modelled model_after nothing_pending after_cut
inside_all [] k i = i
inside_all (ended c true ∷ fs) k i = inside_all fs (following c k) (inside_following c k i)
inside_all (ended c false ∷ fs) k i = inside_all fs k i
inside_all (cut_in c left ∷ fs) k i = inside_all fs (nothing_pending (after_cut c left k)) (record { now = inside_left c left k i; before = tt })

inside_start : (a : Start) → accepted (formatted a).reply.answer ≡ true → InsideAll (start_cached a)
unfolding nothing_pending start_model start_tally formatted
inside_start a ok =
    let block = some_block a.size a.rows a.disks _ ok in
    let row : 0 < a.rows = some_disk a.rows a.disks 0 (omega (arith, block, mul_comm a.disks a.rows)) in
    record { now = record { some_row = row; below = λ e. no_growth e }; before = tt }

-- ---- an advance

-- the growth goes on in one of its windows
same_counts : (t : Tally) (next : Option ℕ) → (advance_step next t).tally.counts ≡ t.counts
unfolding advance_step leaving recording copied_tally with_blocks recorded_tally finished_tally next_window_tally
same_counts t none =
    cond_cases (λ (u : Tally). u.counts ≡ t.counts) (window_full t) (λ _. cond_cases (λ (u : Tally). u.counts ≡ t.counts) (last_window t) (λ _. refl) (λ _. refl)) (λ _. refl)
same_counts t (some x) = refl

next_window : (t : Tally) → InWindow t → Inside t → (step_of advance t).tally.mode ≡ growing → InWindow (step_of advance t).tally
unfolding step_of
next_window t w i on =
    let disk : 0 < disks_of (advance_step (next_block t) t).tally = rw (same_counts t (next_block t)) w.some_disk in
    record { is_growing = on; some_disk = disk; window_below = (inside_advance t i (next_block t)).below on disk }

-- a growth with no disk has no call left
none_left : (s : ℕ) (h : List ℕ) (w : ℕ) (copied : ℕ → Bool) → old_count h + added_count h ≡ 0 → calls_left s h w copied ≡ 0
unfolding calls_left uncopied windows count
none_left s h w copied e =
    let old : old_count h ≡ 0 = omega arith in
    let added : added_count h ≡ 0 = omega arith in
    rw (old, added, zero-mul s, div-zero (s + (0 + 0 - 1))) (omega arith)

in_window_or : (t : Tally) → Inside t → t.mode ≡ growing → 0 < calls_left_of t → InWindow t
in_window_or t i on left =
    elim (ℕ_discrete (disks_of t) 0) [
      | yes e ↦ absurd (omega (arith, left, left_of t on, none_left t.rows t.counts t.window t.copied e))
      | no e ↦ let disk : 0 < disks_of t = omega (arith, e) in record { is_growing = on; some_disk = disk; window_below = i.below on disk }
    ]

-- ---- lists of further calls

module _ (calls : (c : Call) → Act) where
  -- after fewer accepted advances than were left it runs, after as many it does not
  abbrev CountedDown : (told : List Bool) (t : Tally) (mode : Mode) → Type 0
  CountedDown told t mode = (length told < calls_left_of t → mode ≡ growing) × (length told ≡ calls_left_of t → mode ≡ not_growing)

  counted_down : (es : List Event) (s : System) (k : CachedModel) → InWindow k.current.tally → Inside k.current.tally → AllFurther calls s es
      → CountedDown (finished_told calls s es) k.current.tally (modelled (fed_all calls s es) k).current.tally.mode
  unfolding finished_told modelled fed_all AllFurther
  counted_down [] s k w i f = (λ _. w.is_growing, λ e. let left = left_positive k.current.tally w in absurd (omega arith))
  counted_down (e ∷ es) s k w i f =
      go e (counted_of calls s e f.0) (λ w i. counted_down es (after calls s e) (model_after (fed calls s e) k) w i f.1)
      (none_advanced calls es (after calls s e) (model_after (fed calls s e) k) f.1)
    where
      go : (e : Event) → Counted calls s e
          → (InWindow (model_after (fed calls s e) k).current.tally → Inside (model_after (fed calls s e) k).current.tally
          → CountedDown (finished_told calls (after calls s e) es) (model_after (fed calls s e) k).current.tally (modelled (fed_all calls (after calls s e) es) (model_after (fed calls s e) k)).current.tally.mode)
          → (length (finished_told calls (after calls s e) es) ≡ 0
          → (modelled (fed_all calls (after calls s e) es) (model_after (fed calls s e) k)).current.tally ≡ (model_after (fed calls s e) k).current.tally)
          → CountedDown (tellings calls s e (finished_told calls (after calls s e) es)) k.current.tally (modelled (fed_all calls (after calls s e) es) (model_after (fed calls s e) k)).current.tally.mode
      go e (counted a) more stays =
          let t = k.current.tally in
          let same = advanced_tally calls s k a in
          rw (tellings_counted calls s a (finished_told calls (after calls s (runs advance)) es))
          (elim (advance_step_law t w) [
            | goes_on on finish left ↦
                let rest = more (subst InWindow (sym same) (next_window t w i on)) (subst Inside (sym same) (inside_step advance t i)) in
                let fewer = left ∙ ap (λ (u : Tally). suc (calls_left_of u)) (sym same) in
                (λ less. rest.0 (omega (arith, less, fewer)), λ all. rest.1 (omega (arith, all, fewer)))
            | Ended-by off finish left ↦
                (λ less. absurd (omega (arith, less, left)), λ all. ap (λ (u : Tally). u.mode) (stays (omega (arith, all, left)) ∙ same) ∙ off)
          ])
      go e (quiet {c = c} q) more stays =
          let same = q.tally_kept k in
          let rest = more (subst InWindow (sym same) w) (subst Inside (sym same) i) in
          let told = finished_told calls (after calls s (runs c)) es in
          let last = (modelled (fed_all calls (after calls s (runs c)) es) (model_after (fed calls s (runs c)) k)).current.tally.mode in
          rw (q.none_told told) (subst (λ (t : Tally). CountedDown told t last) same rest)

  -- ---- with a write cache

  module _ (a : Start) (ok : accepted (formatted a).reply.answer ≡ true) (es : List Event) (on : is_running (model_of calls a es).tally.mode ≡ true)
      (further : List Event) (f : AllFurther calls (system_after calls a es) further) (left : 0 < calls_left_of (model_of calls a es).tally) where
    counted_list : CountedDown (finished_told calls (system_after calls a es) further) (model_of calls a es).tally (model_of calls a (es ++ further)).tally.mode
    unfolding system_after model_of
    counted_list =
        let k = modelled (fed_all calls (begin a) es) (start_cached a) in
        let i = (inside_all (fed_all calls (begin a) es) (start_cached a) (inside_start a ok)).now in
        subst (λ (m : CachedModel). CountedDown (finished_told calls (after_all calls (begin a) es) further) k.current.tally m.current.tally.mode)
        (sym (modelled_append calls (begin a) (start_cached a) es further))
        (counted_down further (after_all calls (begin a) es) k (in_window_or k.current.tally i (running_grows _ on) left) i f)

  pub still_runs : EveryFurther calls StillRuns
  still_runs a ok es l early is_up_law on further f less = grows_running ((counted_list a ok es on further f (omega (arith, less))).0 less)

  pub finished_left : EveryFurther calls (λ told mode n. 0 < n → Finished told mode n)
  finished_left a ok es l early is_up_law on further f left all = rests_not_running ((counted_list a ok es on further f left).1 all)

  -- ---- without a write cache, where every advance counts

  pub further_direct : {further : List DirectEvent} → DirectFurther further → (s : System) → AllFurther calls s (flushed_after further)
  unfolding flushed_after AllFurther
  further_direct no_call s = tt
  further_direct (one_advance f) s = (an_advance, (a_flushed, further_direct f _))
  further_direct (one_write f) s = (a_write, (a_flushed, further_direct f _))
  further_direct (one_read f) s = (a_read, (a_flushed, further_direct f _))

  fewer_told : (further : List DirectEvent) (s : System) → length (finished_told calls s (flushed_after further)) ≤ length (advances_told calls s further)
  unfolding flushed_after finished_told advances_told tellings after_all is_advance
  fewer_told [] s = omega arith
  fewer_told (ends c ∷ further) s =
      let rest = fewer_told further (after calls (after calls s (runs c)) (runs flushed)) in
      by_test (is_advance c)
      (λ t. by_test (is_accepted calls c s) (λ u. rw (t, u) (omega (arith, rest))) (λ u. rw (t, u) (omega (arith, rest))))
      (λ t. rw t rest)
  fewer_told (fails c left ∷ further) s = fewer_told further (after calls s (cut (some c) (left ∷ [])))

  pub still_runs_direct : EveryDirectFurther calls StillRuns
  still_runs_direct a ok es l is_up_law on further f less =
      let s = system_after calls a (from_format es) in
      let fewer = fewer_told further s in
      let down = counted_list a ok (from_format es) on (flushed_after further) (further_direct f s) (omega (arith, less)) in
      grows_running (ap (λ (l : List Event). (model_of calls a l).tally.mode) (from_append es further) ∙ down.0 (omega (arith, fewer, less)))
