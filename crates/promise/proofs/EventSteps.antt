-- One event keeps the invariant.
use Prim.Native.Nat.{ℕ}
use mathlib.Core.Path.{◌≡◌, refl, sym, subst}
use mathlib.Core.Bool.{Bool, true, false, cond, ◌&&◌, true≢false}
use mathlib.Core.List.{List, [], ◌∷◌}
use mathlib.Core.Option.{Option, none, some}
use lib.ListN.{length}
use Rattle.base.proofs.Booleans.{by_test}
use Rattle.base.specs.Refusals.{refusal}
use Rattle.medium.specs.declared.Geometry.{Geometry}
use Rattle.medium.specs.Medium.{Observations, observe, Store, no_store, StoreFits, AfterCut, MayLeave, Placed, placed, apply_all, also_pending, EachMayLeave, apply_cuts}
use Rattle.medium.proofs.Theorems.{medium_laws}
use Rattle.volume.specs.declared.Volume.{Volume}
use Rattle.volume.specs.Answers.{number, accepted, reported}
use Rattle.volume.specs.Calls.{Outcome, refused, doing, reporting, read_table, read_effect, read_outcome, restart_table, restart_effect, restart_outcome, flushed_table, flushed_effect, flushed_outcome}
use Rattle.volume.specs.States.{geometry, none_pending, pending_with, with_pending, with_growth, recorded_only, zeros}
use Rattle.volume.proofs.Judged.{judged_cases, accepted_when}
use Rattle.volume.proofs.StoresFit.{FitsDisks, grow_fits, write_fits, Sized, sized, copy_fits, checkpoint_fits, advance_fits}
use Rattle.promise.specs.Calls.{Call, grow, grow_beyond_doubling, copy, checkpoint, advance, write, read, restart, flushed, settles, CutLeft, same_record, record_old, record_new, ended}
use Rattle.promise.specs.Lists.{call_outcome, Event, runs, cut, Drives, System, up, down, drives_of, memory_of, medium_of, cut_left, later, outcome, drives_after, stores_at, after, Allowed, fed, heard}
use Rattle.promise.specs.Model.{no_block, leaving, step_of, unset, with_save, stepped, accepting, CachedModel, nothing_pending, with_step, following, with_call, left_model, after_cut, model_or, model_after}
use Rattle.promise.proofs.Steps.{Down, up_down, up_pending, Judgement, is_refused, has_effect, restart_found, restart_up, call_judged}
use Rattle.promise.proofs.PendingStores.{seen, Live, not_yet, record_pending, blocks_pending, Safe, live_settled, after_call, left_after, cut_in, cut_between}

-- ---- what is stored lies in the bytes of the disks and in the medium; read, restart and flushed store nothing

pub read_stores : (v : Volume) (x : ℕ) (piece : List ℕ) (o : Observations) → (read_outcome v x piece o).store ≡ no_store
unfolding read_outcome read_effect doing refused
read_stores v x piece o =
    judged_cases (λ (out : Outcome). out.store ≡ no_store) (read_table v x (length piece) o.byte_count) (λ n. refused v n piece) _ (λ _. refl)
    (λ _. refl)

pub restart_stores : (o : Observations) → (restart_outcome o).store ≡ no_store
unfolding restart_outcome restart_effect reporting refused
restart_stores o =
    judged_cases (λ (out : Outcome). out.store ≡ no_store) (restart_table o) (λ n. refused zeros n []) _ (λ _. refl) (λ _. refl)

pub flushed_stores : (v : Volume) → (flushed_outcome v).store ≡ no_store
unfolding flushed_outcome flushed_effect doing refused
flushed_stores v =
    judged_cases (λ (out : Outcome). out.store ≡ no_store) (flushed_table v) (λ n. refused v n []) _ (λ _. refl) (λ _. refl)

nothing_fits : (v : Volume) (o : Observations) (out : Outcome) → out.store ≡ no_store → FitsDisks v o out
unfolding StoreFits
nothing_fits v o out e = rw e (tt, tt)

pub call_fits : (c : Call) (v : Volume) (o : Observations) → Sized (geometry v) o → FitsDisks v o (call_outcome c v o)
unfolding call_outcome
call_fits (grow count) v o s = grow_fits true v count o
call_fits (grow_beyond_doubling count) v o s = grow_fits false v count o
call_fits (copy x) v o s = copy_fits v x o s
call_fits checkpoint v o s = checkpoint_fits v o
call_fits advance v o s = advance_fits v o s
call_fits (write x piece) v o s = write_fits v x piece o
call_fits (read x piece) v o s = nothing_fits v o (read_outcome v x piece o) (read_stores v x piece o)
call_fits restart v o s = nothing_fits v o (restart_outcome o) (restart_stores o)
call_fits flushed v o s = nothing_fits v o (flushed_outcome v) (flushed_stores v)

-- a call after which nothing is pending is restart or flushed
pub settling_stores : (c : Call) (v : Volume) (o : Observations) → settles c ≡ true → (call_outcome c v o).store ≡ no_store
unfolding call_outcome settles
settling_stores (grow count) v o s = absurd (true≢false (sym s))
settling_stores (grow_beyond_doubling count) v o s = absurd (true≢false (sym s))
settling_stores (copy x) v o s = absurd (true≢false (sym s))
settling_stores checkpoint v o s = absurd (true≢false (sym s))
settling_stores advance v o s = absurd (true≢false (sym s))
settling_stores (write x piece) v o s = absurd (true≢false (sym s))
settling_stores (read x piece) v o s = absurd (true≢false (sym s))
settling_stores restart v o s = restart_stores o
settling_stores flushed v o s = flushed_stores v

-- ---- the invariant of a system: of its state and its drives, or after a cut of its medium

abbrev pub Invariant : (sure : Bool) (g : Geometry) (s : System) (k : CachedModel) (told : Option ℕ) → Type 0
Invariant sure g (up v d) k told = Live sure g v d k told
Invariant sure g (down m) k told = Down g (observe m) k.current × (k.written ≡ no_block)

-- ---- a call that comes to its end

module _ (sure : Bool) (g : Geometry) (v : Volume) (d : Drives) (k : CachedModel) (told : Option ℕ) (i : Live sure g v d k told) where
  abbrev Comes : (c : Call) (m : List ℕ) (out : Outcome) → Type 0
  Comes c m out =
      Live sure g out.reply.state
      (cond (settles c && accepted out.reply.answer) (record { landed = m; pending = [] })
      (record { landed = d.landed; pending = also_pending (geometry v) out.store d.pending }))
      (model_after (ended c (accepted out.reply.answer)) k) (later told (reported out.reply.answer))

  judged_live : (c : Call) → settles c ≡ false → (out : Outcome)
      → Judgement g v (observe (seen d)) k.current told (step_of c k.current.tally) out
      → StoreFits g (length (seen d)) out.store → Comes c (seen d) out
  unfolding model_after following
  judged_live c s out (is_refused n piece f) fits =
      unfold refused accepted reported later also_pending in rw s i
  judged_live c s out (has_effect e) fits =
      rw (e.is_accepted_law, s, i.up.same_geometry)
      (after_call sure g v d k told i (step_of c k.current.tally) out.reply.state out.store e.by_store fits _
      (e.whole (observe (seen d)) _ refl i.up.consistent (rw i.up.same_geometry (medium_laws.stored g out.store (seen d) fits))))

  fits_here : (c : Call) → StoreFits g (length (seen d)) (call_outcome c v (observe (seen d))).store
  fits_here c =
      subst (λ (h : Geometry). StoreFits h (length (seen d)) (call_outcome c v (observe (seen d))).store) i.up.same_geometry
      (unfold observe in (call_fits c v (observe (seen d)) (sized (geometry v) (seen d))).1)

  pub call_live : (c : Call) → settles c ≡ false → Comes c (seen d) (call_outcome c v (observe (seen d)))
  call_live c s =
      judged_live c s (call_outcome c v (observe (seen d))) (call_judged i.up c s) (fits_here c)

  -- ---- flushed

  pub flushed_found : flushed_outcome v ≡ flushed_effect v
  unfolding flushed_outcome
  flushed_found = accepted_when (flushed_table v) (λ n. refused v n []) (flushed_effect v) passes
    where
      passes : refusal (flushed_table v) ≡ 0
      passes = unfold refusal flushed_table in rw i.up.consistent.is_sound refl

pub flushed_pending : (sure : Bool) (g : Geometry) (v : Volume) (d : Drives) (k : CachedModel) (told : Option ℕ) (i : Live sure g v d k told)
    → (flushed_outcome v).reply.state.pending ≡ none_pending
unfolding flushed_effect doing with_pending pending_with
flushed_pending sure g v d k told i = rw (flushed_found sure g v d k told i) refl

-- all that calls have seen is down
pub flushed_live : (sure : Bool) (g : Geometry) (v : Volume) (d : Drives) (k : CachedModel) (told : Option ℕ) (i : Live sure g v d k told)
    → Live true g (flushed_outcome v).reply.state
    (cond (accepted (flushed_outcome v).reply.answer) (record { landed = seen d; pending = [] })
    (record { landed = d.landed; pending = also_pending (geometry v) (flushed_outcome v).store d.pending }))
    (model_after (ended flushed (accepted (flushed_outcome v).reply.answer)) k) (later told (reported (flushed_outcome v).reply.answer))
unfolding flushed_effect doing with_pending pending_with none_pending accepted number reported later model_after following settles accepting step_of leaving stepped with_save
flushed_live sure g v d k told i =
    rw (flushed_found sure g v d k told i)
    (live_settled (seen d) refl (up_pending i.up _))

-- ---- restart

pub restart_live : (g : Geometry) (m : List ℕ) (k : CachedModel) (told : Option ℕ) → Down g (observe m) k.current → (landed : List ℕ) (h : Geometry) (stores : List Placed)
    → Live true g (restart_outcome (observe m)).reply.state
    (cond (accepted (restart_outcome (observe m)).reply.answer) (record { landed = m; pending = [] })
    (record { landed = landed; pending = also_pending h (restart_outcome (observe m)).store stores }))
    (model_after (ended restart (accepted (restart_outcome (observe m)).reply.answer)) k) (later told (reported (restart_outcome (observe m)).reply.answer))
unfolding reporting with_pending pending_with none_pending recorded_only with_growth accepted number reported later model_after following settles
restart_live g m k told d landed h stores = rw (restart_found d) (live_settled m refl (up_pending (restart_up d told) _))

-- ---- a cut

pub none_left : (g : Geometry) (store : Store) (stores : List Placed) (left : List AfterCut) → store ≡ no_store → EachMayLeave (placed g store ∷ stores) left → ⊥
none_left g store stores [] e may = unfold EachMayLeave in may
none_left g store stores (l ∷ left) e may = unfold EachMayLeave MayLeave in (subst (λ (t : Store). MayLeave t l) e may.0)

module _ (g : Geometry) (v : Volume) (d : Drives) (k : CachedModel) (told : Option ℕ) (i : Live true g v d k told) where
  left_same : (c : Call) → settles c ≡ false → (left : List AfterCut)
      → after_cut (some c) (cut_left left) k
      ≡ record {
        plain = unset (with_step (step_of c k.current.tally) k).written (left_after (step_of c k.current.tally) k (cut_left left)).plain;
        tally = (left_after (step_of c k.current.tally) k (cut_left left)).tally;
      }
  unfolding after_cut with_call left_model left_after with_step
  left_same c s left = go (cut_left left)
    where
      same : following c k ≡ with_step (step_of c k.current.tally) k
      same = unfold following in rw s refl

      go : (l : CutLeft) → after_cut (some c) l k
          ≡ record {
            plain = unset (with_step (step_of c k.current.tally) k).written (left_after (step_of c k.current.tally) k l).plain;
            tally = (left_after (step_of c k.current.tally) k l).tally;
          }
      go same_record = λ i. record { plain = unset (same i).written k.current.plain; tally = k.current.tally }
      go record_old = λ i. record { plain = unset (same i).written (model_or (same i).before_record k.current).plain; tally = (model_or (same i).before_record k.current).tally }
      go record_new = λ i. record { plain = unset (same i).written (same i).current.plain; tally = (same i).current.tally }

  judged_cut : (c : Call) → settles c ≡ false → (out : Outcome)
      → Judgement g v (observe (seen d)) k.current told (step_of c k.current.tally) out → StoreFits g (length (seen d)) out.store
      → (left : List AfterCut) → EachMayLeave (placed g out.store ∷ d.pending) left
      → Down g (observe (apply_cuts (placed g out.store ∷ d.pending) left d.landed)) (after_cut (some c) (cut_left left) k)
  unfolding refused
  judged_cut c s out (is_refused n piece f) fits left may = absurd (none_left g (refused v n piece).store d.pending left refl may)
  judged_cut c s out (has_effect e) fits left may =
      rw (left_same c s left)
      (cut_in true g v d k told i (step_of c k.current.tally) out.reply.state out.store e.by_store fits _
      (e.whole (observe (seen d)) _ refl i.up.consistent (rw i.up.same_geometry (medium_laws.stored g out.store (seen d) fits))) left may)

  pub cut_call : (c : Call) (left : List AfterCut) → EachMayLeave (placed g (call_outcome c v (observe (seen d))).store ∷ d.pending) left
      → Down g (observe (apply_cuts (placed g (call_outcome c v (observe (seen d))).store ∷ d.pending) left d.landed)) (after_cut (some c) (cut_left left) k)
  cut_call c left may =
      by_test (settles c) (λ s. absurd (none_left g _ d.pending left (settling_stores c v (observe (seen d)) s) may))
      (λ s. judged_cut c s (call_outcome c v (observe (seen d))) (call_judged i.up c s) (fits_here true g v d k told i c) left may)

-- ---- one event

-- restart and flushed are accepted
pub settling_accepted : (sure : Bool) (g : Geometry) (v : Volume) (d : Drives) (k : CachedModel) (told : Option ℕ) → Live sure g v d k told → (c : Call)
    → settles c ≡ true → accepted (call_outcome c v (observe (seen d))).reply.answer ≡ true
unfolding call_outcome settles accepted number reporting flushed_effect doing
settling_accepted sure g v d k told i (grow count) s = absurd (true≢false (sym s))
settling_accepted sure g v d k told i (grow_beyond_doubling count) s = absurd (true≢false (sym s))
settling_accepted sure g v d k told i (copy x) s = absurd (true≢false (sym s))
settling_accepted sure g v d k told i checkpoint s = absurd (true≢false (sym s))
settling_accepted sure g v d k told i advance s = absurd (true≢false (sym s))
settling_accepted sure g v d k told i (write x piece) s = absurd (true≢false (sym s))
settling_accepted sure g v d k told i (read x piece) s = absurd (true≢false (sym s))
settling_accepted sure g v d k told i restart s = rw (restart_found (up_down i.up)) refl
settling_accepted sure g v d k told i flushed s = rw (flushed_found sure g v d k told i) refl

-- what holds from the first flushed on holds as before it
pub weaker : (g : Geometry) (v : Volume) (d : Drives) (k : CachedModel) (told : Option ℕ) → Live true g v d k told → (sure : Bool) → Live sure g v d k told
weaker g v d k told i sure = record { up = i.up; safe = go i.safe }
  where
    go : Safe true g v d k → Safe sure g v d k
    go (not_yet s r) = absurd (true≢false s)
    go (record_pending sector o e r b w n) = record_pending sector o e r b w n
    go (blocks_pending r leaves settled) = blocks_pending r leaves settled

module _ (g : Geometry) (k : CachedModel) (told : Option ℕ) where
  abbrev pub Next : (sure : Bool) (s : System) (e : Event) → Type 0
  Next sure s e = Invariant sure g (after call_outcome s e) (model_after (fed call_outcome s e) k) (heard call_outcome s e told)

  -- the geometry is that of the state
  pub seen_medium : {sure : Bool} (v : Volume) (d : Drives) → Live sure g v d k told → medium_of (up v d) ≡ seen d
  unfolding medium_of memory_of drives_of
  seen_medium v d i = refl

  pub flushed_keeps : (sure : Bool) (v : Volume) (d : Drives) → Live sure g v d k told → Next true (up v d) (runs flushed)
  unfolding after drives_after fed heard outcome memory_of drives_of settles call_outcome
  flushed_keeps sure v d i = rw (seen_medium v d i) (flushed_live sure g v d k told i)

  restart_keeps : (s : System) (m : List ℕ) → medium_of s ≡ m → Down g (observe m) k.current → Next true s (runs restart)
  unfolding after drives_after fed heard outcome settles call_outcome
  restart_keeps s m e d = rw e (restart_live g m k told d _ _ _)

  pub other_keeps : (sure : Bool) (v : Volume) (d : Drives) → Live sure g v d k told → (c : Call) → settles c ≡ false → Next sure (up v d) (runs c)
  unfolding after drives_after fed heard outcome memory_of drives_of
  other_keeps sure v d i c s = rw (seen_medium v d i) (call_live sure g v d k told i c s)

  pub runs_keeps : (sure : Bool) (v : Volume) (d : Drives) → Live sure g v d k told → (c : Call) → Allowed call_outcome (up v d) (runs c)
      → Next sure (up v d) (runs c)
  unfolding Allowed settles after
  runs_keeps sure v d i (grow count) l = other_keeps sure v d i (grow count) refl
  runs_keeps sure v d i (grow_beyond_doubling count) l = other_keeps sure v d i (grow_beyond_doubling count) refl
  runs_keeps sure v d i (copy x) l = other_keeps sure v d i (copy x) refl
  runs_keeps sure v d i checkpoint l = other_keeps sure v d i checkpoint refl
  runs_keeps sure v d i advance l = other_keeps sure v d i advance refl
  runs_keeps sure v d i (write x piece) l = other_keeps sure v d i (write x piece) refl
  runs_keeps sure v d i (read x piece) l = other_keeps sure v d i (read x piece) refl
  runs_keeps sure v d i restart l =
      weaker g _ _ _ _ (restart_keeps (up v d) (seen d) (seen_medium v d i) (up_down i.up)) sure
  runs_keeps sure v d i flushed l = weaker g _ _ _ _ (flushed_keeps sure v d i) sure

  cut_keeps : (v : Volume) (d : Drives) → Live true g v d k told → (c : Option Call) (left : List AfterCut)
      → EachMayLeave (stores_at call_outcome c (up v d)) left → Next true (up v d) (cut c left)
  unfolding after fed heard memory_of medium_of drives_of stores_at outcome model_after nothing_pending
  cut_keeps v d i none left may = (cut_between g v d k told i left may, refl)
  cut_keeps v d i (some c) left may = (rw i.up.same_geometry (cut_call g v d k told i c left (rw i.up.same_geometry at may)), refl)

  down_keeps : (m : List ℕ) → Down g (observe m) k.current → k.written ≡ no_block → (e : Event) → Allowed call_outcome (down m) e → Next true (down m) e
  unfolding Allowed no_block
  down_keeps m d w (runs c) l = rw l (restart_keeps (down m) m (unfold medium_of drives_of apply_all in refl) d)
  down_keeps m d w (cut c left) l = rw (l.0, l.1) (again d w)
    where
      again : Down g (observe m) k.current → k.written ≡ no_block → Next true (down m) (cut none [])
      again d w = unfold after fed heard memory_of drives_of stores_at outcome model_after nothing_pending apply_cuts cut_left after_cut with_call left_model unset in (rw w d, refl)

  pub keeps : (s : System) (e : Event) → Invariant true g s k told → Allowed call_outcome s e → Next true s e
  keeps (up v d) (runs c) i l = runs_keeps true v d i c l
  keeps (up v d) (cut c left) i l = cut_keeps v d i c left (unfold Allowed in l)
  keeps (down m) e i l = down_keeps m i.0 i.1 e l
