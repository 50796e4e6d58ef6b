-- Demand 3: `promise` proves `Promise` of `specs/Promise.antt`.
use Prim.Native.Nat.{ℕ, ◌<◌}
use mathlib.Core.Path.{◌≡◌, refl, sym, ap, ◌∙◌, subst}
use mathlib.Core.Bool.{true, false, false≢true}
use mathlib.Core.Logic.{inl, inr}
use mathlib.Core.List.{List, [], ◌∷◌, ◌++◌}
use mathlib.Core.Option.{Option, none, some}
use lib.ListN.{length}
use borrow.Author.Tests.{le-ltb, lt-leb, eq-eqb}
use Rattle.base.specs.Refusals.{refusal}
use Rattle.layout.specs.Tally.{Mode, not_growing, growing, is_running, Tally, open_blocks, live_spot_of, calls_left_of}
use Rattle.medium.specs.declared.Geometry.{Geometry}
use Rattle.medium.specs.Medium.{Observations, observe, StoreFits, placed, apply_all}
use Rattle.medium.proofs.Theorems.{medium_laws}
use Rattle.volume.specs.declared.Volume.{Volume}
use Rattle.volume.specs.Answers.{number, accepted}
use Rattle.volume.specs.Calls.{Outcome, refused, doing, too_short, format_table, format_effect, format_outcome, read_table, read_effect, read_outcome}
use Rattle.volume.specs.States.{geometry, tally_of, pending_with, with_pending, new_state, zeros}
use Rattle.volume.proofs.Judged.{judged_cases}
use Rattle.volume.proofs.StoresFit.{format_fits}
use Rattle.promise.specs.Calls.{Call, advance, read, restart, flushed, settles, is_advance}
use Rattle.promise.specs.Lists.{call_outcome, Event, runs, cut, Drives, System, up, down, medium_of, memory_of, outcome, is_accepted, after, Allowed, fed, heard, after_all, NoEarlyCut, Lawful, fed_all, last_reported, IsUp, AllFurther, finished_told}
use Rattle.promise.specs.Model.{leaving, step_of, Model, start_model, CachedModel, nothing_pending, model_after, modelled}
use Rattle.promise.specs.Promise.{Start, formatted, begin, system_after, model_of, ReadRight, Finishing, Promise}
use Rattle.promise.proofs.StateTallies.{tally_new}
use Rattle.promise.proofs.Consistent.{consistent_new}
use Rattle.promise.proofs.Steps.{Up, up_pending}
use Rattle.promise.proofs.PendingStores.{seen, Live, not_yet}
use Rattle.promise.proofs.EventSteps.{Invariant, Next, weaker, seen_medium, flushed_pending, flushed_keeps, runs_keeps, keeps}
use Rattle.promise.proofs.FurtherCalls.{Ending, state_grows, ending, quiet_by, advance_after_flushed}

-- ---- whether a growth runs

pub running_grows : (mode : Mode) → is_running mode ≡ true → mode ≡ growing
running_grows not_growing e = absurd (false≢true e)
running_grows growing e = refl

pub grows_running : {mode : Mode} → mode ≡ growing → is_running mode ≡ true
grows_running e = rw e refl

pub rests_not_running : {mode : Mode} → mode ≡ not_growing → is_running mode ≡ false
rests_not_running e = rw e refl

-- ---- lists

module _ (calls : (c : Call) (v : Volume) (o : Observations) → Outcome) where
  pub lawful_before : (s : System) (es rest : List Event) → Lawful calls s (es ++ rest) → Lawful calls s es
  unfolding Lawful
  lawful_before s [] rest l = tt
  lawful_before s (e ∷ es) rest l = (l.0, lawful_before (after calls s e) es rest l.1)

  pub lawful_rest : (s : System) (es rest : List Event) → Lawful calls s (es ++ rest) → Lawful calls (after_all calls s es) rest
  unfolding Lawful after_all
  lawful_rest s [] rest l = l
  lawful_rest s (e ∷ es) rest l = lawful_rest (after calls s e) es rest l.1

  pub modelled_append : (s : System) (k : CachedModel) (es rest : List Event)
      → modelled (fed_all calls s (es ++ rest)) k ≡ modelled (fed_all calls (after_all calls s es) rest) (modelled (fed_all calls s es) k)
  unfolding modelled fed_all after_all
  modelled_append s k [] rest = refl
  modelled_append s k (e ∷ es) rest = modelled_append (after calls s e) (model_after (fed calls s e) k) es rest

-- from the first flushed on
pub keeps_all : (g : Geometry) (s : System) (k : CachedModel) (told : Option ℕ) (es : List Event) → Invariant true g s k told → Lawful call_outcome s es
    → Invariant true g (after_all call_outcome s es) (modelled (fed_all call_outcome s es) k) (last_reported call_outcome s es told)
unfolding after_all modelled fed_all last_reported Lawful
keeps_all g s k told [] i l = i
keeps_all g s k told (e ∷ es) i l = keeps_all g (after call_outcome s e) (model_after (fed call_outcome s e) k) (heard call_outcome s e told) es (keeps g k told s e i l.0) l.1

pub weaker_all : (g : Geometry) (s : System) (k : CachedModel) (told : Option ℕ) → Invariant true g s k told → Invariant false g s k told
weaker_all g (up v d) k told i = weaker g v d k told i false
weaker_all g (down m) k told i = i

-- and from format on, with no cut before it
keeps_early : (g : Geometry) (v : Volume) (d : Drives) (k : CachedModel) (told : Option ℕ) (es : List Event) → Live false g v d k told
    → Lawful call_outcome (up v d) es → NoEarlyCut es
    → Invariant false g (after_all call_outcome (up v d) es) (modelled (fed_all call_outcome (up v d) es) k) (last_reported call_outcome (up v d) es told)
unfolding after_all modelled fed_all last_reported Lawful NoEarlyCut after
keeps_early g v d k told [] i l early = i
keeps_early g v d k told (cut c left ∷ es) i l early = absurd early
keeps_early g v d k told (runs c ∷ es) i l (inl e) =
    let s = after call_outcome (up v d) (runs c) in
    let k1 = model_after (fed call_outcome (up v d) (runs c)) k in
    let told1 = heard call_outcome (up v d) (runs c) told in
    weaker_all g (after_all call_outcome s es) (modelled (fed_all call_outcome s es) k1) (last_reported call_outcome s es told1) (keeps_all g s k1 told1 es (first c e) l.1)
  where
    first : (c : Call) → c ≡ flushed → Next g k told true (up v d) (runs c)
    first c e = subst (λ (c : Call). Next g k told true (up v d) (runs c)) (sym e) (flushed_keeps g k told false v d i)
keeps_early g v d k told (runs c ∷ es) i l (inr early) = keeps_early g (outcome call_outcome c (up v d)).reply.state _ _ _ es (runs_keeps g k told false v d i c l.0) l.1 early

pub early_before : (es rest : List Event) → NoEarlyCut (es ++ rest) → NoEarlyCut es
unfolding NoEarlyCut
early_before [] rest early = tt
early_before (runs c ∷ es) rest (inl e) = inl e
early_before (runs c ∷ es) rest (inr early) = inr (early_before es rest early)
early_before (cut c left ∷ es) rest early = early

-- ---- format

module _ (a : Start) where
  abbrev pub start_geometry : Geometry
  start_geometry = record { size = a.size; rows = a.rows }

  -- what holds of a format that is accepted: its record is pending
  abbrev Starts : (out : Outcome) → Type 0
  Starts out =
      StoreFits start_geometry (length a.medium) out.store → accepted out.reply.answer ≡ true
      → Live false start_geometry out.reply.state (record { landed = a.medium; pending = placed (geometry out.reply.state) out.store ∷ [] }) (nothing_pending (start_model a.rows a.disks)) none

  format_starts : Starts (format_outcome a.size a.rows a.disks (observe a.medium))
  unfolding format_outcome format_effect doing refused accepted number start_model nothing_pending new_state geometry apply_all with_pending pending_with
  format_starts =
      judged_cases Starts (format_table a.size a.rows a.disks (observe a.medium).byte_count) (λ n. refused zeros n []) _
      (λ e fits ok.
      record {
        up =
            up_pending
            (record {
              consistent = consistent_new a.size a.rows a.disks (observe a.medium) _ e (medium_laws.stored start_geometry _ a.medium fits);
              same_tally = sym (tally_new a.size a.rows a.disks);
              same_geometry = refl;
              calls_told = λ on. absurd (on refl);
            }) _;
        safe = not_yet refl refl;
      })
      (λ f fits ok. cc)

  pub start : accepted (formatted a).reply.answer ≡ true
      → Live false start_geometry (formatted a).reply.state (record { landed = a.medium; pending = placed (geometry (formatted a).reply.state) (formatted a).store ∷ [] }) (nothing_pending (start_model a.rows a.disks)) none
  unfolding formatted observe
  start = format_starts (format_fits a.size a.rows a.disks (observe a.medium)).1

-- ---- a read of an open block into a piece of its size

module _ {g : Geometry} {v : Volume} {o : Observations} {k : Model} {told : Option ℕ} (u : Up g v o k told) (x : ℕ) (piece : List ℕ)
    (below : x < k.plain.blocks) (whole : length piece ≡ g.size) where
  pub block_open : x < open_blocks (tally_of v)
  block_open = rw (sym u.consistent.same_open) below

  pub piece_whole : length piece ≡ v.size
  unfolding geometry
  piece_whole = whole ∙ ap (λ (h : Geometry). h.size) (sym u.same_geometry)

  pub read_passes : refusal (read_table v x (length piece) o.byte_count) ≡ 0
  unfolding refusal read_table too_short
  read_passes =
      rw (u.consistent.is_sound, le-ltb _ _ u.consistent.room, lt-leb _ _ block_open, eq-eqb (length piece) v.size piece_whole)

  -- what holds of an accepted read holds
  of_read : (P : Outcome → Type 0)
      → P (read_effect v x o)
      → P (read_outcome v x piece o)
  unfolding read_outcome
  of_read P holds =
      judged_cases P (read_table v x (length piece) o.byte_count) (λ n. refused v n piece) _ (λ _. holds) (λ f. absurd (f read_passes))

  pub stands_live : (b : List ℕ) → k.plain.bytes x ≡ some b → o.bytes_at (geometry v) (live_spot_of (tally_of v) x) ≡ b
  stands_live b e = (u.consistent.held.stands x b block_open e).at_live

-- ---- what the invariant says of a system

pub read_after : (g : Geometry) (s : System) (k : CachedModel) (told : Option ℕ) → Invariant false g s k told → (x : ℕ) (piece : List ℕ) → Allowed call_outcome s (runs (read x piece))
    → x < k.current.plain.blocks → length piece ≡ g.size
    → (is_accepted call_outcome (read x piece) s ≡ true)
    × ((b : List ℕ) → k.current.plain.bytes x ≡ some b → (outcome call_outcome (read x piece) s).piece ≡ b)
    × ((b : List ℕ) → k.current.plain.bytes x ≡ some b → (observe (medium_of s)).bytes_at g (live_spot_of k.current.tally x) ≡ b)
unfolding outcome memory_of call_outcome Allowed accepted number read_effect doing
read_after g (up v d) k told i x piece l below whole =
    let u = i.up in
    rw (seen_medium g k told v d i) (
      of_read u x piece below whole (λ out. accepted out.reply.answer ≡ true) refl,
      λ b e. of_read u x piece below whole (λ out. out.piece ≡ b) (stands_live u x piece below whole b e),
      λ b e.
          subst (λ (h : Geometry). (observe (seen d)).bytes_at h (live_spot_of k.current.tally x) ≡ b) u.same_geometry
          (rw u.same_tally (stands_live u x piece below whole b e)),
    )
read_after g (down m) k told d x piece l below whole = absurd (not_restart l)
  where
    not_restart : read x piece ≡ restart → ⊥
    not_restart e = false≢true (unfold settles in ap settles e)

pub left_after : (g : Geometry) (s : System) (k : CachedModel) (told : Option ℕ) → Invariant false g s k told → IsUp s → k.current.tally.mode ≡ growing
    → told ≡ some (calls_left_of k.current.tally)
unfolding IsUp
left_after g (up v d) k told i is_up on = rw i.up.same_tally (i.up.calls_told (state_grows i.up on))
left_after g (down m) k told i is_up on = absurd is_up

pub ending_after : (g : Geometry) (s : System) (k : CachedModel) (told : Option ℕ) → Invariant false g s k told → IsUp s → k.current.tally.mode ≡ growing
    → (es : List Event) → AllFurther call_outcome s es
    → Ending (finished_told call_outcome s es) (modelled (fed_all call_outcome s es) k).current.tally.mode (calls_left_of k.current.tally)
unfolding IsUp
ending_after g (up v d) k told i is_up on es f = ending es false g v d k told i on f
ending_after g (down m) k told i is_up on es f = absurd is_up

pub advances_after : (g : Geometry) (s : System) (k : CachedModel) (told : Option ℕ) → Invariant false g s k told → IsUp s → k.current.tally.mode ≡ growing
    → is_accepted call_outcome advance (after call_outcome s (runs flushed)) ≡ true
unfolding IsUp after outcome call_outcome memory_of
advances_after g (up v d) k told i is_up on =
    let j = flushed_keeps g k told false v d i in
    let kept = (quiet_by call_outcome (up v d) flushed (unfold is_advance in refl) (λ t. unfold step_of leaving in refl)).tally_kept k in
    advance_after_flushed g _ _ _ _ j (ap (λ (t : Tally). t.mode) kept ∙ on) (flushed_pending false g v d k told i)
advances_after g (down m) k told i is_up on = absurd is_up

-- ---- demand 3

module _ (a : Start) where
  abbrev pub start_cached : CachedModel
  start_cached = nothing_pending (start_model a.rows a.disks)

  abbrev pub cached_after : (es : List Event) → CachedModel
  cached_after es = modelled (fed_all call_outcome (begin a) es) start_cached

module _ (a : Start) (ok : accepted (formatted a).reply.answer ≡ true) where
  pub invariant_after : (es : List Event) → Lawful call_outcome (begin a) es → NoEarlyCut es
      → Invariant false (start_geometry a) (system_after call_outcome a es) (cached_after a es) (last_reported call_outcome (begin a) es none)
  unfolding system_after begin
  invariant_after es l early = keeps_early (start_geometry a) _ _ (start_cached a) none es (start a ok) l early

  read_right : (before rest : List Event) (x : ℕ) (piece : List ℕ) → Lawful call_outcome (begin a) (before ++ (runs (read x piece) ∷ rest))
      → NoEarlyCut (before ++ (runs (read x piece) ∷ rest))
      → x < (model_of call_outcome a before).plain.blocks → length piece ≡ a.size → ReadRight call_outcome a before x piece
  unfolding Lawful system_after model_of
  read_right before rest x piece l early below whole =
      let i = invariant_after before (lawful_before call_outcome (begin a) before (runs (read x piece) ∷ rest) l) (early_before before _ early) in
      let allowed = (lawful_rest call_outcome (begin a) before (runs (read x piece) ∷ rest) l).0 in
      let r = read_after (start_geometry a) (system_after call_outcome a before) (cached_after a before) _ i x piece allowed below whole in
      record { is_accepted_law = r.0; bytes_read = r.1; bytes_stand = r.2 }

finishing : (a : Start) (es further : List Event) (n : ℕ)
    → Ending (finished_told call_outcome (system_after call_outcome a es) further) (modelled (fed_all call_outcome (system_after call_outcome a es) further) (cached_after a es)).current.tally.mode n
    → Finishing call_outcome a es further n
unfolding system_after model_of
finishing a es further n f =
    let joined : model_of call_outcome a (es ++ further) ≡ (modelled (fed_all call_outcome (system_after call_outcome a es) further) (cached_after a es)).current =
    ap (λ (k : CachedModel). k.current) (modelled_append call_outcome (begin a) _ es further) in
    record {
      still_runs = λ l. grows_running (ap (λ (k : Model). k.tally.mode) joined ∙ f.still_runs l);
      none_told = f.none_told;
      finished = λ l. rests_not_running (ap (λ (k : Model). k.tally.mode) joined ∙ f.finished l);
      last_told = f.last_told;
    }

pub promise : Promise
unfolding model_of
promise a ok es l early =
    let i = invariant_after a ok es l early in
    record {
      reads = λ before rest x piece e below whole. read_right a ok before rest x piece (subst (Lawful call_outcome (begin a)) e l) (subst NoEarlyCut e early) below whole;
      calls_left_law = λ is_up on. left_after (start_geometry a) (system_after call_outcome a es) (cached_after a es) _ i is_up (running_grows _ on);
      finishes = λ is_up on further f.
          finishing a es further _ (ending_after (start_geometry a) (system_after call_outcome a es) (cached_after a es) _ i is_up (running_grows _ on) further f);
      advances = λ is_up on. advances_after (start_geometry a) (system_after call_outcome a es) (cached_after a es) _ i is_up (running_grows _ on);
    }
