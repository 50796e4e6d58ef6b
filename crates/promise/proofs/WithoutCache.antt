-- Document 01's demand 3 from `promise`: `promise_without_cache` proves `PromiseWithoutCache` of `specs/WithoutCache.antt`.
use Prim.Native.Nat.{ℕ}
use mathlib.Core.Path.{◌≡◌, refl, sym, ap, ◌∙◌}
use mathlib.Core.Bool.{true, false}
use mathlib.Core.List.{List, [], ◌∷◌, ◌++◌}
use mathlib.Core.Logic.{inl}
use mathlib.Core.Option.{Option, none, some}
use native.Mathlib.Omega.{arith}
use lib.ListN.{length}
use Rattle.layout.specs.Tally.{Tally, growing, is_running, calls_left_of}
use Rattle.medium.specs.declared.Geometry.{Geometry}
use Rattle.volume.specs.declared.Volume.{Volume}
use Rattle.volume.specs.Answers.{accepted}
use Rattle.volume.specs.States.{none_pending}
use Rattle.promise.specs.Calls.{Call, advance, write, read, flushed, settles, is_advance}
use Rattle.promise.specs.Lists.{call_outcome, Event, runs, cut, Drives, System, up, down, memory_of, outcome, after, fed, heard, after_all, NoEarlyCut, Lawful, fed_all, last_reported, IsUp}
use Rattle.promise.specs.Model.{leaving, saving, step_of, Model, CachedModel, model_after, modelled}
use Rattle.promise.specs.Promise.{Start, formatted, begin, system_after, model_of}
use Rattle.promise.specs.WithoutCache.{DirectEvent, ends as whole, fails, flushed_after, from_format, system_without, model_without, DirectFurther, no_call, an_advance, a_write, a_read, advances_told, DirectFinishing, PromiseWithoutCache}
use Rattle.promise.proofs.CallsCounted.{in_window, left_positive, goes_on, ends, advance_step_law}
use Rattle.promise.proofs.PendingStores.{Live}
use Rattle.promise.proofs.EventSteps.{Invariant, flushed_pending, flushed_keeps, other_keeps, keeps}
use Rattle.promise.proofs.FurtherCalls.{Ending, ending_none, ending_more, ending_last, tally_runs, quiet_by, advance_after_flushed, advanced_tally, event_told}
use Rattle.promise.proofs.Theorem.{running_grows, grows_running, rests_not_running, modelled_append, keeps_all, start_geometry, start_cached, cached_after, start, promise}

-- ---- lists

pub flushed_append : (es fs : List DirectEvent) → flushed_after (es ++ fs) ≡ flushed_after es ++ flushed_after fs
unfolding flushed_after
flushed_append [] fs = refl
flushed_append (whole c ∷ es) fs = ap (λ (l : List Event). runs c ∷ runs flushed ∷ l) (flushed_append es fs)
flushed_append (fails c left ∷ es) fs = ap (λ (l : List Event). cut (some c) (left ∷ []) ∷ l) (flushed_append es fs)

pub from_append : (es fs : List DirectEvent) → from_format (es ++ fs) ≡ from_format es ++ flushed_after fs
unfolding from_format
from_append es fs = ap (λ (l : List Event). runs flushed ∷ l) (flushed_append es fs)

-- ---- nothing is pending after a list that does not end in a cut

abbrev Flushed : (s : System) → Type 0
Flushed (up v d) = v.pending ≡ none_pending
Flushed (down m) = Unit {0}

flushed_all : (g : Geometry) (s : System) (k : CachedModel) (told : Option ℕ) (es : List DirectEvent) → Invariant true g s k told → Flushed s
    → Lawful call_outcome s (flushed_after es) → Flushed (after_all call_outcome s (flushed_after es))
unfolding flushed_after after_all Lawful after
flushed_all g s k told [] i f l = f
flushed_all g s k told (whole c ∷ es) i f l =
    let s1 = after call_outcome s (runs c) in
    let k1 = model_after (fed call_outcome s (runs c)) k in
    let told1 = heard call_outcome s (runs c) told in
    let i1 : Invariant true g s1 k1 told1 = keeps g k told s (runs c) i l.0 in
    flushed_all g (after call_outcome s1 (runs flushed)) _ _ es (keeps g k1 told1 s1 (runs flushed) i1 l.1.0) (emptied i1) l.1.1
  where
    emptied : {v : Volume} {d : Drives} {k : CachedModel} {told : Option ℕ} → Live true g v d k told → Flushed (after call_outcome (up v d) (runs flushed))
    emptied {v = v} {d = d} {k = k} {told = told} i = unfold after outcome memory_of call_outcome in flushed_pending true g v d k told i
flushed_all g s k told (fails c left ∷ es) i f l =
    let e : Event = cut (some c) (left ∷ []) in
    flushed_all g (after call_outcome s e) (model_after (fed call_outcome s e) k) (heard call_outcome s e told) es (keeps g k told s e i l.0) tt l.1

-- ---- advances, each directly after flushed

abbrev after_both : (s : System) (c : Call) → System
after_both s c = after call_outcome (after call_outcome s (runs c)) (runs flushed)

abbrev model_both : (s : System) (c : Call) (k : CachedModel) → CachedModel
model_both s c k = model_after (fed call_outcome (after call_outcome s (runs c)) (runs flushed)) (model_after (fed call_outcome s (runs c)) k)

flushed_keeps_tally : (s : System) (k : CachedModel) → (model_after (fed call_outcome s (runs flushed)) k).current.tally ≡ k.current.tally
flushed_keeps_tally s k = (quiet_by call_outcome s flushed (unfold is_advance in refl) (λ t. unfold step_of leaving in refl)).tally_kept k

write_keeps_tally : (s : System) (x : ℕ) (piece : List ℕ) (k : CachedModel) → (model_after (fed call_outcome s (runs (write x piece))) k).current.tally ≡ k.current.tally
write_keeps_tally s x piece k = (quiet_by call_outcome s (write x piece) (unfold is_advance in refl) (λ t. unfold step_of saving in refl)).tally_kept k

read_keeps_tally : (s : System) (x : ℕ) (piece : List ℕ) (k : CachedModel) → (model_after (fed call_outcome s (runs (read x piece))) k).current.tally ≡ k.current.tally
read_keeps_tally s x piece k = (quiet_by call_outcome s (read x piece) (unfold is_advance in refl) (λ t. unfold step_of leaving in refl)).tally_kept k

-- with no advance the tally stays
none_advanced : {further : List DirectEvent} → DirectFurther further → (s : System) (k : CachedModel) → length (advances_told call_outcome s further) ≡ 0
    → (modelled (fed_all call_outcome s (flushed_after further)) k).current.tally ≡ k.current.tally
unfolding advances_told flushed_after modelled fed_all after_all is_advance
none_advanced no_call s k z = refl
none_advanced (an_advance f) s k z = absurd (omega arith)
none_advanced (a_write {x = x} {piece = piece} f) s k z =
    none_advanced f (after_both s (write x piece)) (model_both s (write x piece) k) z ∙ flushed_keeps_tally _ _ ∙ write_keeps_tally s x piece k
none_advanced (a_read {x = x} {piece = piece} f) s k z =
    none_advanced f (after_both s (read x piece)) (model_both s (read x piece) k) z ∙ flushed_keeps_tally _ _ ∙ read_keeps_tally s x piece k

-- a call that is not restart or flushed, and flushed after it
both_keep : (g : Geometry) (v : Volume) (d : Drives) (k : CachedModel) (told : Option ℕ) → Live true g v d k told → (c : Call) → settles c ≡ false
    → Invariant true g (after_both (up v d) c) (model_both (up v d) c k) (heard call_outcome (after call_outcome (up v d) (runs c)) (runs flushed) (heard call_outcome (up v d) (runs c) told))
    × Flushed (after_both (up v d) c)
unfolding after outcome memory_of call_outcome
both_keep g v d k told i c s =
    let j = other_keeps g k told true v d i c s in (
      flushed_keeps g _ _ true _ _ j,
      flushed_pending true g _ _ _ _ j,
    )

direct_ending : {further : List DirectEvent} → DirectFurther further → (g : Geometry) (v : Volume) (d : Drives) (k : CachedModel) (told : Option ℕ)
    → Live true g v d k told → v.pending ≡ none_pending → k.current.tally.mode ≡ growing
    → Ending (advances_told call_outcome (up v d) further) (modelled (fed_all call_outcome (up v d) (flushed_after further)) k).current.tally.mode (calls_left_of k.current.tally)
unfolding advances_told flushed_after modelled fed_all after_all is_advance after
direct_ending no_call g v d k told i clear on = ending_none on (left_positive k.current.tally (in_window (tally_runs i.up on)))
direct_ending (an_advance f) g v d k told i clear on =
    let a = advance_after_flushed g v d k told i on clear in
    let j = both_keep g v d k told i advance (unfold settles in refl) in
    let next = model_both (up v d) advance k in
    let same : next.current.tally ≡ (step_of advance k.current.tally).tally = flushed_keeps_tally _ _ ∙ advanced_tally call_outcome (up v d) k a in
    let told_it = event_told true g v d k told i on a in
    elim (advance_step_law k.current.tally (in_window (tally_runs i.up on))) [
      | goes_on mode finish left ↦
          let still : next.current.tally.mode ≡ growing = ap (λ (t : Tally). t.mode) same ∙ mode in
          rw (left, sym same, told_it ∙ finish) (ending_more (left_positive next.current.tally (in_window (tally_runs j.0.up still))) (direct_ending f g _ _ next _ j.0 j.1 still))
      | ends mode finish left ↦
          rw (left, told_it ∙ finish) (ending_last (λ z. ap (λ (t : Tally). t.mode) (none_advanced f (after_both (up v d) advance) next z ∙ same) ∙ mode))
    ]
direct_ending (a_write {x = x} {piece = piece} f) g v d k told i clear on =
    let j = both_keep g v d k told i (write x piece) (unfold settles in refl) in
    let same : (model_both (up v d) (write x piece) k).current.tally ≡ k.current.tally = flushed_keeps_tally _ _ ∙ write_keeps_tally (up v d) x piece k in
    rw (ap calls_left_of (sym same)) (direct_ending f g _ _ (model_both (up v d) (write x piece) k) _ j.0 j.1 (ap (λ (t : Tally). t.mode) same ∙ on))
direct_ending (a_read {x = x} {piece = piece} f) g v d k told i clear on =
    let j = both_keep g v d k told i (read x piece) (unfold settles in refl) in
    let same : (model_both (up v d) (read x piece) k).current.tally ≡ k.current.tally = flushed_keeps_tally _ _ ∙ read_keeps_tally (up v d) x piece k in
    rw (ap calls_left_of (sym same)) (direct_ending f g _ _ (model_both (up v d) (read x piece) k) _ j.0 j.1 (ap (λ (t : Tally). t.mode) same ∙ on))

ending_from : (g : Geometry) (s : System) (k : CachedModel) (told : Option ℕ) → Invariant true g s k told → Flushed s → IsUp s → k.current.tally.mode ≡ growing
    → {further : List DirectEvent} → DirectFurther further
    → Ending (advances_told call_outcome s further) (modelled (fed_all call_outcome s (flushed_after further)) k).current.tally.mode (calls_left_of k.current.tally)
unfolding IsUp
ending_from g (up v d) k told i clear is_up on f = direct_ending f g v d k told i clear on
ending_from g (down m) k told i clear is_up on f = absurd is_up

-- ---- demand 3 of document 01

module _ (a : Start) (ok : accepted (formatted a).reply.answer ≡ true) (es : List DirectEvent) (l : Lawful call_outcome (begin a) (from_format es)) where
  abbrev first : System
  first = after call_outcome (begin a) (runs flushed)

  abbrev first_model : CachedModel
  first_model = model_after (fed call_outcome (begin a) (runs flushed)) (start_cached a)

  abbrev first_heard : Option ℕ
  first_heard = heard call_outcome (begin a) (runs flushed) none

  first_keeps : Invariant true (start_geometry a) first first_model first_heard × Flushed first
  unfolding begin after outcome memory_of call_outcome
  first_keeps = (flushed_keeps (start_geometry a) (start_cached a) none false _ _ (start a ok), flushed_pending false (start_geometry a) _ _ _ _ (start a ok))

  all_keep : Invariant true (start_geometry a) (system_without call_outcome a es) (cached_after a (from_format es)) (last_reported call_outcome first (flushed_after es) first_heard)
  unfolding system_after from_format after_all modelled fed_all Lawful
  all_keep = keeps_all (start_geometry a) first first_model first_heard (flushed_after es) first_keeps.0 l.1

  all_flushed : Flushed (system_without call_outcome a es)
  unfolding system_after from_format after_all Lawful
  all_flushed = flushed_all (start_geometry a) first first_model first_heard es first_keeps.0 first_keeps.1 l.1

  early : NoEarlyCut (from_format es)
  unfolding from_format NoEarlyCut
  early = inl refl

  finishing : IsUp (system_without call_outcome a es) → is_running (model_without call_outcome a es).tally.mode ≡ true → (further : List DirectEvent) → DirectFurther further
      → DirectFinishing call_outcome a es further (calls_left_of (model_without call_outcome a es).tally)
  unfolding model_of system_after
  finishing is_up on further f =
      let e = ending_from (start_geometry a) (system_without call_outcome a es) (cached_after a (from_format es)) _ all_keep all_flushed is_up (running_grows _ on) f in
      let joined : model_without call_outcome a (es ++ further) ≡ (modelled (fed_all call_outcome (system_without call_outcome a es) (flushed_after further)) (cached_after a (from_format es))).current =
      ap (model_of call_outcome a) (from_append es further) ∙ ap (λ (k : CachedModel). k.current) (modelled_append call_outcome (begin a) (start_cached a) (from_format es) (flushed_after further)) in
      record {
        still_runs = λ n. grows_running (ap (λ (k : Model). k.tally.mode) joined ∙ e.still_runs n);
        none_told = e.none_told;
        finished = λ n. rests_not_running (ap (λ (k : Model). k.tally.mode) joined ∙ e.finished n);
        last_told = e.last_told;
      }

pub promise_without_cache : PromiseWithoutCache
unfolding flushed_after
promise_without_cache a ok es l =
    let k = promise a ok (from_format es) l (early a ok es l) in
    record {
      reads = λ before rest x piece e. k.reads (from_format before) (runs flushed ∷ flushed_after rest) x piece (ap from_format e ∙ from_append before (whole (read x piece) ∷ rest));
      calls_left_law = k.calls_left_law;
      finishes = finishing a ok es l;
    }
