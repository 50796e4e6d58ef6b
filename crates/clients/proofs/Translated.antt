-- A list of the stations' calls is the list of the volume's own calls without those that 21 refuses.
use Prim.Native.Nat.{ℕ}
use mathlib.Core.Path.{◌≡◌, refl, sym, ap, ◌∙◌, subst}
use mathlib.Core.Bool.{Bool, true, false, cond, true≢false, false≢true}
use mathlib.Core.List.{List, [], ◌∷◌, ◌++◌}
use mathlib.Core.Logic.{◌⊎◌, inl, inr}
use mathlib.Core.Option.{Option, none, some}
use Rattle.base.proofs.Booleans.{by_test}
use Rattle.medium.specs.declared.Geometry.{Geometry}
use Rattle.medium.specs.Medium.{Observations, observe, no_store, AfterCut, placed, also_pending, EachMayLeave}
use Rattle.volume.specs.declared.Volume.{Volume}
use Rattle.volume.specs.Answers.{accepted, number}
use Rattle.volume.specs.Calls.{Outcome, refused}
use Rattle.volume.specs.Sound.{sound}
use Rattle.volume.specs.States.{geometry}
use Rattle.promise.specs.Calls.{Call, write, read, restart, flushed, settles}
use Rattle.promise.specs.Lists.{call_outcome, Event, runs, cut, System, up, down, drives_of, memory_of, medium_of, NoEarlyCut, outcome, is_accepted, drives_after, stores_at, after, Allowed, fed, after_all, Lawful, fed_all}
use Rattle.promise.specs.Model.{CachedModel, model_after, modelled}
use Rattle.promise.proofs.EventSteps.{Invariant, none_left}
use Rattle.spans.specs.declared.Spans.{Spans}
use Rattle.spans.specs.Spans.{allowed}
use Rattle.clients.specs.Stations.{rack_call, StationCall, by_rack, reads, writes, call_of, station_outcome, StationEvent, ends, fails, event_of, events_of, calls_of, after_station, after_stations, LawfulStations, fed_stations}
use Rattle.clients.specs.OwnCalls.{kept_call, kept, kept_all}
use Rattle.clients.proofs.ClientSpans.{read_own, write_own, read_21, write_21}
use Rattle.clients.proofs.Systems.{Ready, ready_now, ready_next}

-- ---- the volume's own call, or 21

data OwnOr21 (t : Spans) (c : StationCall) (v : Volume) (o : Observations) : Type 0 where
  own : station_outcome t c v o ≡ call_outcome (call_of c) v o → kept_call t c ≡ runs (call_of c) ∷ [] → OwnOr21 t c v o
  is_21 : (piece : List ℕ) → station_outcome t c v o ≡ refused v 21 piece → kept_call t c ≡ [] → settles (call_of c) ≡ false → OwnOr21 t c v o

own_or_21 : (t : Spans) (c : StationCall) (v : Volume) (o : Observations) → sound v ≡ true → OwnOr21 t c v o
unfolding station_outcome call_of call_outcome kept_call settles
own_or_21 t (by_rack c) v o s = own refl refl
own_or_21 t (reads k x piece) v o s =
    by_test (allowed t k x) (λ e. own (read_own t k v x piece o e) (rw e refl)) (λ e. is_21 piece (read_21 t k v x piece o s e) (rw e refl) refl)
own_or_21 t (writes k x piece) v o s =
    by_test (allowed t k x) (λ e. own (write_own t k v x piece o e) (rw e refl)) (λ e. is_21 piece (write_21 t k v x piece o s e) (rw e refl) refl)

-- ---- one event

data Translated (t : Spans) (s : System) (e : StationEvent) : Type 0 where
  is_kept : kept t e ≡ event_of e ∷ [] → after_station (station_outcome t) s e ≡ after call_outcome s (event_of e)
      → fed (calls_of (station_outcome t) e) s (event_of e) ≡ fed call_outcome s (event_of e) → Allowed call_outcome s (event_of e) → Translated t s e
  is_dropped : kept t e ≡ [] → after_station (station_outcome t) s e ≡ s → ((k : CachedModel) → model_after (fed (calls_of (station_outcome t) e) s (event_of e)) k ≡ k) → Translated t s e

module _ (calls other : (c : Call) (v : Volume) (o : Observations) → Outcome) (c : Call) where
  runs_same : (s : System) → outcome calls c s ≡ outcome other c s → after calls s (runs c) ≡ after other s (runs c)
  unfolding after drives_after
  runs_same s e = rw e refl

  fed_same : (s : System) → outcome calls c s ≡ outcome other c s → fed calls s (runs c) ≡ fed other s (runs c)
  unfolding fed
  fed_same s e = rw e refl

  allowed_same : (s : System) → Allowed calls s (runs c) → Allowed other s (runs c)
  unfolding Allowed
  allowed_same (up v d) l = l
  allowed_same (down m) l = l

  cut_same : (left : List AfterCut) (s : System) → outcome calls c s ≡ outcome other c s → after calls s (cut (some c) left) ≡ after other s (cut (some c) left)
  unfolding after stores_at
  cut_same left s e = rw e refl

  cut_allowed : (left : List AfterCut) (s : System) → outcome calls c s ≡ outcome other c s → Allowed calls s (cut (some c) left) → Allowed other s (cut (some c) left)
  unfolding Allowed stores_at
  cut_allowed left (up v d) e l =
      subst (λ (out : Outcome). EachMayLeave (placed (geometry (memory_of (up v d))) out.store ∷ (drives_of (up v d)).pending) left) e l
  cut_allowed left (down m) e l = l

-- a call refused with 21 changes nothing
pub refused_same : (calls : (c : Call) (v : Volume) (o : Observations) → Outcome) (c : Call) (s : System) (v : Volume) (piece : List ℕ) → settles c ≡ false
    → outcome calls c s ≡ refused v 21 piece
    → (is_accepted calls c s ≡ false) × (drives_after calls c s ≡ drives_of s) × ((outcome calls c s).reply.state ≡ v) × ((outcome calls c s).store ≡ no_store)
unfolding drives_after
refused_same calls c s v piece still e = rw (e, still) (unfold refused accepted number also_pending in (refl, refl, refl, refl))

module _ (t : Spans) (g : Geometry) where
  translated : (s : System) (k : CachedModel) (told : Option ℕ) → Invariant false g s k told → (e : StationEvent) → Allowed (calls_of (station_outcome t) e) s (event_of e)
      → Translated t s e
  translated (up v d) k told i (ends c) l = by (own_or_21 t c v (observe (medium_of (up v d))) i.up.consistent.is_sound)
    where
      by : OwnOr21 t c v (observe (medium_of (up v d))) → Translated t (up v d) (ends c)
      by (own e q) =
          unfold kept event_of calls_of after_station in
          is_kept q (runs_same (λ _. station_outcome t c) call_outcome (call_of c) (up v d) (unfold outcome memory_of in e))
          (fed_same (λ _. station_outcome t c) call_outcome (call_of c) (up v d) (unfold outcome memory_of in e))
          (allowed_same (λ _. station_outcome t c) call_outcome (call_of c) (up v d) (unfold event_of calls_of in l))
      by (is_21 piece e q still) =
          let r = refused_same (λ _. station_outcome t c) (call_of c) (up v d) v piece still (unfold outcome memory_of in e) in
          unfold kept event_of calls_of after_station in
          is_dropped q (unfold after in rw (r.1, r.2) (unfold drives_of in refl)) (λ k. unfold fed in rw r.0 (unfold model_after in refl))
  translated (up v d) k told i (fails none left) l = unfold kept event_of calls_of after_station in is_kept refl refl refl (unfold event_of calls_of in l)
  translated (up v d) k told i (fails (some c) left) l = by (own_or_21 t c v (observe (medium_of (up v d))) i.up.consistent.is_sound)
    where
      by : OwnOr21 t c v (observe (medium_of (up v d))) → Translated t (up v d) (fails (some c) left)
      by (own e q) =
          unfold kept event_of calls_of after_station in
          is_kept refl (cut_same (λ _. station_outcome t c) call_outcome (call_of c) left (up v d) (unfold outcome memory_of in e)) (unfold fed in refl)
          (cut_allowed (λ _. station_outcome t c) call_outcome (call_of c) left (up v d) (unfold outcome memory_of in e) (unfold event_of calls_of in l))
      by (is_21 piece e q still) =
          let r = refused_same (λ _. station_outcome t c) (call_of c) (up v d) v piece still (unfold outcome memory_of in e) in
          absurd (none_left (geometry v) (outcome (λ _. station_outcome t c) (call_of c) (up v d)).store d.pending left r.3
          (unfold Allowed stores_at event_of calls_of drives_of memory_of in l))
  translated (down m) k told i (ends (by_rack c)) l =
      unfold kept kept_call event_of calls_of after_station call_of in
      is_kept refl (runs_same (λ _. station_outcome t (by_rack c)) call_outcome (rack_call c) (down m) (unfold outcome station_outcome in refl))
      (fed_same (λ _. station_outcome t (by_rack c)) call_outcome (rack_call c) (down m) (unfold outcome station_outcome in refl))
      (allowed_same (λ _. station_outcome t (by_rack c)) call_outcome (rack_call c) (down m) (unfold event_of calls_of call_of in l))
  translated (down m) k told i (ends (reads j x piece)) l =
      let z : read x piece ≡ restart = unfold event_of calls_of call_of Allowed in l in absurd (true≢false cc)
  translated (down m) k told i (ends (writes j x piece)) l =
      let z : write x piece ≡ restart = unfold event_of calls_of call_of Allowed in l in absurd (true≢false cc)
  translated (down m) k told i (fails none left) l = unfold kept event_of calls_of after_station in is_kept refl refl refl (unfold event_of calls_of in l)
  translated (down m) k told i (fails (some c) left) l =
      let z : some (call_of c) ≡ none = unfold event_of calls_of Allowed in l.0 in absurd (true≢false cc)

  -- ---- a list

  pub record SameRun (s : System) (k : CachedModel) (es : List StationEvent) (ks : List Event) : Type 0 where
    pub system : after_stations (station_outcome t) s es ≡ after_all call_outcome s ks
    pub model : modelled (fed_stations (station_outcome t) s es) k ≡ modelled (fed_all call_outcome s ks) k
    pub lawful : Lawful call_outcome s ks

  more : (s : System) (k : CachedModel) (e : StationEvent) (es : List StationEvent) → Ready g s k (kept t e ++ kept_all t es)
      → LawfulStations (station_outcome t) (after_station (station_outcome t) s e) es
      → ((s : System) (k : CachedModel) → Ready g s k (kept_all t es) → LawfulStations (station_outcome t) s es → SameRun s k es (kept_all t es))
      → Translated t s e → SameRun s k (e ∷ es) (kept t e ++ kept_all t es)
  unfolding after_stations fed_stations modelled after_all fed_all Lawful
  more s k e es i l rest (is_kept q r f a) =
      let i1 : Ready g s k (event_of e ∷ kept_all t es) = subst (λ (ks : List Event). Ready g s k (ks ++ kept_all t es)) q i in
      let h = rest (after call_outcome s (event_of e)) (model_after (fed call_outcome s (event_of e)) k) (ready_next (event_of e) i1 a) (subst (λ (s : System). LawfulStations (station_outcome t) s es) r l) in
      subst (λ (ks : List Event). SameRun s k (e ∷ es) (ks ++ kept_all t es)) (sym q)
      (record {
        system = ap (λ (s : System). after_stations (station_outcome t) s es) r ∙ h.system;
        model = rw (r, f) h.model;
        lawful = (a, h.lawful);
      })
  more s k e es i l rest (is_dropped q r f) =
      let i1 : Ready g s k (kept_all t es) = subst (λ (ks : List Event). Ready g s k (ks ++ kept_all t es)) q i in
      let h = rest s k i1 (subst (λ (s : System). LawfulStations (station_outcome t) s es) r l) in
      subst (λ (ks : List Event). SameRun s k (e ∷ es) (ks ++ kept_all t es)) (sym q)
      (record {
        system = ap (λ (s : System). after_stations (station_outcome t) s es) r ∙ h.system;
        model = same (after_station (station_outcome t) s e) r (model_after (fed (calls_of (station_outcome t) e) s (event_of e)) k) (f k) ∙ h.model;
        lawful = h.lawful;
      })
    where
      same : (u : System) → u ≡ s → (j : CachedModel) → j ≡ k → modelled (fed_stations (station_outcome t) u es) j ≡ modelled (fed_stations (station_outcome t) s es) k
      same u p j q = λ i. modelled (fed_stations (station_outcome t) (p i) es) (q i)

  pub same_run : (es : List StationEvent) (s : System) (k : CachedModel) → Ready g s k (kept_all t es) → LawfulStations (station_outcome t) s es → SameRun s k es (kept_all t es)
  unfolding kept_all
  same_run [] s k i l = unfold after_stations fed_stations modelled after_all fed_all Lawful in record { system = refl; model = refl; lawful = tt }
  same_run (e ∷ es) s k i l =
      let l1 : Allowed (calls_of (station_outcome t) e) s (event_of e) × LawfulStations (station_outcome t) (after_station (station_outcome t) s e) es = unfold LawfulStations in l in
      let n = ready_now i in
      more s k e es i l1.1 (λ s k i l. same_run es s k i l) (translated s k n.0 n.1 e l1.0)

-- no cut before the first flushed
early_call : (c : Call) (ks : List Event) → settles c ≡ false → (b : Bool) → (c ≡ flushed) ⊎ NoEarlyCut ks → NoEarlyCut (cond b (runs c ∷ []) [] ++ ks)
early_call c ks still b (inl e) = let z : false ≡ true = sym still ∙ ap settles e ∙ unfold settles in refl in absurd (false≢true z)
early_call c ks still true (inr n) = unfold NoEarlyCut in inr n
early_call c ks still false (inr n) = n

later_cut : (c : Call) (ks us : List Event) → (c ≡ flushed) ⊎ NoEarlyCut ks → (NoEarlyCut ks → NoEarlyCut us) → (c ≡ flushed) ⊎ NoEarlyCut us
later_cut c ks us (inl e) f = inl e
later_cut c ks us (inr n) f = inr (f n)

pub early_kept : (t : Spans) (es : List StationEvent) → NoEarlyCut (events_of es) → NoEarlyCut (kept_all t es)
unfolding events_of event_of call_of kept_all kept kept_call NoEarlyCut settles
early_kept t [] n = tt
early_kept t (ends (by_rack c) ∷ es) n = later_cut (rack_call c) (events_of es) (kept_all t es) n (λ n. early_kept t es n)
early_kept t (ends (reads k x piece) ∷ es) n =
    early_call (read x piece) (kept_all t es) refl (allowed t k x) (later_cut (read x piece) (events_of es) (kept_all t es) n (λ n. early_kept t es n))
early_kept t (ends (writes k x piece) ∷ es) n =
    early_call (write x piece) (kept_all t es) refl (allowed t k x) (later_cut (write x piece) (events_of es) (kept_all t es) n (λ n. early_kept t es n))
early_kept t (fails c left ∷ es) n = absurd n
