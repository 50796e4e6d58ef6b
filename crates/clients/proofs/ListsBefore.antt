-- What comes before a call of a covered list is covered, but before a flushed.
use Prim.Native.Nat.{ℕ}
use mathlib.Core.Path.{◌≡◌, subst}
use mathlib.Core.Bool.{true≢false}
use mathlib.Core.List.{List, [], ◌∷◌, ◌++◌}
use mathlib.Core.Logic.{◌≢◌, inl, inr}
use Rattle.promise.specs.Calls.{read, restart}
use Rattle.promise.specs.Lists.{System, up, down, Allowed, IsUp, NoEarlyCut}
use Rattle.promise.specs.Promise.{Start, begin}
use Rattle.spans.specs.declared.Spans.{Spans}
use Rattle.clients.specs.Stations.{flushes, StationCall, by_rack, reads, writes, call_of, station_outcome, StationEvent, ends, fails, event_of, events_of, calls_of, after_station, after_stations, LawfulStations, stations_after}
use Rattle.clients.specs.TwoRuns.{BeginsFlushed, WritesFlushed, Covered}

module _ (t : Spans) (c : StationCall) (other : c ≢ by_rack flushes) (rest : List StationEvent) where
  lawful_before : (es : List StationEvent) (s : System) → LawfulStations (station_outcome t) s (es ++ (ends c ∷ rest))
      → LawfulStations (station_outcome t) s es
      × Allowed (calls_of (station_outcome t) (ends c)) (after_stations (station_outcome t) s es) (event_of (ends c))
  unfolding LawfulStations after_stations
  lawful_before [] s l = (tt, l.0)
  lawful_before (e ∷ es) s l = let i = lawful_before es (after_station (station_outcome t) s e) l.1 in ((l.0, i.0), i.1)

  early_before : (es : List StationEvent) → NoEarlyCut (events_of (es ++ (ends c ∷ rest))) → NoEarlyCut (events_of es)
  unfolding events_of event_of NoEarlyCut
  early_before [] n = tt
  early_before (ends d ∷ es) (inl e) = inl e
  early_before (ends d ∷ es) (inr n) = inr (early_before es n)
  early_before (fails d left ∷ es) n = n

  not_flushed : (d : StationCall) → d ≢ by_rack flushes → BeginsFlushed (ends d ∷ rest) → ⊥
  unfolding BeginsFlushed
  not_flushed (by_rack d) n b = n (λ i. by_rack (b i))
  not_flushed (reads j y piece) n b = b
  not_flushed (writes j y piece) n b = b

  begins_before : (es : List StationEvent) → BeginsFlushed (es ++ (ends c ∷ rest)) → BeginsFlushed es
  unfolding BeginsFlushed
  begins_before [] b = not_flushed c other b
  begins_before (ends (by_rack d) ∷ es) b = b
  begins_before (ends (reads j y piece) ∷ es) b = b
  begins_before (ends (writes j y piece) ∷ es) b = b
  begins_before (fails d left ∷ es) b = b

  writes_before : (es : List StationEvent) → WritesFlushed (es ++ (ends c ∷ rest)) → WritesFlushed es
  unfolding WritesFlushed
  writes_before [] f = tt
  writes_before (ends (by_rack d) ∷ es) f = writes_before es f
  writes_before (ends (reads j y piece) ∷ es) f = writes_before es f
  writes_before (ends (writes j y piece) ∷ es) f = (begins_before es f.0, writes_before es f.1)
  writes_before (fails d left ∷ es) f = writes_before es f

  pub covered_before : (a : Start) (es before : List StationEvent) → es ≡ before ++ (ends c ∷ rest) → Covered station_outcome t a es
      → Covered station_outcome t a before
      × Allowed (calls_of (station_outcome t) (ends c)) (stations_after (station_outcome t) a before) (event_of (ends c))
  unfolding stations_after
  covered_before a es before e k =
      let l = lawful_before before (begin a) (subst (LawfulStations (station_outcome t) (begin a)) e k.lawful) in (
        record {
          lawful = l.0;
          no_early_cut = early_before before (subst (λ (es : List StationEvent). NoEarlyCut (events_of es)) e k.no_early_cut);
          writes_flushed_law = writes_before before (subst WritesFlushed e k.writes_flushed_law);
        },
        l.1,
      )

-- a read is no flushed, and comes only where there is a state
pub no_flushed : (client x : ℕ) (piece : List ℕ) → reads client x piece ≢ by_rack flushes
no_flushed client x piece e = true≢false cc

pub read_up : (t : Spans) (client x : ℕ) (piece : List ℕ) (s : System)
    → Allowed (calls_of (station_outcome t) (ends (reads client x piece))) s (event_of (ends (reads client x piece))) → IsUp s
read_up t client x piece (up v d) l = unfold IsUp in tt
read_up t client x piece (down m) l = let z : read x piece ≡ restart = unfold event_of calls_of call_of Allowed in l in absurd (true≢false cc)
