-- A list of the stations' calls is a list of the volume's own, without those that 21 refuses: `AsOwnCalls`. So demand 3 holds of it, and what
-- `promise` says of plain volume and tally. `proofs/OwnCalls.antt` has the proof.
use Rattle.std.specs.Prelude.{◌≡◌, true, cond, List, [], ◌∷◌, ◌++◌}
use Rattle.volume.specs.Answers.{accepted}
use Rattle.promise.specs.Calls.{write, read}
use Rattle.promise.specs.Lists.{call_outcome, Event, runs, cut, NoEarlyCut, Lawful}
use Rattle.promise.specs.Promise.{Start, formatted, begin, system_after, model_of}
use Rattle.spans.specs.declared.Spans.{Spans}
use Rattle.spans.specs.Spans.{allowed}
use Rattle.clients.specs.Stations.{rack_call, StationCall, by_rack, reads, writes, station_outcome, StationEvent, ends, fails, call_in, events_of, LawfulStations, stations_after, stations_model}

module _ (t : Spans) where
  unfoldable pub kept_call : (c : StationCall) → List Event
  kept_call (by_rack c) = runs (rack_call c) ∷ []
  kept_call (reads client x piece) = cond (allowed t client x) (runs (read x piece) ∷ []) []
  kept_call (writes client x piece) = cond (allowed t client x) (runs (write x piece) ∷ []) []

  unfoldable pub kept : (e : StationEvent) → List Event
  kept (ends c) = kept_call c
  kept (fails c left) = cut (call_in c) left ∷ []

  unfoldable pub kept_all : (es : List StationEvent) → List Event
  kept_all [] = []
  kept_all (e ∷ es) = kept e ++ kept_all es

-- demand 3 is of that list, and state, drives, plain volume and tally after it are those of the stations' list
pub record SameAsOwn (t : Spans) (a : Start) (es : List StationEvent) : Type 0 where
  pub lawful : Lawful call_outcome (begin a) (kept_all t es)
  pub no_early_cut : NoEarlyCut (kept_all t es)
  pub same_system : stations_after (station_outcome t) a es ≡ system_after call_outcome a (kept_all t es)
  pub same_model : stations_model (station_outcome t) a es ≡ model_of call_outcome a (kept_all t es)

abbrev pub AsOwnCalls : Type 0
AsOwnCalls =
    (t : Spans) (a : Start) → accepted (formatted a).reply.answer ≡ true → (es : List StationEvent) → LawfulStations (station_outcome t) (begin a) es
    → NoEarlyCut (events_of es) → SameAsOwn t a es
