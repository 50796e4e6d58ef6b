-- Document 02, W10: the calls of the stations, which are the rack and its clients, lists of them with their cuts, and what these do to state,
-- drives, plain volume and tally. What each call does is a parameter, `calls`, so that the claim can be asked of any program; `station_outcome` is
-- ours.
use Rattle.std.specs.Prelude.{ℕ, List, [], ◌∷◌}
use Rattle.std.proofs.Math.Option.{Option, none, some}
use Rattle.medium.specs.Medium.{Observations, observe, AfterCut}
use Rattle.volume.specs.declared.Reply.{Reply}
use Rattle.volume.specs.declared.Told.{Told}
use Rattle.volume.specs.declared.Volume.{Volume}
use Rattle.volume.specs.Calls.{Outcome}
use Rattle.promise.specs.Calls.{Call, grow, grow_beyond_doubling, copy, checkpoint, advance, write, read, restart, flushed, Fed}
use Rattle.promise.specs.Lists.{call_outcome, Event, runs, cut, System, memory_of, medium_of, after, Allowed, fed}
use Rattle.promise.specs.Model.{Model, start_model, nothing_pending, modelled}
use Rattle.promise.specs.Promise.{Start, begin}
use Rattle.spans.specs.declared.Spans.{Spans}
use Rattle.clients.specs.ClientCalls.{client_read, client_write}

-- "grow, copy, advance, checkpoint, flushed and restart belong to the rack"; grow is W7's two
pub data RackCall : Type 0 where
  grows : (count : ℕ) → RackCall
  grows_beyond_doubling : (count : ℕ) → RackCall
  copies : (x : ℕ) → RackCall
  checkpoints : RackCall
  advances : RackCall
  restarts : RackCall
  flushes : RackCall

unfoldable pub rack_call : (c : RackCall) → Call
rack_call (grows count) = grow count
rack_call (grows_beyond_doubling count) = grow_beyond_doubling count
rack_call (copies x) = copy x
rack_call checkpoints = checkpoint
rack_call advances = advance
rack_call restarts = restart
rack_call flushes = flushed

-- "Each client reads and writes through its span"; a client's number may be any
pub data StationCall : Type 0 where
  by_rack : (c : RackCall) → StationCall
  reads : (client x : ℕ) (piece : List ℕ) → StationCall
  writes : (client x : ℕ) (piece : List ℕ) → StationCall

-- the call as plain volume and tally are fed it
unfoldable pub call_of : (c : StationCall) → Call
call_of (by_rack c) = rack_call c
call_of (reads client x piece) = read x piece
call_of (writes client x piece) = write x piece

-- what a call does with the state that it gets and what it sees of the medium
abbrev pub Act : Type 0
Act = (v : Volume) (o : Observations) → Outcome

-- our calls, with one span table
unfoldable pub station_outcome : (t : Spans) (c : StationCall) → Act
station_outcome t (by_rack c) v o = call_outcome (rack_call c) v o
station_outcome t (reads client x piece) v o = client_read t client v x piece o
station_outcome t (writes client x piece) v o = client_write t client v x piece o

-- a call that comes to its end, accepted or refused; a cut, in the store of a call or between calls, as in `promise`
pub data StationEvent : Type 0 where
  ends : (c : StationCall) → StationEvent
  fails : (c : Option StationCall) (left : List AfterCut) → StationEvent

-- the call that a cut fell in
abbrev pub call_in : (c : Option StationCall) → Option Call
call_in none = none
call_in (some c) = some (call_of c)

unfoldable pub event_of : (e : StationEvent) → Event
event_of (ends c) = runs (call_of c)
event_of (fails c left) = cut (call_in c) left

unfoldable pub events_of : (es : List StationEvent) → List Event
events_of [] = []
events_of (e ∷ es) = event_of e ∷ events_of es

module _ (calls : (c : StationCall) → Act) where
  -- what the one call of an event does; between calls there is none
  unfoldable pub calls_of : (e : StationEvent) (c : Call) → Act
  calls_of (ends c) = λ _. calls c
  calls_of (fails none left) = call_outcome
  calls_of (fails (some c) left) = λ _. calls c

  -- ---- lists, as in `promise`

  unfoldable pub after_station : (s : System) (e : StationEvent) → System
  after_station s e = after (calls_of e) s (event_of e)

  unfoldable pub after_stations : (s : System) (es : List StationEvent) → System
  after_stations s [] = s
  after_stations s (e ∷ es) = after_stations (after_station s e) es

  unfoldable pub LawfulStations : (s : System) (es : List StationEvent) → Type 0
  LawfulStations s [] = Unit {0}
  LawfulStations s (e ∷ es) = Allowed (calls_of e) s (event_of e) × LawfulStations (after_station s e) es

  unfoldable pub fed_stations : (s : System) (es : List StationEvent) → List Fed
  fed_stations s [] = []
  fed_stations s (e ∷ es) = fed (calls_of e) s (event_of e) ∷ fed_stations (after_station s e) es

  -- from a format on: state and drives, plain volume and tally
  unfoldable pub stations_after : (a : Start) (es : List StationEvent) → System
  stations_after a es = after_stations (begin a) es

  unfoldable pub stations_model : (a : Start) (es : List StationEvent) → Model
  stations_model a es = (modelled (fed_stations (begin a) es) (nothing_pending (start_model a.rows a.disks))).current

  -- what a call is answered after a list, with the state that it hands back
  unfoldable pub reply_after : (a : Start) (es : List StationEvent) (c : StationCall) → Reply Told
  reply_after a es c =
      let s = stations_after a es in
      (calls c (memory_of s) (observe (medium_of s))).reply

  -- what a client's read of block x gives after a list
  unfoldable pub read_after : (a : Start) (es : List StationEvent) (client x : ℕ) (piece : List ℕ) → Outcome
  read_after a es client x piece =
      let s = stations_after a es in
      calls (reads client x piece) (memory_of s) (observe (medium_of s))
