-- Which lists W10's claim is about, apart from the text of `Covered`, and what two runs need not agree on, apart from the text of `shared`: a claim
-- about fewer lists does not meet these laws. `proofs/CoveredLists.antt` has the proofs.
use Rattle.std.specs.Prelude.{ℕ, ◌≡◌, List, [], ◌∷◌, ◌++◌, ◌≢◌}
use Rattle.std.proofs.Math.Option.{Option, none, some}
use Rattle.medium.specs.Medium.{AfterCut, EachMayLeave}
use Rattle.promise.specs.Calls.{Call, write, read}
use Rattle.promise.specs.Lists.{call_outcome, down, drives_of, cut_left, IsUp, NoEarlyCut, stores_at}
use Rattle.promise.specs.Promise.{Start}
use Rattle.spans.specs.declared.Spans.{Spans}
use Rattle.clients.specs.Stations.{RackCall, restarts, flushes, StationCall, by_rack, reads, writes, call_of, Act, station_outcome, StationEvent, ends, fails, events_of, stations_after}
use Rattle.clients.specs.TwoRuns.{shared, Covered}

-- ---- calls

-- a call of the volume that somebody makes
pub record MadeBy (c : Call) : Type 0 where
  pub maker : StationCall
  pub is_it : call_of maker ≡ c

-- "Each client reads and writes ..; grow, copy, advance, checkpoint, flushed and restart belong to the rack": every call of demand 3 is there,
-- and the rack's are as they were
pub record CallsCovered : Type 0 where
  pub every_call : (c : Call) → MadeBy c
  pub a_read : (client x : ℕ) (piece : List ℕ) → call_of (reads client x piece) ≡ read x piece
  pub a_write : (client x : ℕ) (piece : List ℕ) → call_of (writes client x piece) ≡ write x piece
  pub rack_own : (t : Spans) (c : RackCall) → station_outcome t (by_rack c) ≡ call_outcome (call_of (by_rack c))

-- ---- lists

-- a list of calls that come to their end
pub data CallsOnly : List StationEvent → Type 0 where
  no_call : CallsOnly []
  one_more : {c : StationCall} {es : List StationEvent} → CallsOnly es → CallsOnly (ends c ∷ es)

module _ (calls : (t : Spans) (c : StationCall) → Act) (t : Spans) (a : Start) where
  -- what may be added to a covered list
  pub record CoveredOpen : Type 0 where
    pub none_yet : Covered calls t a []
    -- where it does not end in a cut: every call of the rack but restart, every read, every write with its flushed, of whatever client
    pub a_call : (es : List StationEvent) → Covered calls t a es → IsUp (stations_after (calls t) a es) → (c : RackCall) → c ≢ restarts
        → Covered calls t a (es ++ (ends (by_rack c) ∷ []))
    pub a_read : (es : List StationEvent) → Covered calls t a es → IsUp (stations_after (calls t) a es) → (client x : ℕ) (piece : List ℕ)
        → Covered calls t a (es ++ (ends (reads client x piece) ∷ []))
    pub a_write : (es : List StationEvent) → Covered calls t a es → IsUp (stations_after (calls t) a es) → (client x : ℕ) (piece : List ℕ)
        → Covered calls t a (es ++ (ends (writes client x piece) ∷ ends (by_rack flushes) ∷ []))
    -- restart where nothing is pending
    pub a_restart : (es : List StationEvent) → Covered calls t a es → (drives_of (stations_after (calls t) a es)).pending ≡ []
        → Covered calls t a (es ++ (ends (by_rack restarts) ∷ []))
    -- after the first flushed (`NoEarlyCut` of the longer list) a cut in the store of any call, or between calls, that leaves of each store that
    -- may not be down what it may
    pub a_cut : (es : List StationEvent) → Covered calls t a es → IsUp (stations_after (calls t) a es) → (c : StationCall) (left : List AfterCut)
        → NoEarlyCut (events_of (es ++ (fails (some c) left ∷ []))) → EachMayLeave (stores_at (λ _. calls t c) (some (call_of c)) (stations_after (calls t) a es)) left
        → Covered calls t a (es ++ (fails (some c) left ∷ []))
    pub a_cut_between : (es : List StationEvent) → Covered calls t a es → IsUp (stations_after (calls t) a es) → (left : List AfterCut)
        → NoEarlyCut (events_of (es ++ (fails none left ∷ []))) → EachMayLeave (drives_of (stations_after (calls t) a es)).pending left
        → Covered calls t a (es ++ (fails none left ∷ []))
    -- and the power may fail again before restart
    pub a_second_cut : (es : List StationEvent) (m : List ℕ) → Covered calls t a es → stations_after (calls t) a es ≡ down m → Covered calls t a (es ++ (fails none [] ∷ []))

-- "It starts at the first flushed after format" (W4): any calls may come first, and anything after it
pub record EarlyListsCovered : Type 0 where
  pub after_flushed : (es rest : List StationEvent) → CallsOnly es → NoEarlyCut (events_of (es ++ (ends (by_rack flushes) ∷ rest)))

-- ---- what the runs need not agree on

-- "whether the other writes or not": its calls make no difference to what the runs agree on
pub record OtherUnseen : Type 0 where
  pub other_reads : (client other x : ℕ) (piece : List ℕ) (es fs : List StationEvent) → other ≢ client
      → shared client (es ++ (ends (reads other x piece) ∷ fs)) ≡ shared client (es ++ fs)
  pub other_writes : (client other x : ℕ) (piece : List ℕ) (es fs : List StationEvent) → other ≢ client
      → shared client (es ++ (ends (writes other x piece) ∷ fs)) ≡ shared client (es ++ fs)

-- of a cut the runs agree on the call that it fell in and the record that it left, not on torn bytes
pub record CutsUnseen : Type 0 where
  pub torn_unseen : (client : ℕ) (c : Option StationCall) (left other : List AfterCut) (es fs : List StationEvent) → cut_left left ≡ cut_left other
      → shared client (es ++ (fails c left ∷ fs)) ≡ shared client (es ++ (fails c other ∷ fs))
