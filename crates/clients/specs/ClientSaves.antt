-- Which blocks are set in the plain volume of a list of the stations' calls, apart from the text of `stations_model`: `ClientSaves`, of any
-- program. What plain volume and tally keep besides is `promise`'s, by `specs/OwnCalls.antt`. `proofs/ClientSaves.antt` has the proof.
use Rattle.std.specs.Prelude.{ℕ, ◌<◌, ◌≡◌, true, false, List, [], ◌∷◌, ◌++◌}
use Rattle.std.proofs.Math.Option.{some}
use Rattle.medium.specs.Medium.{observe}
use Rattle.volume.specs.Answers.{accepted}
use Rattle.promise.specs.Lists.{memory_of, medium_of}
use Rattle.promise.specs.Promise.{Start}
use Rattle.promise.specs.SavesKept.{Saves}
use Rattle.clients.specs.Stations.{StationCall, writes, call_of, Act, StationEvent, ends, stations_after, stations_model}

module _ (calls : (c : StationCall) → Act) (a : Start) where
  pub record ClientSaves : Type 0 where
    -- a client's accepted write sets its block
    pub write_sets : (es : List StationEvent) (client x : ℕ) (piece : List ℕ)
        → accepted (calls (writes client x piece) (memory_of (stations_after calls a es)) (observe (medium_of (stations_after calls a es)))).reply.answer ≡ true
        → (stations_model calls a (es ++ (ends (writes client x piece) ∷ []))).plain.bytes x ≡ some piece
    -- a refused call, of whomever, changes nothing
    pub refused_keeps : (es : List StationEvent) (c : StationCall)
        → accepted (calls c (memory_of (stations_after calls a es)) (observe (medium_of (stations_after calls a es)))).reply.answer ≡ false
        → stations_model calls a (es ++ (ends c ∷ [])) ≡ stations_model calls a es
    -- and no call changes an open block but a write of that block
    pub others_keep : (es : List StationEvent) (c : StationCall) (x : ℕ) → x < (stations_model calls a es).plain.blocks → (Saves (call_of c) x → ⊥)
        → (stations_model calls a (es ++ (ends c ∷ []))).plain.bytes x ≡ (stations_model calls a es).plain.bytes x
