-- Each part of W10's claim alone, as a claim about a program: `SeparateParts`. Together they are the claim: `PartsOfSeparate`, so that neither can be
-- weakened without the other. `proofs/Parts.antt` has the proof.
use Rattle.std.specs.Prelude.{ℕ, ◌<◌, ◌≡◌, true, List, ◌∷◌, ◌++◌, length}
use Rattle.std.proofs.Math.Option.{some}
use Rattle.volume.specs.Answers.{accepted}
use Rattle.promise.specs.Promise.{Start, formatted}
use Rattle.spans.specs.declared.Spans.{Spans}
use Rattle.spans.specs.Spans.{allowed}
use Rattle.clients.specs.Stations.{StationCall, reads, Act, StationEvent, ends, stations_model, read_after}
use Rattle.clients.specs.TwoRuns.{shared, Covered, SeparateOf}

-- ---- what is said of a client's read of block x after two lists

module _ (calls : (t : Spans) (c : StationCall) → Act) (t : Spans) (client : ℕ) (a : Start) (es fs : List StationEvent) (x : ℕ) (piece : List ℕ) where
  abbrev pub AnsweredAlike : Type 0
  AnsweredAlike = (read_after (calls t) a es client x piece).reply.answer ≡ (read_after (calls t) a fs client x piece).reply.answer

  abbrev pub SetAlike : Type 0
  SetAlike =
      accepted (read_after (calls t) a es client x piece).reply.answer ≡ true
      → (stations_model (calls t) a es).plain.bytes x ≡ (stations_model (calls t) a fs).plain.bytes x

  abbrev pub BytesAlike : Type 0
  BytesAlike =
      (b : List ℕ) → accepted (read_after (calls t) a es client x piece).reply.answer ≡ true → (stations_model (calls t) a es).plain.bytes x ≡ some b
      → ((read_after (calls t) a es client x piece).piece ≡ b) × ((read_after (calls t) a fs client x piece).piece ≡ b)

  abbrev pub OpenAlike : Type 0
  OpenAlike = (stations_model (calls t) a es).plain.blocks ≡ (stations_model (calls t) a fs).plain.blocks

  abbrev pub OwnAccepted : Type 0
  OwnAccepted =
      allowed t client x ≡ true → x < (stations_model (calls t) a es).plain.blocks → length piece ≡ a.size
      → accepted (read_after (calls t) a es client x piece).reply.answer ≡ true

-- ---- of each read that comes in two runs after the same calls

abbrev pub EachRead : (calls : (t : Spans) (c : StationCall) → Act)
    (Says : (t : Spans) (client : ℕ) (a : Start) (before before1 : List StationEvent) (x : ℕ) (piece : List ℕ) → Type 0) → Type 0
EachRead calls Says =
    (t : Spans) (client : ℕ) (a : Start) → accepted (formatted a).reply.answer ≡ true → (es fs : List StationEvent)
    → Covered calls t a es → Covered calls t a fs → shared client es ≡ shared client fs
    → (before rest before1 rest1 : List StationEvent) (x : ℕ) (piece : List ℕ) → es ≡ before ++ (ends (reads client x piece) ∷ rest)
    → fs ≡ before1 ++ (ends (reads client x piece) ∷ rest1) → shared client before ≡ shared client before1
    → Says t client a before before1 x piece

pub record SeparateParts (calls : (t : Spans) (c : StationCall) → Act) : Type 0 where
  pub same_answer : EachRead calls (AnsweredAlike calls)
  pub same_plain : EachRead calls (SetAlike calls)
  pub same_bytes_law : EachRead calls (BytesAlike calls)
  pub same_open : EachRead calls (OpenAlike calls)
  pub is_accepted_law : EachRead calls (OwnAccepted calls)

pub record PartsOfSeparate (calls : (t : Spans) (c : StationCall) → Act) : Type 0 where
  pub parts : SeparateOf calls → SeparateParts calls
  pub together : SeparateParts calls → SeparateOf calls
