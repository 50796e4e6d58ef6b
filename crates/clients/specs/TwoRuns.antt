-- Document 02, W10: what one client reads does not depend on the other: `Separate`. `proofs/Theorem.antt` has the proofs.
use Rattle.std.specs.Prelude.{ℕ, ◌<◌, ◌≡◌, Bool, true, cond, List, [], ◌∷◌, ◌++◌, ◌≢◌, eqb, length}
use Rattle.std.proofs.Math.Option.{Option, some}
use Rattle.volume.specs.Answers.{accepted}
use Rattle.promise.specs.Calls.{CutLeft}
use Rattle.promise.specs.Lists.{cut_left, NoEarlyCut}
use Rattle.promise.specs.Promise.{Start, formatted, begin}
use Rattle.spans.specs.declared.Spans.{Spans}
use Rattle.spans.specs.Spans.{allowed}
use Rattle.clients.specs.Stations.{flushes, StationCall, by_rack, reads, writes, Act, station_outcome, StationEvent, ends, fails, events_of, LawfulStations, stations_model, reply_after, read_after}

-- ---- what the two runs agree on

-- is it a call of the rack or of this client
unfoldable pub is_shared : (client : ℕ) (c : StationCall) → Bool
is_shared client (by_rack c) = true
is_shared client (reads k x piece) = eqb k client
is_shared client (writes k x piece) = eqb k client

-- "on the rack's and one client's calls in their order and on the cuts with the record each leaves": the list without the other's calls, and of
-- each cut the call that it fell in and the record that it left. "no cut inside the other's calls": one that stands in both runs does no harm.
pub data SharedEvent : Type 0 where
  call : (c : StationCall) → SharedEvent
  power : (c : Option StationCall) (left : CutLeft) → SharedEvent

unfoldable pub shared : (client : ℕ) (es : List StationEvent) → List SharedEvent
shared client [] = []
shared client (ends c ∷ es) = cond (is_shared client c) (call c ∷ shared client es) (shared client es)
shared client (fails c left ∷ es) = power c (cut_left left) ∷ shared client es

-- ---- the lists covered

-- "lists with a flushed .. directly after every write not cut", refused ones too. It is the rack's, so it "stands in both runs".
unfoldable pub BeginsFlushed : (es : List StationEvent) → Type 0
BeginsFlushed [] = ⊥
BeginsFlushed (ends (by_rack c) ∷ es) = c ≡ flushes
BeginsFlushed (ends (reads k x piece) ∷ es) = ⊥
BeginsFlushed (ends (writes k x piece) ∷ es) = ⊥
BeginsFlushed (fails c left ∷ es) = ⊥

unfoldable pub WritesFlushed : (es : List StationEvent) → Type 0
WritesFlushed [] = Unit {0}
WritesFlushed (ends (by_rack c) ∷ es) = WritesFlushed es
WritesFlushed (ends (reads k x piece) ∷ es) = WritesFlushed es
WritesFlushed (ends (writes k x piece) ∷ es) = BeginsFlushed es × WritesFlushed es
WritesFlushed (fails c left ∷ es) = WritesFlushed es

module _ (calls : (t : Spans) (c : StationCall) → Act) (t : Spans) where
  -- a list that demand 3 covers, with these flushed
  pub record Covered (a : Start) (es : List StationEvent) : Type 0 where
    pub lawful : LawfulStations (calls t) (begin a) es
    pub no_early_cut : NoEarlyCut (events_of es)
    pub writes_flushed_law : WritesFlushed es

  -- ---- what the client gets

  -- its read of block x after these two lists
  pub record SameRead (client : ℕ) (a : Start) (es fs : List StationEvent) (x : ℕ) (piece : List ℕ) : Type 0 where
    -- the same answer, refusals too
    pub same_answer : (read_after (calls t) a es client x piece).reply.answer ≡ (read_after (calls t) a fs client x piece).reply.answer
    -- a block that it reads is set in both plain volumes or in none, with the same bytes
    pub same_plain : accepted (read_after (calls t) a es client x piece).reply.answer ≡ true
        → (stations_model (calls t) a es).plain.bytes x ≡ (stations_model (calls t) a fs).plain.bytes x
    -- "the same read bytes .. as long as they are set in the plain volume": those of the plain volume
    pub same_bytes_law : (b : List ℕ) → accepted (read_after (calls t) a es client x piece).reply.answer ≡ true
        → (stations_model (calls t) a es).plain.bytes x ≡ some b
        → ((read_after (calls t) a es client x piece).piece ≡ b) × ((read_after (calls t) a fs client x piece).piece ≡ b)
    -- and the same blocks are open; those in its span are read, into a piece of a block's size
    pub same_open : (stations_model (calls t) a es).plain.blocks ≡ (stations_model (calls t) a fs).plain.blocks
    pub is_accepted_law : allowed t client x ≡ true → x < (stations_model (calls t) a es).plain.blocks → length piece ≡ a.size
        → accepted (read_after (calls t) a es client x piece).reply.answer ≡ true

-- "In two runs with one span table that agree on the medium and the format at start", which are `a`, "on the rack's and one client's calls in
-- their order and on the cuts with the record each leaves .. that client gets the same read bytes for the same blocks, whether the other writes
-- or not": of each of its reads, which comes in both after the same calls
abbrev pub SeparateOf : (calls : (t : Spans) (c : StationCall) → Act) → Type 0
SeparateOf calls =
    (t : Spans) (client : ℕ) (a : Start) → accepted (formatted a).reply.answer ≡ true → (es fs : List StationEvent)
    → Covered calls t a es → Covered calls t a fs → shared client es ≡ shared client fs
    → (before rest before1 rest1 : List StationEvent) (x : ℕ) (piece : List ℕ) → es ≡ before ++ (ends (reads client x piece) ∷ rest)
    → fs ≡ before1 ++ (ends (reads client x piece) ∷ rest1) → shared client before ≡ shared client before1
    → SameRead calls t client a before before1 x piece

-- of our calls
abbrev pub Separate : Type 0
Separate = SeparateOf station_outcome

-- besides, in such runs: every call of the rack and of the client is answered alike and hands the same state back, so that 18 and 19 do not
-- differ. Flushed, which refuses only by 1, is left out: it may come directly after the other's write
abbrev pub SameRepliesOf : (calls : (t : Spans) (c : StationCall) → Act) → Type 0
SameRepliesOf calls =
    (t : Spans) (client : ℕ) (a : Start) → accepted (formatted a).reply.answer ≡ true → (es fs : List StationEvent)
    → Covered calls t a es → Covered calls t a fs → shared client es ≡ shared client fs
    → (before rest before1 rest1 : List StationEvent) (c : StationCall) → is_shared client c ≡ true → c ≢ by_rack flushes
    → es ≡ before ++ (ends c ∷ rest) → fs ≡ before1 ++ (ends c ∷ rest1) → shared client before ≡ shared client before1
    → reply_after (calls t) a before c ≡ reply_after (calls t) a before1 c

abbrev pub SameReplies : Type 0
SameReplies = SameRepliesOf station_outcome

-- and each call of the rack and of the client in one run does stand in the other, after the same calls
pub record Standing (client : ℕ) (before fs : List StationEvent) (c : StationCall) : Type 0 where
  pub before1 : List StationEvent
  pub rest1 : List StationEvent
  pub stands : fs ≡ before1 ++ (ends c ∷ rest1)
  pub same_before : shared client before ≡ shared client before1

abbrev pub CallsStand : Type 0
CallsStand =
    (client : ℕ) (es fs : List StationEvent) → shared client es ≡ shared client fs → (before rest : List StationEvent) (c : StationCall)
    → is_shared client c ≡ true → es ≡ before ++ (ends c ∷ rest) → Standing client before fs c
