-- Document 02, W10: "the promise covers lists with a flushed .. directly after every write not cut". Without that it would be false, through the 18
-- that "may differ through the other's writes": `FlushedNeeded`. `proofs/FlushedNeeded.antt` has the proof.
use Rattle.std.specs.Prelude.{ℕ, ◌≡◌, true, List, [], ◌∷◌, ◌++◌, Ok, Err}
use Rattle.base.specs.declared.Refusal.TheVariants.{BlockNotOpen}
use Rattle.volume.specs.declared.Told.TheVariants.{Done}
use Rattle.volume.specs.Answers.{accepted}
use Rattle.promise.specs.Lists.{NoEarlyCut}
use Rattle.promise.specs.Promise.{Start, formatted, begin}
use Rattle.spans.specs.declared.Spans.{Spans}
use Rattle.clients.specs.Stations.{reads, writes, station_outcome, StationEvent, ends, events_of, LawfulStations, stations_model, read_after}
use Rattle.clients.specs.TwoRuns.{shared, WritesFlushed, SameRead}
use Rattle.worked.specs.Worked.{block_of}
use Rattle.worked_clients.specs.Runs.{numbers_told, two_disks, last_two, flush, whole_growth}

-- the claim about our calls, with no flushed asked for
abbrev pub SeparateUnflushed : Type 0
SeparateUnflushed =
    (t : Spans) (client : ℕ) (a : Start) → accepted (formatted a).reply.answer ≡ true → (es fs : List StationEvent)
    → LawfulStations (station_outcome t) (begin a) es → NoEarlyCut (events_of es) → LawfulStations (station_outcome t) (begin a) fs → NoEarlyCut (events_of fs)
    → shared client es ≡ shared client fs → (before rest before1 rest1 : List StationEvent) (x : ℕ) (piece : List ℕ)
    → es ≡ before ++ (ends (reads client x piece) ∷ rest) → fs ≡ before1 ++ (ends (reads client x piece) ∷ rest1)
    → shared client before ≡ shared client before1 → SameRead station_outcome t client a before before1 x piece

-- client 1's write is pending at grow, or there is none
unfoldable pub unflushed : List StationEvent
unflushed = flush ∷ ends (writes 1 0 (block_of 2)) ∷ whole_growth

unfoldable pub unwritten : List StationEvent
unwritten = flush ∷ whole_growth

-- then client 0 reads block 2, which the growth adds
abbrev pub then_read : List StationEvent
then_read = ends (reads 0 2 (block_of 0)) ∷ []

pub record FlushedNeeded : Type 0 where
  pub format_accepted : accepted (formatted two_disks).reply.answer ≡ true
  pub first_lawful : LawfulStations (station_outcome last_two) (begin two_disks) (unflushed ++ then_read)
  pub second_lawful : LawfulStations (station_outcome last_two) (begin two_disks) (unwritten ++ then_read)
  pub first_early : NoEarlyCut (events_of (unflushed ++ then_read))
  pub second_early : NoEarlyCut (events_of (unwritten ++ then_read))
  pub same_shared : shared 0 (unflushed ++ then_read) ≡ shared 0 (unwritten ++ then_read)
  pub same_before : shared 0 unflushed ≡ shared 0 unwritten
  -- only the flushed is missing, in the first run
  pub first_unflushed : WritesFlushed (unflushed ++ then_read) → ⊥
  pub second_flushed : WritesFlushed (unwritten ++ then_read)
  -- grow gets 18 in the first only: there no growth runs, and its advances get 5; in the second the growth is finished
  pub first_told : numbers_told (station_outcome last_two) (begin two_disks) (unflushed ++ then_read) ≡ 0 ∷ 0 ∷ 18 ∷ 0 ∷ 5 ∷ 0 ∷ 5 ∷ 0 ∷ 3 ∷ []
  pub second_told : numbers_told (station_outcome last_two) (begin two_disks) (unwritten ++ then_read) ≡ 0 ∷ 0 ∷ 0 ∷ 0 ∷ 0 ∷ 0 ∷ 0 ∷ 0 ∷ []
  pub first_open : (stations_model (station_outcome last_two) two_disks unflushed).plain.blocks ≡ 2
  pub second_open : (stations_model (station_outcome last_two) two_disks unwritten).plain.blocks ≡ 3
  -- so client 0's read is answered differently
  pub first_read : (read_after (station_outcome last_two) two_disks unflushed 0 2 (block_of 0)).reply.answer ≡ Err BlockNotOpen
  pub second_read : (read_after (station_outcome last_two) two_disks unwritten 0 2 (block_of 0)).reply.answer ≡ Ok Done
  -- and the claim is false
  pub claim_false : SeparateUnflushed → ⊥
