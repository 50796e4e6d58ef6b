-- Pairs of worked runs (document 02, W10): in the first the other client writes, in the second it does not. What they show: `RunsWorked`.
-- `proofs/Worked.antt` has the proof: of blocks that are set, what the client reads follows from the claim; the rest is computed.
use Rattle.std.specs.Prelude.{ℕ, ◌≡◌, Bool, true, false, List, [], ◌∷◌, ◌++◌, replicate}
use Rattle.std.proofs.Math.Option.{Option, none, some}
use Rattle.layout.specs.Tally.{is_running}
use Rattle.medium.specs.Medium.{observe, AfterCut, torn_block, old_record, new_record}
use Rattle.volume.specs.Answers.{number, accepted}
use Rattle.promise.specs.Lists.{System, memory_of, medium_of}
use Rattle.promise.specs.Promise.{Start, formatted, begin}
use Rattle.spans.specs.declared.Spans.{Spans}
use Rattle.clients.specs.Stations.{grows, copies, checkpoints, advances, restarts, flushes, StationCall, by_rack, reads, writes, Act, station_outcome, StationEvent, ends, fails, after_station, stations_model, read_after}
use Rattle.clients.specs.TwoRuns.{shared, Covered}
use Rattle.worked.specs.Worked.{block_of}

-- the numbers of the calls that came to their end, in their order: that of a refusal, or 0
unfoldable pub numbers_told : (calls : (c : StationCall) → Act) (s : System) (es : List StationEvent) → List ℕ
numbers_told calls s [] = []
numbers_told calls s (ends c ∷ es) =
    number (calls c (memory_of s) (observe (medium_of s))).reply.answer ∷ numbers_told calls (after_station calls s (ends c)) es
numbers_told calls s (fails c left ∷ es) = numbers_told calls (after_station calls s (fails c left)) es

-- ---- a pair of runs, and what it is to show

pub record Pair : Type 0 where
  pub start : Start
  pub spans : Spans
  pub client : ℕ
  pub first : List StationEvent
  pub second : List StationEvent
  pub first_told : List ℕ
  pub second_told : List ℕ
  -- at the end of both: whether a growth runs, and the open blocks
  pub running : Bool
  pub blocks : ℕ
  -- a block of the client, and what it saved there; a block of the other, and what that saved there in the first run
  pub own : ℕ
  pub saved : List ℕ
  pub other : ℕ
  pub other_saved : List ℕ

module _ (p : Pair) where
  -- of one run: the claim is about it; what its calls told; whether a growth runs; open blocks, and the two blocks, in the plain volume; what the
  -- client then reads
  pub record RunShown (es : List StationEvent) (told : List ℕ) (other : Option (List ℕ)) : Type 0 where
    pub covered : Covered station_outcome p.spans p.start es
    pub numbers_told_law : numbers_told (station_outcome p.spans) (begin p.start) es ≡ told
    pub growth_runs : is_running (stations_model (station_outcome p.spans) p.start es).tally.mode ≡ p.running
    pub open_blocks : (stations_model (station_outcome p.spans) p.start es).plain.blocks ≡ p.blocks
    pub own_set : (stations_model (station_outcome p.spans) p.start es).plain.bytes p.own ≡ some p.saved
    pub other_set : (stations_model (station_outcome p.spans) p.start es).plain.bytes p.other ≡ other
    pub read_accepted : accepted (read_after (station_outcome p.spans) p.start es p.client p.own (block_of 0)).reply.answer ≡ true
    pub bytes_read : (read_after (station_outcome p.spans) p.start es p.client p.own (block_of 0)).piece ≡ p.saved

  -- the other's block is set in the first run only
  pub record Shown : Type 0 where
    pub format_accepted : accepted (formatted p.start).reply.answer ≡ true
    pub same_shared : shared p.client p.first ≡ shared p.client p.second
    pub first_run : RunShown p.first p.first_told (some p.other_saved)
    pub second_run : RunShown p.second p.second_told none

-- ---- what the runs start from, and parts of them

-- one row on two disks, and room for a third: the growth to three moves block 0, in one window, and adds block 2
unfoldable pub two_disks : Start
two_disks = record { size = 512; rows = 1; disks = 2; medium = replicate 2_048 0 }

-- client 0 has block 0, client 1 has block 1
unfoldable pub one_each : Spans
one_each = record { zero = record { first = 0; count = 1 }; one = record { first = 1; count = 1 } }

-- client 0 has blocks 1 and 2, client 1 has block 0
unfoldable pub last_two : Spans
last_two = record { zero = record { first = 1; count = 2 }; one = record { first = 0; count = 1 } }

-- one row on three disks: client 0 has blocks 0 and 1, client 1 has block 2
unfoldable pub three_disks : Start
three_disks = record { size = 512; rows = 1; disks = 3; medium = replicate 2_048 0 }

unfoldable pub two_and_one : Spans
two_and_one = record { zero = record { first = 0; count = 2 }; one = record { first = 2; count = 1 } }

abbrev pub flush : StationEvent
flush = ends (by_rack flushes)

abbrev pub restarting : StationEvent
restarting = ends (by_rack restarts)

-- a write and a read with the flushed after them
abbrev pub writes_block : (client x byte : ℕ) → List StationEvent
writes_block client x byte = ends (writes client x (block_of byte)) ∷ flush ∷ []

abbrev pub reads_block : (client x : ℕ) → List StationEvent
reads_block client x = ends (reads client x (block_of 0)) ∷ flush ∷ []

-- the growth to three disks, to its copy, and to its end
abbrev pub copied_growth : List StationEvent
copied_growth = ends (by_rack (grows 3)) ∷ flush ∷ ends (by_rack advances) ∷ []

abbrev pub whole_growth : List StationEvent
whole_growth = copied_growth ++ (flush ∷ ends (by_rack advances) ∷ flush ∷ [])

-- ---- a growth under way, its copy pending at a cut between calls, which leaves other bytes in the two runs; in the first client 1 tries client 0's
-- block too, and is refused with 21

abbrev pub copy_torn : (torn : ℕ) → List StationEvent
copy_torn torn = copied_growth ++ (fails none (torn_block (block_of torn) ∷ []) ∷ restarting ∷ [])

unfoldable pub growth_torn : Pair
growth_torn =
    record {
      start = two_disks;
      spans = one_each;
      client = 0;
      first = flush ∷ (writes_block 0 0 1 ++ (writes_block 1 1 2 ++ (writes_block 1 0 3 ++ copy_torn 4)));
      second = flush ∷ (writes_block 0 0 1 ++ (reads_block 1 1 ++ (flush ∷ copy_torn 5)));
      first_told = 0 ∷ 0 ∷ 0 ∷ 0 ∷ 0 ∷ 21 ∷ 0 ∷ 0 ∷ 0 ∷ 0 ∷ 0 ∷ [];
      second_told = 0 ∷ 0 ∷ 0 ∷ 0 ∷ 0 ∷ 0 ∷ 0 ∷ 0 ∷ 0 ∷ 0 ∷ [];
      running = true;
      blocks = 2;
      own = 0;
      saved = block_of 1;
      other = 1;
      other_saved = block_of 2;
    }

-- ---- a cut in client 0's own write of block 1, which it had saved before; its block 0 is read back

abbrev pub write_torn : (torn : ℕ) → List StationEvent
write_torn torn = fails (some (writes 0 1 (block_of 4))) (torn_block (block_of torn) ∷ []) ∷ restarting ∷ []

unfoldable pub own_write_torn : Pair
own_write_torn =
    record {
      start = three_disks;
      spans = two_and_one;
      client = 0;
      first = flush ∷ (writes_block 0 0 1 ++ (writes_block 0 1 3 ++ (writes_block 1 2 2 ++ write_torn 5)));
      second = flush ∷ (writes_block 0 0 1 ++ (writes_block 0 1 3 ++ (reads_block 1 2 ++ write_torn 6)));
      first_told = 0 ∷ 0 ∷ 0 ∷ 0 ∷ 0 ∷ 0 ∷ 0 ∷ 0 ∷ [];
      second_told = 0 ∷ 0 ∷ 0 ∷ 0 ∷ 0 ∷ 0 ∷ 0 ∷ 0 ∷ [];
      running = false;
      blocks = 3;
      own = 0;
      saved = block_of 1;
      other = 2;
      other_saved = block_of 2;
    }

-- ---- a cut in the record store of the checkpoint that ends a growth: the old record is left, and the growth still runs, or the new, and it is
-- finished. Either client may be the one that reads; the growth moves block 0, of client 0.

abbrev pub record_cut : (left : AfterCut) → List StationEvent
record_cut left =
    ends (by_rack (grows 3)) ∷ flush ∷ ends (by_rack (copies 0)) ∷ flush ∷ fails (some (by_rack checkpoints)) (left ∷ []) ∷ restarting ∷ []

unfoldable pub record_left : (left : AfterCut) (running : Bool) (blocks client other : ℕ) → Pair
record_left left running blocks client other =
    record {
      start = two_disks;
      spans = one_each;
      client = client;
      first = flush ∷ (writes_block client client 1 ++ (writes_block other other 2 ++ record_cut left));
      second = flush ∷ (writes_block client client 1 ++ (reads_block other other ++ record_cut left));
      first_told = 0 ∷ 0 ∷ 0 ∷ 0 ∷ 0 ∷ 0 ∷ 0 ∷ 0 ∷ 0 ∷ 0 ∷ [];
      second_told = 0 ∷ 0 ∷ 0 ∷ 0 ∷ 0 ∷ 0 ∷ 0 ∷ 0 ∷ 0 ∷ 0 ∷ [];
      running = running;
      blocks = blocks;
      own = client;
      saved = block_of 1;
      other = other;
      other_saved = block_of 2;
    }

-- ---- "an unset block may show what its spot held before": client 0 reads block x, unset after both runs, and gets other bytes, so that the claim
-- cannot say more

module _ (t : Spans) (a : Start) (x : ℕ) where
  pub record UnsetShown (es : List StationEvent) (bytes : List ℕ) : Type 0 where
    pub covered : Covered station_outcome t a es
    pub unset : (stations_model (station_outcome t) a es).plain.bytes x ≡ none
    pub read_accepted : accepted (read_after (station_outcome t) a es 0 x (block_of 0)).reply.answer ≡ true
    pub bytes_read : (read_after (station_outcome t) a es 0 x (block_of 0)).piece ≡ bytes

  pub record UnsetDiffers (first second : List StationEvent) (first_bytes second_bytes : List ℕ) : Type 0 where
    pub same_shared : shared 0 first ≡ shared 0 second
    pub first_run : UnsetShown first first_bytes
    pub second_run : UnsetShown second second_bytes

-- the growth adds block 2 where block 0 was, which client 1 wrote in the first run
unfoldable pub written_then_grown : List StationEvent
written_then_grown = flush ∷ (writes_block 1 0 2 ++ whole_growth)

unfoldable pub only_grown : List StationEvent
only_grown = flush ∷ flush ∷ whole_growth

pub record RunsWorked : Type 0 where
  pub growth_torn_law : Shown growth_torn
  pub own_write_torn_law : Shown own_write_torn
  pub record_left_old : Shown (record_left old_record true 2 0 1)
  pub record_left_new : Shown (record_left new_record false 3 0 1)
  pub left_new_other : Shown (record_left new_record false 3 1 0)
  -- block 1 after the cut in its write, whose torn bytes need not be the same
  pub torn_differs : UnsetDiffers two_and_one three_disks 1 own_write_torn.first own_write_torn.second (block_of 5) (block_of 6)
  pub added_differs : UnsetDiffers last_two two_disks 2 written_then_grown only_grown (block_of 2) (block_of 0)
