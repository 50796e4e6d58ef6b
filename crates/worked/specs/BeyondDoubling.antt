-- Document 02, W7: worked lists with a growth beyond doubling, by the grow without 20: `BeyondDoublingFacts` on drives with a write cache, and
-- `BeyondWithoutCacheFacts` on drives that keep no store. Their proofs, `beyond_doubling` and `beyond_without_cache` in
-- `proofs/BeyondDoubling.antt`, compute them.
use Rattle.std.specs.Prelude.{◌≡◌, true, false, List, [], ◌∷◌, ◌++◌, replicate}
use Rattle.std.proofs.Math.Option.{none, some}
use Rattle.layout.specs.Tally.{is_running, calls_left_of}
use Rattle.medium.specs.Medium.{new_record}
use Rattle.volume.specs.Answers.{number, accepted}
use Rattle.promise.specs.Calls.{grow, grow_beyond_doubling, advance, write, read, restart, flushed}
use Rattle.promise.specs.Lists.{call_outcome, Event, runs, cut, outcome, Lawful, NoEarlyCut, last_reported, AllFurther, finished_told}
use Rattle.promise.specs.Promise.{Start, formatted, begin, system_after, model_of, Finishing}
use Rattle.promise.specs.WithoutCache.{DirectEvent, ends, fails, from_format, system_without, model_without, advances_told, DirectFurther, DirectFinishing}
use Rattle.worked.specs.Worked.{block_of}

-- One disk with two rows; room for six disks. The growth to three moves both blocks, in one window.
unfoldable pub one_disk : Start
one_disk = record { size = 512; rows = 2; disks = 1; medium = replicate 6_656 0 }

-- two saves that are down
unfoldable pub saved_events : List Event
saved_events = runs flushed ∷ runs (write 0 (block_of 1)) ∷ runs (write 1 (block_of 2)) ∷ runs flushed ∷ []

-- a growth to three, refused with 20; the other grow, cut in its store, which leaves the new record: after a restart the growth runs
unfoldable pub running_events : List Event
running_events = saved_events ++ (runs (grow 3) ∷ cut (some (grow_beyond_doubling 3)) (new_record ∷ []) ∷ runs restart ∷ [])

-- further calls: the third advance finishes it
unfoldable pub finishing_events : List Event
finishing_events = runs advance ∷ runs advance ∷ runs flushed ∷ runs advance ∷ []

-- a restart of the volume with the larger step in its history
unfoldable pub rested_events : List Event
rested_events = (running_events ++ finishing_events) ++ (runs flushed ∷ runs restart ∷ [])

-- a growth to seven, refused with 20, though the medium is too short for it; a growth to six, twice as many, starts
unfoldable pub grown_events : List Event
grown_events = rested_events ++ (runs (grow 7) ∷ runs (grow 6) ∷ [])

unfoldable pub beyond_events : List Event
beyond_events = grown_events ++ (runs (read 1 (block_of 0)) ∷ [])

pub record BeyondDoublingFacts : Type 0 where
  pub is_accepted_law : accepted (formatted one_disk).reply.answer ≡ true
  pub is_lawful : Lawful call_outcome (begin one_disk) beyond_events
  pub no_early_cut : NoEarlyCut beyond_events
  pub refused_beyond : number (outcome call_outcome (grow 3) (system_after call_outcome one_disk saved_events)).reply.answer ≡ 20
  -- the growth from one disk to three runs: two blocks are open, three calls are left
  pub runs_on : is_running (model_of call_outcome one_disk running_events).tally.mode ≡ true
  pub open_running : (model_of call_outcome one_disk running_events).plain.blocks ≡ 2
  pub calls_left_law : calls_left_of (model_of call_outcome one_disk running_events).tally ≡ 3
  pub calls_told : last_reported call_outcome (begin one_disk) running_events none ≡ some 3
  -- three accepted advances finish it
  pub all_further : AllFurther call_outcome (system_after call_outcome one_disk running_events) finishing_events
  pub finishing : Finishing call_outcome one_disk running_events finishing_events 3
  pub told : finished_told call_outcome (system_after call_outcome one_disk running_events) finishing_events ≡ false ∷ false ∷ true ∷ []
  -- it is finished: six blocks are open, an added one is unset
  pub finished : is_running (model_of call_outcome one_disk rested_events).tally.mode ≡ false
  pub open_finished : (model_of call_outcome one_disk rested_events).plain.blocks ≡ 6
  pub added_unset : (model_of call_outcome one_disk rested_events).plain.bytes 2 ≡ none
  pub refused_again : number (outcome call_outcome (grow 7) (system_after call_outcome one_disk rested_events)).reply.answer ≡ 20
  -- the growth to six runs, and a save from before both growths is read back
  pub runs_again : is_running (model_of call_outcome one_disk grown_events).tally.mode ≡ true
  pub calls_left_again : calls_left_of (model_of call_outcome one_disk grown_events).tally ≡ 4
  pub calls_told_again : last_reported call_outcome (begin one_disk) grown_events none ≡ some 4
  pub block_set : (model_of call_outcome one_disk grown_events).plain.bytes 1 ≡ some (block_of 2)
  pub read_back : (outcome call_outcome (read 1 (block_of 0)) (system_after call_outcome one_disk grown_events)).piece ≡ block_of 2

-- ---- on drives that keep no store

-- two saves; a growth to three, refused with 20; the other grow, cut in its store, which leaves the new record; a restart
unfoldable pub running_direct : List DirectEvent
running_direct =
    ends (write 0 (block_of 1))
    ∷ ends (write 1 (block_of 2))
    ∷ ends (grow 3)
    ∷ fails (grow_beyond_doubling 3) new_record
    ∷ ends restart
    ∷ []

-- further calls: the third advance finishes it
unfoldable pub finishing_direct : List DirectEvent
finishing_direct = ends advance ∷ ends advance ∷ ends advance ∷ []

unfoldable pub finished_direct : List DirectEvent
finished_direct = running_direct ++ finishing_direct

unfoldable pub beyond_direct : List DirectEvent
beyond_direct = finished_direct ++ (ends (read 1 (block_of 0)) ∷ [])

pub record BeyondWithoutCacheFacts : Type 0 where
  pub is_lawful : Lawful call_outcome (begin one_disk) (from_format beyond_direct)
  -- the growth runs, with three calls left, which finish it
  pub runs_on : is_running (model_without call_outcome one_disk running_direct).tally.mode ≡ true
  pub calls_left_law : calls_left_of (model_without call_outcome one_disk running_direct).tally ≡ 3
  pub calls_told : last_reported call_outcome (begin one_disk) (from_format running_direct) none ≡ some 3
  pub all_further : DirectFurther finishing_direct
  pub finishing : DirectFinishing call_outcome one_disk running_direct finishing_direct 3
  pub told : advances_told call_outcome (system_without call_outcome one_disk running_direct) finishing_direct ≡ false ∷ false ∷ true ∷ []
  -- it is finished: six blocks are open, and a save is read back
  pub finished : is_running (model_without call_outcome one_disk finished_direct).tally.mode ≡ false
  pub open_finished : (model_without call_outcome one_disk finished_direct).plain.blocks ≡ 6
  pub block_set : (model_without call_outcome one_disk finished_direct).plain.bytes 1 ≡ some (block_of 2)
  pub read_back : (outcome call_outcome (read 1 (block_of 0)) (system_without call_outcome one_disk finished_direct)).piece ≡ block_of 2
