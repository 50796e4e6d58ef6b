-- Checks that document 01's demand 3, the claim for drives that keep no store, is not empty: `WithoutCacheFacts`. Its proof, `worked_without_cache`
-- in `proofs/WorkedWithoutCache.antt`, computes a list with a cut in each kind of store.
use Rattle.std.specs.Prelude.{◌≡◌, true, false, List, [], ◌∷◌, ◌++◌}
use Rattle.std.proofs.Math.Option.{none, some}
use Rattle.layout.specs.Tally.{is_running, calls_left_of}
use Rattle.medium.specs.Medium.{torn_block, old_record, new_record}
use Rattle.promise.specs.Calls.{grow, copy, checkpoint, advance, write, read, restart, flushed, ended}
use Rattle.promise.specs.Lists.{call_outcome, outcome, Lawful, fed_all, last_reported}
use Rattle.promise.specs.Promise.{begin}
use Rattle.promise.specs.WithoutCache.{DirectEvent, ends, fails, flushed_after, from_format, DirectFurther, system_without, model_without, advances_told, DirectFinishing}
use Rattle.worked.specs.Worked.{block_of, worked_start}

-- a save; a save that is cut, and made again; a growth whose record store is cut and leaves the new record
unfoldable pub first_direct : List DirectEvent
first_direct =
    ends (write 0 (block_of 1))
    ∷ fails (write 0 (block_of 2)) (torn_block (block_of 9))
    ∷ ends restart
    ∷ ends (write 0 (block_of 3))
    ∷ fails (grow 2) new_record
    ∷ ends restart
    ∷ []

-- a copy that is cut, and made again; a save refused with 7; a checkpoint cut, which leaves the old record
unfoldable pub cut_direct : List DirectEvent
cut_direct =
    fails (copy 0) (torn_block (block_of 9))
    ∷ ends restart
    ∷ ends (copy 0)
    ∷ ends (write 0 (block_of 4))
    ∷ fails checkpoint old_record
    ∷ ends restart
    ∷ []

unfoldable pub before_further : List DirectEvent
before_further = first_direct ++ cut_direct

-- further calls: a save; an advance that copies; a read
unfoldable pub copied_direct : List DirectEvent
copied_direct = ends (write 0 (block_of 5)) ∷ ends advance ∷ ends (read 0 (block_of 0)) ∷ []

-- and then an advance that finishes the growth
unfoldable pub further_direct : List DirectEvent
further_direct = copied_direct ++ (ends advance ∷ [])

-- or one cut in its checkpoint, which leaves the new record and so finishes the growth
unfoldable pub cut_advance : List DirectEvent
cut_advance = fails advance new_record ∷ ends restart ∷ []

unfoldable pub direct_before_read : List DirectEvent
direct_before_read = before_further ++ copied_direct ++ cut_advance

unfoldable pub direct_events : List DirectEvent
direct_events = direct_before_read ++ (ends (read 0 (block_of 0)) ∷ [])

pub record WithoutCacheFacts : Type 0 where
  pub is_lawful : Lawful call_outcome (begin worked_start) (from_format direct_events)
  -- the growth runs: one block is open, two calls are left
  pub open_before : (model_without call_outcome worked_start first_direct).plain.blocks ≡ 1
  pub calls_left_law : calls_left_of (model_without call_outcome worked_start first_direct).tally ≡ 2
  pub calls_told : last_reported call_outcome (begin worked_start) (from_format first_direct) none ≡ some 2
  -- and after the cuts again: the save and the read among the further calls are accepted, and two advances finish it
  pub calls_left_again : calls_left_of (model_without call_outcome worked_start before_further).tally ≡ 2
  pub all_further : DirectFurther further_direct
  pub copied_fed_law : fed_all call_outcome (system_without call_outcome worked_start before_further) (flushed_after copied_direct)
      ≡ ended (write 0 (block_of 5)) true
      ∷ ended flushed true
      ∷ ended advance true
      ∷ ended flushed true
      ∷ ended (read 0 (block_of 0)) true
      ∷ ended flushed true
      ∷ []
  pub finishing : DirectFinishing call_outcome worked_start before_further further_direct 2
  pub finished : is_running (model_without call_outcome worked_start (before_further ++ further_direct)).tally.mode ≡ false
  pub told : advances_told call_outcome (system_without call_outcome worked_start before_further) further_direct ≡ false ∷ true ∷ []
  -- after the first of them it still runs
  pub copied_finishing : DirectFinishing call_outcome worked_start before_further copied_direct 2
  pub still_runs : is_running (model_without call_outcome worked_start (before_further ++ copied_direct)).tally.mode ≡ true
  pub none_told : advances_told call_outcome (system_without call_outcome worked_start before_further) copied_direct ≡ false ∷ []
  -- it is finished: two blocks are open, the one saved last with 5 is read back, the added one is unset
  pub open_after : (model_without call_outcome worked_start direct_before_read).plain.blocks ≡ 2
  pub block_set : (model_without call_outcome worked_start direct_before_read).plain.bytes 0 ≡ some (block_of 5)
  pub read_back : (outcome call_outcome (read 0 (block_of 0)) (system_without call_outcome worked_start direct_before_read)).piece ≡ block_of 5
  pub added_unset : (model_without call_outcome worked_start direct_before_read).plain.bytes 1 ≡ none
