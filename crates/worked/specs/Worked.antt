-- Checks that demand 3 is not empty: `NotEmpty`. Its proof, `not_empty` in `proofs/Worked.antt`, computes a worked list on drives with a write
-- cache (document 02, W4).
use Rattle.std.specs.Prelude.{ℕ, ◌≡◌, true, false, List, [], ◌∷◌, ◌++◌, length, replicate}
use Rattle.std.proofs.Math.Option.{none, some}
use Rattle.layout.specs.Tally.{is_running, calls_left_of}
use Rattle.medium.specs.Medium.{torn_block, old_record}
use Rattle.volume.specs.Answers.{accepted}
use Rattle.promise.specs.Calls.{Call, grow, copy, advance, write, read, restart, flushed, ended}
use Rattle.promise.specs.Lists.{call_outcome, Event, runs, cut, outcome, Lawful, NoEarlyCut, fed_all, last_reported, AllFurther, finished_told}
use Rattle.promise.specs.Promise.{Start, formatted, begin, system_after, model_of, Finishing}

-- ---- a worked list

-- a block of one byte, over and over
abbrev pub block_of : (byte : ℕ) → List ℕ
block_of byte = replicate 512 byte

-- One disk with one row; room for two disks. The growth to two moves block 0, in one window.
unfoldable pub worked_start : Start
worked_start = record { size = 512; rows = 1; disks = 1; medium = replicate 1_536 0 }

-- two saves of one block, both pending at a cut between calls; a save that is down; a growth whose record is pending: a save is refused with
-- 19, and a cut leaves the old record; the growth again
unfoldable pub first_events : List Event
first_events =
    runs flushed
    ∷ runs (write 0 (block_of 1))
    ∷ runs (write 0 (block_of 2))
    ∷ cut none (torn_block (block_of 9) ∷ torn_block (block_of 8) ∷ [])
    ∷ runs restart
    ∷ runs (write 0 (block_of 3))
    ∷ runs flushed
    ∷ runs (grow 2)
    ∷ runs (write 0 (block_of 4))
    ∷ cut none (old_record ∷ [])
    ∷ runs restart
    ∷ runs (grow 2)
    ∷ runs flushed
    ∷ []

-- further calls: a save; an advance that copies; a read
unfoldable pub copied_events : List Event
copied_events = runs (write 0 (block_of 5)) ∷ runs flushed ∷ runs advance ∷ runs (read 0 (block_of 0)) ∷ []

-- and then a growth refused with 6, a copy refused with 11, an advance refused with 18; after flushed, one that finishes the growth
unfoldable pub further_events : List Event
further_events = copied_events ++ (runs (grow 4) ∷ runs (copy 0) ∷ runs advance ∷ runs flushed ∷ runs advance ∷ [])

unfoldable pub finished_events : List Event
finished_events = first_events ++ further_events

-- its record is pending at a cut, which leaves the old one: the growth runs again
unfoldable pub taken_back : List Event
taken_back = cut none (old_record ∷ []) ∷ runs restart ∷ []

unfoldable pub before_read : List Event
before_read = finished_events ++ taken_back

unfoldable pub worked_events : List Event
worked_events = before_read ++ (runs (read 0 (block_of 0)) ∷ [])

pub record WorkedFacts : Type 0 where
  pub is_accepted_law : accepted (formatted worked_start).reply.answer ≡ true
  pub is_lawful : Lawful call_outcome (begin worked_start) worked_events
  pub no_early_cut : NoEarlyCut worked_events
  -- the growth runs: one block is open, two calls are left
  pub open_before : (model_of call_outcome worked_start first_events).plain.blocks ≡ 1
  pub calls_left_law : calls_left_of (model_of call_outcome worked_start first_events).tally ≡ 2
  pub calls_told : last_reported call_outcome (begin worked_start) first_events none ≡ some 2
  -- the calls after it are further calls, the save and the read among them accepted, a growth, a copy and an advance refused, and two accepted
  -- advances finish the growth
  pub all_further : AllFurther call_outcome (system_after call_outcome worked_start first_events) further_events
  pub further_fed_law : fed_all call_outcome (system_after call_outcome worked_start first_events) further_events
      ≡ ended (write 0 (block_of 5)) true
      ∷ ended flushed true
      ∷ ended advance true
      ∷ ended (read 0 (block_of 0)) true
      ∷ ended (grow 4) false
      ∷ ended (copy 0) false
      ∷ ended advance false
      ∷ ended flushed true
      ∷ ended advance true
      ∷ []
  pub finishing : Finishing call_outcome worked_start first_events further_events 2
  pub finished : is_running (model_of call_outcome worked_start (first_events ++ further_events)).tally.mode ≡ false
  pub told : finished_told call_outcome (system_after call_outcome worked_start first_events) further_events ≡ false ∷ true ∷ []
  -- after the first of them it still runs
  pub copied_finishing : Finishing call_outcome worked_start first_events copied_events 2
  pub still_runs : is_running (model_of call_outcome worked_start (first_events ++ copied_events)).tally.mode ≡ true
  pub none_told : finished_told call_outcome (system_after call_outcome worked_start first_events) copied_events ≡ false ∷ []
  -- it is finished: two blocks are open, the added one is unset
  pub open_finished : (model_of call_outcome worked_start finished_events).plain.blocks ≡ 2
  pub added_unset : (model_of call_outcome worked_start finished_events).plain.bytes 1 ≡ none
  -- it is taken back: it runs again, one block is open, and the save that was down is read back
  pub runs_again : is_running (model_of call_outcome worked_start before_read).tally.mode ≡ true
  pub open_after : (model_of call_outcome worked_start before_read).plain.blocks ≡ 1
  pub block_set : (model_of call_outcome worked_start before_read).plain.bytes 0 ≡ some (block_of 5)
  pub read_back : (outcome call_outcome (read 0 (block_of 0)) (system_after call_outcome worked_start before_read)).piece ≡ block_of 5

-- ---- lists that are not lawful

-- a restart while a store is pending; a call other than restart after a cut; a cut in a call that stores nothing, or is refused; torn bytes of
-- another length; a block torn where a record is stored; a cut that says nothing of a pending store
unfoldable pub unlawful : List (List Event)
unlawful =
    (runs restart ∷ [])
    ∷ (runs flushed ∷ cut (some (write 0 (block_of 1))) (torn_block (block_of 9) ∷ []) ∷ runs (read 0 (block_of 0)) ∷ [])
    ∷ (runs flushed ∷ cut (some (read 0 (block_of 0))) (torn_block (block_of 9) ∷ []) ∷ [])
    ∷ (runs flushed ∷ cut (some (write 7 (block_of 1))) (torn_block (block_of 9) ∷ []) ∷ [])
    ∷ (runs flushed ∷ cut (some (write 0 (block_of 1))) (torn_block [] ∷ []) ∷ [])
    ∷ (runs flushed ∷ cut (some (grow 2)) (torn_block (block_of 9) ∷ []) ∷ [])
    ∷ (runs flushed ∷ runs (grow 2) ∷ cut none [] ∷ [])
    ∷ []

-- a list that is lawful and not covered: the power fails before the first flushed, and format's own record is not there
unfoldable pub early_cut : List Event
early_cut = cut none (old_record ∷ []) ∷ []

unfoldable pub NoneLawful : (lists : List (List Event)) → Type 0
NoneLawful [] = Unit {0}
NoneLawful (es ∷ lists) = (Lawful call_outcome (begin worked_start) es → ⊥) × NoneLawful lists

pub record NotEmpty : Type 0 where
  pub worked : WorkedFacts
  pub not_lawful : NoneLawful unlawful
  pub early_lawful : Lawful call_outcome (begin worked_start) early_cut
  pub not_covered : NoEarlyCut early_cut → ⊥
  -- from every accepted format: after flushed every call may come, and a save may be cut and restart follow
  pub every_call : (a : Start) → accepted (formatted a).reply.answer ≡ true → (c : Call) → Lawful call_outcome (begin a) (runs flushed ∷ runs c ∷ [])
  pub a_cut : (a : Start) → accepted (formatted a).reply.answer ≡ true → (piece torn : List ℕ) → length piece ≡ a.size → length torn ≡ a.size
      → Lawful call_outcome (begin a) (runs flushed ∷ cut (some (write 0 piece)) (torn_block torn ∷ []) ∷ runs restart ∷ [])
