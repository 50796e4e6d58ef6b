-- For each part of demand 3 but one there is a program that breaks it: `PartsBroken` for drives with a write cache (document 02, W4),
-- `PartsBrokenWithoutCache` for drives that keep no store. Proofs in `proofs/EveryProgram.antt` and `proofs/WrongPrograms.antt`. `LateEnd` and
-- `ExchangedRead` say what two of the programs do right; their proofs are in `proofs/WrongGrowths.antt` and `proofs/WrongReads.antt`.
use Rattle.std.specs.Prelude.{◌<◌, ◌≡◌, true, false, List, [], ◌∷◌, replicate}
use Rattle.std.proofs.Math.Option.{some}
use Rattle.layout.specs.Tally.{calls_left_of}
use Rattle.promise.specs.Calls.{Call, grow, advance, write}
use Rattle.promise.specs.Parts.{StillRuns, NoneTold, Finished, LastTold, ReadAccepted, BytesRead, BytesStand, CallsLeftTold, AdvanceAccepted, EveryRead, EveryGrowth, EveryFurther, EveryDirectRead, EveryDirectGrowth, EveryDirectFurther}
use Rattle.promise.specs.Promise.{Start}
use Rattle.promise.specs.WithoutCache.{DirectEvent, ends, from_format, system_without, model_without, advances_told}
use Rattle.worked.specs.Worked.{block_of}
use Rattle.worked.specs.WrongPrograms.{Act, refuses_read, exchanges_blocks, writes_nothing, writes_waiting, writes_early, records_early, never_advances, marks_later, made_up_count, grows_to_twice, keeps_copies, grows_always, ends_early, ends_late}

-- two blocks on one disk; a save of the first
unfoldable pub two_rows : Start
two_rows = record { size = 512; rows = 2; disks = 1; medium = replicate 1_536 0 }

unfoldable pub saved_first : List DirectEvent
saved_first = ends (write 0 (block_of 1)) ∷ []

pub record PartsBroken : Type 0 where
  pub is_accepted_law : EveryRead refuses_read (ReadAccepted refuses_read) → ⊥
  pub bytes_read : EveryRead writes_nothing (BytesRead writes_nothing) → ⊥
  pub bytes_read_waiting : EveryRead writes_waiting (BytesRead writes_waiting) → ⊥
  pub bytes_read_early : EveryRead writes_early (BytesRead writes_early) → ⊥
  pub bytes_read_recorded : EveryRead records_early (BytesRead records_early) → ⊥
  pub bytes_read_marked : EveryRead marks_later (BytesRead marks_later) → ⊥
  pub bytes_stand : EveryRead exchanges_blocks (BytesStand exchanges_blocks) → ⊥
  pub calls_left_law : EveryGrowth made_up_count (CallsLeftTold made_up_count) → ⊥
  pub calls_left_beyond : EveryGrowth grows_to_twice (CallsLeftTold grows_to_twice) → ⊥
  pub calls_left_restart : EveryGrowth keeps_copies (CallsLeftTold keeps_copies) → ⊥
  -- no program breaks this one: an accepted advance takes one call off what the tally has left, and no other further call does
  pub still_runs : (calls : (c : Call) → Act) → EveryFurther calls StillRuns
  pub none_told : EveryFurther ends_early NoneTold → ⊥
  pub finished : EveryFurther grows_always Finished → ⊥
  -- and this one only where no call is left
  pub finished_left : (calls : (c : Call) → Act) → EveryFurther calls (λ told mode n. 0 < n → Finished told mode n)
  pub last_told : EveryFurther ends_late LastTold → ⊥
  pub advances : EveryGrowth never_advances (AdvanceAccepted never_advances) → ⊥

pub record PartsBrokenWithoutCache : Type 0 where
  pub is_accepted_law : EveryDirectRead refuses_read (ReadAccepted refuses_read) → ⊥
  pub bytes_read : EveryDirectRead writes_nothing (BytesRead writes_nothing) → ⊥
  pub bytes_read_waiting : EveryDirectRead writes_waiting (BytesRead writes_waiting) → ⊥
  pub bytes_read_marked : EveryDirectRead marks_later (BytesRead marks_later) → ⊥
  pub bytes_stand : EveryDirectRead exchanges_blocks (BytesStand exchanges_blocks) → ⊥
  pub calls_left_law : EveryDirectGrowth made_up_count (λ a es. CallsLeftTold made_up_count a (from_format es)) → ⊥
  pub calls_left_beyond : EveryDirectGrowth grows_to_twice (λ a es. CallsLeftTold grows_to_twice a (from_format es)) → ⊥
  pub calls_left_restart : EveryDirectGrowth keeps_copies (λ a es. CallsLeftTold keeps_copies a (from_format es)) → ⊥
  pub still_runs : (calls : (c : Call) → Act) → EveryDirectFurther calls StillRuns
  pub none_told : EveryDirectFurther ends_early NoneTold → ⊥
  pub finished : EveryDirectFurther grows_always Finished → ⊥
  pub finished_never : EveryDirectFurther never_advances Finished → ⊥
  pub last_told : EveryDirectFurther ends_late LastTold → ⊥

-- an advance that ends a call late does end: of a growth with three calls left the fourth tells finished
unfoldable pub two_disks : Start
two_disks = record { size = 512; rows = 2; disks = 2; medium = replicate 3_584 0 }

unfoldable pub to_three : List DirectEvent
to_three = ends (grow 3) ∷ []

abbrev pub four_advances : List DirectEvent
four_advances = ends advance ∷ ends advance ∷ ends advance ∷ ends advance ∷ []

pub record LateEnd : Type 0 where
  pub calls_left_law : calls_left_of (model_without ends_late two_disks to_three).tally ≡ 3
  pub told : advances_told ends_late (system_without ends_late two_disks to_three) four_advances ≡ false ∷ false ∷ false ∷ true ∷ []

-- where blocks are exchanged, the read is accepted and gives what was saved: only where it stands is wrong
pub record ExchangedRead : Type 0 where
  pub saved : (model_without exchanges_blocks two_rows saved_first).plain.bytes 0 ≡ some (block_of 1)
  pub is_accepted_law : ReadAccepted exchanges_blocks two_rows (from_format saved_first) 0 (block_of 0)
  pub bytes_read : BytesRead exchanges_blocks two_rows (from_format saved_first) 0 (block_of 0)
