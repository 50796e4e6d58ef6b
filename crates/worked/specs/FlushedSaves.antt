-- That the claim on saves which were flushed (`FlushedSaves`) is not empty, and for each of its parts a program that breaks it.
-- `proofs/FlushedSaves.antt` has the proof.
use Rattle.std.specs.Prelude.{List, [], ◌∷◌, replicate}
use Rattle.std.proofs.Math.Option.{none, some}
use Rattle.medium.specs.Medium.{new_record}
use Rattle.promise.specs.Calls.{grow, advance, restart, flushed}
use Rattle.promise.specs.Lists.{call_outcome, Event, runs, cut}
use Rattle.promise.specs.Promise.{Start}
use Rattle.promise.specs.WithoutCache.{DirectEvent, ends}
use Rattle.promise.specs.FlushedSaves.{saved_and_flushed, GivesPiece, FlushedSavesOf}
use Rattle.worked.specs.Worked.{block_of, worked_start}
use Rattle.worked.specs.WrongPrograms.{refuses_read, writes_nothing, marks_later}

-- block 0 is saved and flushed; then the power fails between calls, and in the store of a growth, whose new record is left
unfoldable pub cut_twice : List Event
cut_twice = cut none [] ∷ runs restart ∷ cut (some (grow 2)) (new_record ∷ []) ∷ runs restart ∷ []

-- three rows on one disk: block 2 moves in the second window of the growth to two
unfoldable pub three_rows : Start
three_rows = record { size = 512; rows = 3; disks = 1; medium = replicate 3_584 0 }

unfoldable pub whole_growth : List DirectEvent
whole_growth = ends (grow 2) ∷ ends advance ∷ ends advance ∷ ends advance ∷ ends advance ∷ []

pub record FlushedSavesWorked : Type 0 where
  pub read_back : GivesPiece call_outcome worked_start (saved_and_flushed (runs flushed ∷ []) 0 (block_of 5) [] cut_twice) 0 (block_of 5) (block_of 0)
  -- the programs: one that refuses reads; one that stores nothing; one that loses the block in a later growth
  pub accepted_broken : FlushedSavesOf refuses_read → ⊥
  pub bytes_broken : FlushedSavesOf writes_nothing → ⊥
  pub bytes_broken_later : FlushedSavesOf marks_later → ⊥
