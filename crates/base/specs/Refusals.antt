-- Document 01, "Calls": "Checks come in the order written." A table of refusals is a list of numbers, each with its test. The numbers
-- of documents 01 and 02 and the refusals of the code are the same, one to one.
use Rattle.std.specs.Prelude.{ℕ, Bool, cond, List, [], ◌∷◌, eqb, Result, Ok, Err}
use Rattle.base.specs.declared.Refusal.{Refusal}
use Rattle.base.specs.declared.Refusal.TheVariants.{NotSound, MediumTooShort, BlockNotOpen, PieceSize, NotGrowing, Growing, CopyNotRecorded, OutsideLimits, NoMoreGrowths, NotMoving, AlreadyCopied, NothingToRecord, NoRecord, NoSuchSpot, NoBlockThere, PageTooShort, NoSuchScene, FlushBlocks, FlushRecord, BeyondDoubling, OutsideSpan}

-- the number of a refusal
unfoldable pub refusal_number : (r : Refusal) → ℕ
refusal_number NotSound = 1
refusal_number MediumTooShort = 2
refusal_number BlockNotOpen = 3
refusal_number PieceSize = 4
refusal_number NotGrowing = 5
refusal_number Growing = 6
refusal_number CopyNotRecorded = 7
refusal_number OutsideLimits = 8
refusal_number NoMoreGrowths = 9
refusal_number NotMoving = 10
refusal_number AlreadyCopied = 11
refusal_number NothingToRecord = 12
refusal_number NoRecord = 13
refusal_number NoSuchSpot = 14
refusal_number NoBlockThere = 15
refusal_number PageTooShort = 16
refusal_number NoSuchScene = 17
refusal_number FlushBlocks = 18
refusal_number FlushRecord = 19
refusal_number BeyondDoubling = 20
refusal_number OutsideSpan = 21

-- all of them, in the order of their numbers, from 1
unfoldable pub refusals : List Refusal
refusals =
    NotSound ∷ MediumTooShort ∷ BlockNotOpen ∷ PieceSize ∷ NotGrowing ∷ Growing ∷ CopyNotRecorded ∷ OutsideLimits ∷ NoMoreGrowths ∷ NotMoving
    ∷ AlreadyCopied ∷ NothingToRecord ∷ NoRecord ∷ NoSuchSpot ∷ NoBlockThere ∷ PageTooShort ∷ NoSuchScene ∷ FlushBlocks ∷ FlushRecord
    ∷ BeyondDoubling ∷ OutsideSpan ∷ []

-- the first number whose test holds; 0, which is no refusal's number, where none does
unfoldable pub refusal : (table : List (ℕ × Bool)) → ℕ
refusal [] = 0
refusal (check ∷ table) = cond check.1 check.0 (refusal table)

-- the table with one row more, directly after its first row of that number ("tested after 1 and before 2")
unfoldable pub row_after : (k : ℕ) (row : ℕ × Bool) (table : List (ℕ × Bool)) → List (ℕ × Bool)
row_after k row [] = []
row_after k row (check ∷ table) = cond (eqb check.0 k) (check ∷ row ∷ table) (check ∷ row_after k row table)

-- the refusal of a number; of a number that no refusal has, as 0 has none, the last one
unfoldable pub refusal_with : (k : ℕ) → Refusal
refusal_with k = find refusals
  where
    find : List Refusal → Refusal
    find [] = OutsideSpan
    find (r ∷ rest) = cond (eqb (refusal_number r) k) r (find rest)

-- What a test answers in the code where its table gives k: no refusal, or the one of this number.
unfoldable pub checked : (k : ℕ) → Result (Unit {0}) Refusal
checked k = cond (eqb k 0) (Ok tt) (Err (refusal_with k))
