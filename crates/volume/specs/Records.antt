-- Document 01, "The record holds the state with recorded marks only": the record of a state, and the state of a record.
use Rattle.std.specs.Prelude.{ℕ, Bool, false, ◌&&◌, List, [], ◌∷◌, ◌++◌, take, drop, get_or, replicate, Result, Ok, Err, is_ok}
use Rattle.base.specs.Bits.{word_of}
use Rattle.base.specs.declared.Refusal.{Refusal}
use Rattle.marks.specs.Words.{marks_of}
use Rattle.record.specs.declared.Record.{Record}
use Rattle.record.specs.Sector.{column_count, mark_count, sector, read_record}
use Rattle.volume.specs.declared.Volume.{Volume}
use Rattle.volume.specs.States.{new_state, with_growth}
use Rattle.volume.specs.Sound.{sound}

-- the numbers of the record's thirteen columns
unfoldable pub numbers_of : (v : Volume) → List ℕ
numbers_of v = v.size ∷ v.rows ∷ v.growths ∷ (v.counts ++ (v.growing ∷ v.window ∷ []))

-- the record of a state, 512 bytes
unfoldable pub record_of : (v : Volume) → List ℕ
record_of v = sector (numbers_of v) (marks_of v.recorded)

-- the state of a record's numbers and marks; "sets copied to recorded"
unfoldable pub state_of : (numbers : List ℕ) (marks : List Bool) → Volume
state_of numbers marks =
    with_growth (new_state (get_or numbers 0 0) (get_or numbers 1 0) 0) (get_or numbers 2 0) (take 8 (drop 3 numbers)) (get_or numbers 11 0) (get_or numbers 12 0) (word_of marks) (word_of marks)

-- of what reading a record gives; of zeros where it gives none
unfoldable pub state_found : (found : Result Record Refusal) → Volume
state_found (Ok found) = state_of found.numbers found.marks
state_found (Err refusal) = state_of (replicate column_count 0) (replicate mark_count false)

unfoldable pub state_read : (bytes : List ℕ) → Volume
state_read bytes = state_found (read_record bytes)

-- are the bytes a sound state's record
unfoldable pub is_sound_record : (bytes : List ℕ) → Bool
is_sound_record bytes = is_ok (read_record bytes) && sound (state_read bytes)
