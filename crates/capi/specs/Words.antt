-- The state in sixteen words, as it crosses to programs in other languages: Z, s, t, N[0] to N[7], growing, w, the recorded marks, the
-- copied marks, and what is pending. A word of marks has mark j as its bit j.
use Rattle.std.specs.Prelude.{ℕ, ◌+◌, ◌/◌, ◌%◌, Bool, cond, ◌&&◌, List, [], ◌∷◌, ◌++◌, eqb, leb, length, take, drop, get_or}
use Rattle.volume.specs.declared.Pending.{Pending}
use Rattle.volume.specs.declared.Volume.{Volume}
use Rattle.volume.specs.Records.{numbers_of}

abbrev pub state_words : ℕ
state_words = 16

-- what is pending: 1 for a record, 2 for blocks, 3 for both
unfoldable pub pending_word : (p : Pending) → ℕ
pending_word p = cond p.records 1 0 + cond p.blocks 2 0

unfoldable pub pending_from : (word : ℕ) → Pending
pending_from word = record { records = eqb (word % 2) 1; blocks = eqb (word / 2) 1 }

-- the words of a state: the numbers of its record, the two words of marks, and what is pending
unfoldable pub words_of : (v : Volume) → List ℕ
words_of v = numbers_of v ++ (v.recorded ∷ v.copied ∷ pending_word v.pending ∷ [])

-- the state of words
unfoldable pub state_from : (words : List ℕ) → Volume
state_from words =
    record {
      size = get_or words 0 0;
      rows = get_or words 1 0;
      growths = get_or words 2 0;
      counts = take 8 (drop 3 words);
      growing = get_or words 11 0;
      window = get_or words 12 0;
      recorded = get_or words 13 0;
      copied = get_or words 14 0;
      pending = pending_from (get_or words 15 0);
    }

-- are these the words of a state: so many, and the last says what is pending
abbrev pub most_pending : ℕ
most_pending = 3

unfoldable pub are_state : (words : List ℕ) → Bool
are_state words = eqb (length words) state_words && leb (get_or words 15 0) most_pending
