-- The bits of a word, lowest first.
use Rattle.std.specs.Prelude.{ℕ, zero, suc, ◌+◌, ◌*◌, ◌/◌, ◌%◌, Bool, cond, List, [], ◌∷◌, eqb}

-- the lowest so many bits of a word, bit 0 first
unfoldable pub bits : (count word : ℕ) → List Bool
bits zero word = []
bits (suc count) word = eqb (word % 2) 1 ∷ bits count (word / 2)

-- the word with these bits
unfoldable pub word_of : (list : List Bool) → ℕ
word_of [] = 0
word_of (bit ∷ rest) = cond bit 1 0 + 2 * word_of rest
