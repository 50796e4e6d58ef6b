-- A set of 64 marks as a word: mark j is bit j.
use Rattle.std.specs.Prelude.{ℕ, Bool, List}
use Rattle.base.specs.Bits.{bits}
use Rattle.marks.specs.Marks.{mark_count}

-- the set of marks that a word holds
abbrev pub marks_of : (word : ℕ) → List Bool
marks_of word = bits mark_count word
