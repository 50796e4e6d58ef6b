use Rattle.std.proofs.Common.{◌≡◌, ◌*◌, drop}
use Rattle.base.specs.Bits.{word_of}
use Rattle.marks.specs.Marks.{moving_marks}
use Rattle.marks.proofs.words.cut_marks.Given as goal

-- the word is that of the marks from disk d on
abbrev pub invariant-loop-d : goal.invariant-loop-d
invariant-loop-d l = l.word ≡ word_of (drop (l.d * l.n) (moving_marks l.fn.window.growth.old l.n l.fn.window.rows l.fn.window.number))
