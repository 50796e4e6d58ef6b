use Rattle.marks.proofs.MarkWords.{Passed}
use Rattle.marks.proofs.words.word_of.Given as goal

abbrev pub invariant-loop-mark : goal.invariant-loop-mark
invariant-loop-mark l = record {
  can : (goal.iterator-loop-mark).can_next l.mark-iterator;
  finite : (goal.iterator-loop-mark).is_finite l.mark-iterator;
  passed : Passed l.fn.marks l.mark-iterator.iter.rest.now l.word;
}
