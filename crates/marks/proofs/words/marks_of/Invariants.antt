use Rattle.std.proofs.Common.{◌≡◌, ◌-◌, ◌++◌, false, take, drop, replicate}
use Rattle.base.specs.Bits.{bits}
use Rattle.marks.proofs.words.marks_of.Given as goal

-- the marks passed are stored, the others are those of the rest and not set yet
abbrev pub invariant-loop-mark : goal.invariant-loop-mark
invariant-loop-mark l = record {
  stored : bits 64 l.word ≡ take l.mark-index l.mark-items ++ bits (64 - l.mark-index) l.rest;
  unset : drop l.mark-index l.mark-items ≡ replicate (64 - l.mark-index) false;
}
