-- `marks_of` meets its contract.
use Rattle.std.proofs.Common.{◌≡◌, length, arith, rules}
use Rattle.std.proofs.lemmas.List.{set-get_or}
use Rattle.marks.proofs.WordsCode.{bits_next, bits_rest, still_unset, bits_all}
use Rattle.marks.proofs.words.marks_of.Goals as goal

pub loop-mark-preserved : goal.loop-mark-preserved
loop-mark-preserved c =
    let l = c.loop-mark in
    let e : length l.mark-items ≡ 64 = search rules in
    record {
      stored = bits_next 64 l.mark-index _ l.rest l.mark-items e (omega arith) l.invariant.stored;
      unset = still_unset 64 l.mark-index l.mark-items _ (omega arith) l.invariant.unset;
    }

pub returns-then-rest-eq0 : goal.returns-then-rest-eq0
returns-then-rest-eq0 c =
    let l = c.loop-mark in
    let z = c.if-rest-eq0.true in
    rw set-get_or (bits_rest 64 l.mark-index _ l.mark-items (rw z at l.invariant.stored) l.invariant.unset)

pub returns-after-loop-mark : goal.returns-after-loop-mark
returns-after-loop-mark c =
    let l = c.loop-mark in
    let k : l.mark-index ≡ 64 = omega arith in
    bits_all 64 _ l.rest l.mark-items c.loop-mark-test.array_long (rw k at l.invariant.stored)
