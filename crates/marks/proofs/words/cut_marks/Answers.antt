-- `cut_marks` meets its contract.
use Rattle.std.proofs.Common.{◌≡◌, ◌+◌, ◌*◌, ◌-◌, ◌%◌, ◌^◌, drop, arith}
use native.Mathlib.Nat.{zero-mul}
use Rattle.base.specs.Bits.{word_of}
use Rattle.marks.specs.Marks.{moving_marks}
use Rattle.marks.proofs.MarkSets.{moving_length}
use Rattle.marks.proofs.MarkWords.{word_fits}
use Rattle.marks.proofs.MarksByDisk.{past_last, disk_more, room_left}
use Rattle.marks.proofs.WordsCode.{one_shl}
use Rattle.marks.proofs.words.cut_marks.Goals as goal
use Rattle.marks.proofs.words.cut_marks.Goals.{After-disk_marks}

pub loop-d-init : goal.loop-d-init
loop-d-init c = past_last _ _ _ _ c.args.window.growth.within_limits

pub overflow_mul-word : goal.overflow_mul-word
overflow_mul-word c =
    let g = c.args.window.growth in
    let l = c.loop-d in
    record { fits = rw (one_shl g.added (omega arith)) (room_left _ _ _ _ g.within_limits l.d l.word (omega arith) (omega arith) l.invariant) }

-- the word with the marks of one disk more
word_then : (c : After-disk_marks)
    → c.loop-d.word * ((1 * 2 ^ c.args.window.growth.added) % 2 ^ 64) + c.disk_marks.result
    ≡ (let v = c.args.window in
    word_of (drop ((c.loop-d.d - 1) * v.growth.added) (moving_marks v.growth.old v.growth.added v.rows v.number)))
word_then c =
    let g = c.args.window.growth in
    let l = c.loop-d in
    rw (one_shl g.added (omega arith))
    (disk_more _ _ _ _ g.within_limits l.d l.word c.disk_marks.result (omega arith) (omega arith) l.invariant
    (rw (c.saturating_sub-rows.ensures, c.disks.ensures) at c.disk_marks.ensures))

pub overflow_add-word : goal.overflow_add-word
overflow_add-word c =
    let v = c.args.window in
    let g = v.growth in
    let d = (goal.at.overflow_add-word c).After-disk_marks in
    record { fits = rw (word_then d) (word_fits (moving_marks g.old g.added v.rows v.number) ((c.loop-d.d - 1) * g.added) (moving_length g.old g.added v.rows v.number)) }

pub loop-d-preserved : goal.loop-d-preserved
loop-d-preserved c = word_then (goal.at.loop-d-preserved c).After-disk_marks

pub returns : goal.returns
returns c =
    let e : c.loop-d.d ≡ 0 = omega arith in
    rw (e, zero-mul) at c.loop-d.invariant
