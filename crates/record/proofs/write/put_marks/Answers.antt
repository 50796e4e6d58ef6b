-- `put_marks` meets its contract.
use mathlib.Core.Path.{◌≡◌, refl}
use mathlib.Core.Bool.{false}
use lib.ListN.{get_or}
use Rattle.base.specs.Below.{table}
use Rattle.record.specs.Sector.{mark_byte, mark_bytes}
use Rattle.record.proofs.WriteCode.{marks_next}
use Rattle.record.proofs.write.put_marks.Goals as goal
use Rattle.record.proofs.write.put_marks.Goals.{Joined-mark, then-mark, else-mark}

pub loop-i-init : goal.loop-i-init
unfolding mark_bytes table
loop-i-init c = refl

-- either arm gives the byte of the definition
stored : (c : Joined-mark) → c.if-mark.bytes ≡ mark_byte (get_or c.args.marks.now c.loop-i.i false)
stored c = elim c.if-mark.branch [ then-mark w ↦ rw w.if-mark.true w.bytes-is | else-mark w ↦ rw w.if-mark.false w.bytes-is ]

pub loop-i-preserved : goal.loop-i-preserved
loop-i-preserved c =
    let lp = c.loop-i in
    rw (stored (goal.at.loop-i-preserved c).Joined-mark, lp.invariant) (marks_next c.args.bytes.now c.args.marks.now lp.i)
