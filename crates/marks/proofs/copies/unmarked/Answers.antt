-- `unmarked` meets its contract.
use Rattle.std.proofs.Common.{arith}
use Rattle.marks.proofs.MarkWords.{unset_left, left_count}
use Rattle.marks.proofs.copies.unmarked.Goals as goal

pub returns : goal.returns
returns c = left_count _ _ _ _ _ _ (unset_left _ _ _ _ _ _ c.args.window.growth.within_limits (omega arith) c.unset_marks.ensures)
