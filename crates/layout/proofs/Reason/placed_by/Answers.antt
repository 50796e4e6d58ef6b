-- `Reason::placed_by` meets its contract.
use Rattle.std.proofs.Common.{arith}
use Rattle.layout.specs.Reasons.{placed_reason}
use Rattle.layout.proofs.HistoryCode.{placed_added}
use Rattle.layout.proofs.Reason.placed_by.Goals as goal

pub returns-then-k-eq0 : goal.returns-then-k-eq0
unfolding placed_reason
returns-then-k-eq0 c = rw c.if-k-eq0.true

pub returns : goal.returns
returns c = placed_added _ (omega arith)
