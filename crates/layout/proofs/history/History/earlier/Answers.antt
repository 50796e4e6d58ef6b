-- `earlier` meets its contract.
use Rattle.std.proofs.Common.{arith}
use Rattle.layout.proofs.HistoryCode.{limits_at}
use Rattle.layout.proofs.history.History.earlier.Goals as goal

pub invariant_of-result : goal.invariant_of-result
invariant_of-result c = record { within_limits = limits_at _ _ _ c.args.self.counts.now c.args.self.within_limits (omega arith) }
