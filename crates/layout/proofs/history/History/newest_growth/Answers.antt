-- `History::newest_growth` meets its contract.
use Rattle.std.proofs.Common.{refl, arith}
use Rattle.layout.specs.History.{newest_growth}
use Rattle.layout.proofs.HistoryCode.{growths_most, newest_grows}
use Rattle.layout.proofs.history.History.newest_growth.Goals as goal

pub newest_growth-m-requires : goal.newest_growth-m-requires
newest_growth-m-requires c =
    let a = c.args.self.within_limits in
    (omega arith, growths_most _ _ c.args.self.counts.now a, a.rise)

pub invariant_of-result : goal.invariant_of-result
unfolding newest_growth
invariant_of-result c =
    record { within_limits = rw c.newest_growth-m.ensures (newest_grows _ _ c.args.self.counts.now (omega arith) c.args.self.within_limits) }

pub returns-clause-old : goal.returns-clause-old
unfolding newest_growth
returns-clause-old c = rw c.newest_growth-m.ensures refl

pub returns-clause-added : goal.returns-clause-added
unfolding newest_growth
returns-clause-added c = rw c.newest_growth-m.ensures refl
