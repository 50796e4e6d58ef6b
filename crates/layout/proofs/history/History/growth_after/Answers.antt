-- `growth_after` meets its contract.
use Rattle.std.proofs.Common.{arith}
use Rattle.layout.proofs.HistoryCode.{growths_most, turn_up, turn_grows}
use Rattle.layout.proofs.history.History.growth_after.Goals as goal

pub offset_bounds-self-k : goal.offset_bounds-self-k
offset_bounds-self-k c = omega (arith, growths_most _ _ c.args.self.counts.now c.args.self.within_limits)

pub bounds-self-k : goal.bounds-self-k
bounds-self-k c = omega (arith, growths_most _ _ c.args.self.counts.now c.args.self.within_limits)

pub offset_bounds-self-k-2 : goal.offset_bounds-self-k-2
offset_bounds-self-k-2 c = omega (arith, growths_most _ _ c.args.self.counts.now c.args.self.within_limits)

pub bounds-self-k-2 : goal.bounds-self-k-2
bounds-self-k-2 c = omega (arith, growths_most _ _ c.args.self.counts.now c.args.self.within_limits)

pub overflow_sub-added : goal.overflow_sub-added
overflow_sub-added c = omega (arith, turn_up _ _ _ c.args.self.counts.now c.args.self.within_limits c.requires)

pub invariant_of-result : goal.invariant_of-result
invariant_of-result c = record { within_limits = turn_grows _ _ _ c.args.self.counts.now c.args.self.within_limits c.requires }
