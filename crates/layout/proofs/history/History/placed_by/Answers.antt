-- `placed_by` meets its contract. The loop's invariant: the block is not there before growth k.
use Rattle.std.proofs.Common.{◌≡◌, refl, inl, arith}
use Rattle.layout.proofs.HistoryCode.{growths_most, there_counted, not_before_next, blocks_most}
use Rattle.layout.proofs.history.History.placed_by.Goals as goal

pub loop-k-init : goal.loop-k-init
loop-k-init c = inl refl

pub bounds-self-k : goal.bounds-self-k
bounds-self-k c = omega (arith, growths_most _ _ c.args.self.counts.now c.args.self.within_limits)

pub offset_bounds-self-k : goal.offset_bounds-self-k
offset_bounds-self-k c = omega (arith, growths_most _ _ c.args.self.counts.now c.args.self.within_limits)

pub overflow_mul-self : goal.overflow_mul-self
overflow_mul-self c = omega (arith, blocks_most _ _ c.loop-k.k c.args.self.counts.now c.args.self.within_limits (omega arith))

pub returns-then-x-self : goal.returns-then-x-self
returns-then-x-self c =
    record { no_later = omega arith; there = there_counted _ _ c.args.self.counts.now _ c.if-x-self.true; not_before = c.loop-k.invariant }

pub loop-k-preserved : goal.loop-k-preserved
loop-k-preserved c = not_before_next _ _ c.args.self.counts.now _ c.if-x-self.false

pub returns : goal.returns
returns c =
    let e : c.loop-k.k ≡ c.args.self.growths = omega arith in
    record { no_later = omega arith; there = c.requires; not_before = rw e at c.loop-k.invariant }
