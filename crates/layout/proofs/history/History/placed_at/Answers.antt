-- `placed_at` meets its contract.
use Rattle.std.proofs.Common.{◌-◌, ◌*◌, ◌+◌, ◌≡◌, ◌≤◌, get_or, ◌∙◌, arith}
use Rattle.layout.proofs.HistoryCode.{not_before_counted, first_count, blocks_most, spot_first, spot_placed}
use Rattle.layout.proofs.history.History.placed_at.Goals as goal
use Rattle.layout.proofs.history.History.placed_at.Goals.{After-growth_after-growth}

pub nonzero_rem-result : goal.nonzero_rem-result
nonzero_rem-result c = first_count _ _ 0 c.args.self.counts.now c.args.self.within_limits

pub nonzero_div-result : goal.nonzero_div-result
nonzero_div-result c = first_count _ _ 0 c.args.self.counts.now c.args.self.within_limits

pub returns-then-k-eq0 : goal.returns-then-k-eq0
returns-then-k-eq0 c = spot_first _ _ c.args.self.counts.now _ c.if-k-eq0.true

-- the block is none of the old ones
added : (c : After-growth_after-growth) → get_or c.args.self.counts.now (c.args.k - 1) 0 * c.args.self.rows ≤ c.args.x
added c = not_before_counted _ (c.args.k - 1) c.args.k c.args.self.counts.now _ (omega arith) c.requires.not_before

pub overflow_mul-growth : goal.overflow_mul-growth
overflow_mul-growth c =
    rw c.growth_after-growth.ensures.old
    (omega (arith, blocks_most _ _ (c.args.k - 1) c.args.self.counts.now c.args.self.within_limits (omega arith)))

pub overflow_sub-x : goal.overflow_sub-x
overflow_sub-x c = rw c.growth_after-growth.ensures.old (added (goal.at.overflow_sub-x c).After-growth_after-growth)

pub returns : goal.returns
returns c =
    let e : c.args.k - 1 + 1 ≡ c.args.k = omega arith in
    let g = c.growth_after-growth.ensures in
    (rw (g.old, g.added, e) at c.added_spot.ensures)
    ∙ spot_placed _ (c.args.k - 1) c.args.k c.args.self.counts.now _ (omega arith) (added (goal.at.returns c).After-growth_after-growth)
