-- `block_at` meets its contract. The loop's invariant: the block at the spot after k growths is the one that is asked for.
use Rattle.std.proofs.Common.{refl, ◌∙◌, arith}
use Rattle.layout.proofs.HistoryCode.{back_disk, back_added, back_none, back_older, first_most, turn_disk_most, block_first}
use Rattle.layout.proofs.history.History.block_at.Goals as goal

pub loop-k-init : goal.loop-k-init
loop-k-init c = (c.requires, refl, refl)

pub added_index-q-requires : goal.added_index-q-requires
added_index-q-requires c =
    let g = c.growth_after-growth.ensures in
    back_disk _ _ _ c.loop-k.k c.args.self.counts.now c.args.self.within_limits (omega arith) (omega arith) _ _ g.old g.added _ _ c.loop-k.invariant.0 c.loop-k.invariant.1

pub returns-then-q-growth : goal.returns-then-q-growth
returns-then-q-growth c =
    let g = c.growth_after-growth.ensures in
    let inv = c.loop-k.invariant in
    back_added _ _ _ c.loop-k.k c.args.self.counts.now c.args.self.within_limits (omega arith) (omega arith) _ _ g.old g.added _ _ inv.0 inv.1 _ c.added_index-q.ensures c.if-q-growth.true
    ∙ inv.2

pub spot_before-spot-requires : goal.spot_before-spot-requires
spot_before-spot-requires c =
    let g = c.growth_after-growth.ensures in
    let inv = c.loop-k.invariant in (
      back_disk _ _ _ c.loop-k.k c.args.self.counts.now c.args.self.within_limits (omega arith) (omega arith) _ _ g.old g.added _ _ inv.0 inv.1,
      back_none _ _ _ c.loop-k.k c.args.self.counts.now c.args.self.within_limits (omega arith) (omega arith) _ _ g.old g.added _ _ inv.0 inv.1 _ c.added_index-q.ensures c.if-q-growth.false,
    )

pub loop-k-preserved : goal.loop-k-preserved
loop-k-preserved c =
    let g = c.growth_after-growth.ensures in
    let inv = c.loop-k.invariant in
    let o =
    back_older _ _ _ c.loop-k.k c.args.self.counts.now c.args.self.within_limits (omega arith) (omega arith) _ _ g.old g.added _ _ inv.0 inv.1 _ c.added_index-q.ensures
    _ c.if-q-growth.false c.spot_before-spot.ensures
    in
    (o.0, o.1, o.2 ∙ inv.2)

pub overflow_mul-result-2 : goal.overflow_mul-result-2
overflow_mul-result-2 c = omega (arith, first_most _ _ c.args.self.counts.now _ c.args.self.within_limits c.requires.row)

pub overflow_add-result-2 : goal.overflow_add-result-2
overflow_add-result-2 c =
    omega (
      arith,
      first_most _ _ c.args.self.counts.now _ c.args.self.within_limits c.requires.row,
      turn_disk_most _ _ c.loop-k.k c.args.self.counts.now c.args.self.within_limits _ (omega arith) c.loop-k.invariant.0,
    )

pub returns : goal.returns
returns c = block_first _ _ c.args.self.counts.now _ _ (omega arith) c.loop-k.invariant.1 ∙ c.loop-k.invariant.2
