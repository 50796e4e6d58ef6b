-- `spot_of` meets its contract. The loop's invariant: the block is there after k growths, and spot is its spot then.
use Rattle.std.proofs.Common.{◌≡◌, arith}
use Rattle.layout.proofs.HistoryCode.{turn_there, turn_disk, spot_next}
use Rattle.layout.proofs.history.History.spot_of.Goals as goal

pub loop-k-init : goal.loop-k-init
loop-k-init c = (c.placed_by-placed.ensures.there, c.placed_at-spot.ensures)

pub old_block_spot-spot-requires : goal.old_block_spot-spot-requires
old_block_spot-spot-requires c =
    rw c.growth_after-growth.ensures.old (turn_disk _ _ _ c.args.self.counts.now c.args.self.within_limits _ _ (omega arith) c.loop-k.invariant.0 c.loop-k.invariant.1)

pub loop-k-preserved : goal.loop-k-preserved
loop-k-preserved c =
    let inv = c.loop-k.invariant in
    let g = c.growth_after-growth.ensures in (
      turn_there _ _ _ c.args.self.counts.now c.args.self.within_limits _ c.loop-k-test.true inv.0,
      spot_next _ _ c.args.self.counts.now _ _ _ inv.0 inv.1 (rw (g.old, g.added) at c.old_block_spot-spot.ensures),
    )

pub returns : goal.returns
returns c =
    let e : c.loop-k.k ≡ c.args.self.growths = omega arith in
    rw e at c.loop-k.invariant.1
