-- `address_of` meets its contract. The loop's invariant: at, reason and moves are those of the block after k growths, and it is there then.
use Rattle.std.proofs.Common.{◌≡◌, ◌+◌, ◌<◌, ◌∙◌, arith}
use Rattle.layout.specs.History.{history}
use Rattle.layout.specs.Reasons.{reason_of, move_count_of, address_of}
use Rattle.layout.proofs.HistoryCode.{growths_most, limits_at, turn_there, turn_disk, spot_next, reason_placed, reason_next, moves_placed, moves_next, moves_below}
use Rattle.layout.proofs.history.History.address_of.Goals as goal
use Rattle.layout.proofs.history.History.address_of.Goals.{After-growth_after-growth, After-after-reason, After-moves_after-moves}

pub loop-k-init : goal.loop-k-init
loop-k-init c =
    let by = c.placed_by-placed.ensures in
    let l = c.args.self.counts.now in (
      by.there,
      c.placed_at-at.ensures,
      c.placed_by-reason.ensures ∙ reason_placed _ _ l _ by.not_before,
      moves_placed _ _ l _ (limits_at _ _ _ l c.args.self.within_limits by.no_later).rise by.not_before,
    )

-- the block is on a disk that is there before the growth
old_disk : (c : After-growth_after-growth) → c.loop-k.at.disk < c.growth_after-growth.result.old
old_disk c =
    let inv = c.loop-k.invariant in
    rw c.growth_after-growth.ensures.old (turn_disk _ _ _ c.args.self.counts.now c.args.self.within_limits _ _ (omega arith) inv.0 inv.1)

pub old_change-change-requires : goal.old_change-change-requires
old_change-change-requires c = old_disk (goal.at.old_change-change-requires c).After-growth_after-growth

pub old_block_spot-at-requires : goal.old_block_spot-at-requires
old_block_spot-at-requires c = old_disk (goal.at.old_block_spot-at-requires c).After-growth_after-growth

pub moves_after-moves-requires : goal.moves_after-moves-requires
moves_after-moves-requires c =
    let l = c.args.self.counts.now in
    moves_below _ _ _ l _ _ (growths_most _ _ l c.args.self.within_limits) (omega arith) c.loop-k.invariant.3

-- why the block is there and by how many growths it was moved, after a turn
reason_turn : (c : After-after-reason) → c.after-reason.result ≡ reason_of c.args.self.rows (history (c.loop-k.k + 1) c.args.self.counts.now) c.args.x.0
reason_turn c =
    let inv = c.loop-k.invariant in
    let g = c.growth_after-growth.ensures in
    reason_next _ _ c.args.self.counts.now _ _ _ _ _ inv.0 inv.1 inv.2 (rw (g.old, g.added) at c.old_change-change.ensures) c.after-reason.ensures

moves_turn : (c : After-moves_after-moves) → c.moves_after-moves.result ≡ move_count_of c.args.self.rows (history (c.loop-k.k + 1) c.args.self.counts.now) c.args.x.0
moves_turn c =
    let inv = c.loop-k.invariant in
    let g = c.growth_after-growth.ensures in
    moves_next _ _ c.args.self.counts.now _ _ _ _ _ inv.0 inv.1 inv.3 (rw (g.old, g.added) at c.old_change-change.ensures) c.moves_after-moves.ensures

pub loop-k-preserved : goal.loop-k-preserved
loop-k-preserved c =
    let inv = c.loop-k.invariant in
    let g = c.growth_after-growth.ensures in (
      turn_there _ _ _ c.args.self.counts.now c.args.self.within_limits _ c.loop-k-test.true inv.0,
      spot_next _ _ c.args.self.counts.now _ _ _ inv.0 inv.1 (rw (g.old, g.added) at c.old_block_spot-at.ensures),
      reason_turn (goal.at.loop-k-preserved c).After-after-reason,
      moves_turn (goal.at.loop-k-preserved c).After-moves_after-moves,
    )

pub returns : goal.returns
unfolding address_of
returns c =
    let e : c.loop-k.k ≡ c.args.self.growths = omega arith in
    rw (c.loop-k.invariant.1, c.loop-k.invariant.2, c.loop-k.invariant.3, e)
