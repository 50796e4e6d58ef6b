use Rattle.std.proofs.Common.{◌≡◌}
use Rattle.layout.specs.History.{Within, history, block_at}
use Rattle.layout.proofs.history.History.block_at.Given as goal

abbrev pub invariant-loop-k : goal.invariant-loop-k
invariant-loop-k l =
    Within l.self.rows (history l.k l.self.counts.now) l.spot
    × (l.spot.row.0 ≡ l.b)
    × (block_at l.self.rows (history l.k l.self.counts.now) l.spot ≡ block_at l.self.rows (history l.self.growths l.self.counts.now) l.fn.p)
