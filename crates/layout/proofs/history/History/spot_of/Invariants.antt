use Rattle.std.proofs.Common.{◌≡◌}
use Rattle.layout.specs.History.{There, history, spot_of}
use Rattle.layout.proofs.history.History.spot_of.Given as goal

abbrev pub invariant-loop-k : goal.invariant-loop-k
invariant-loop-k l = There l.self.rows l.k l.self.counts.now l.number × (l.spot ≡ spot_of l.self.rows (history l.k l.self.counts.now) l.number)
