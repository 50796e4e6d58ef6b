use Rattle.std.proofs.Common.{◌≡◌}
use Rattle.layout.specs.History.{There, history, spot_of}
use Rattle.layout.specs.Reasons.{reason_of, move_count_of}
use Rattle.layout.proofs.history.History.address_of.Given as goal

abbrev pub invariant-loop-k : goal.invariant-loop-k
invariant-loop-k l =
    There l.self.rows l.k l.self.counts.now l.number
    × (l.at ≡ spot_of l.self.rows (history l.k l.self.counts.now) l.number)
    × (l.reason ≡ reason_of l.self.rows (history l.k l.self.counts.now) l.number)
    × (l.moves ≡ move_count_of l.self.rows (history l.k l.self.counts.now) l.number)
