use Rattle.layout.specs.History.{NotBefore}
use Rattle.layout.proofs.history.History.placed_by.Given as goal

abbrev pub invariant-loop-k : goal.invariant-loop-k
invariant-loop-k l = NotBefore l.self.rows l.k l.self.counts.now l.x
