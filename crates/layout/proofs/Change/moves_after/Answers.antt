-- `Change::moves_after` meets its contract.
use Rattle.layout.specs.Reasons.{moves_after}
use Rattle.layout.proofs.Change.moves_after.Goals as goal

pub returns-in-Moved : goal.returns-in-Moved
unfolding moves_after
returns-in-Moved c = rw c.in-Moved.is

pub returns-in-Added : goal.returns-in-Added
unfolding moves_after
returns-in-Added c = rw c.in-Added.is

pub returns-in-Stays : goal.returns-in-Stays
unfolding moves_after
returns-in-Stays c = rw c.in-Stays.is
