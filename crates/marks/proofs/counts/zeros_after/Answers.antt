-- `zeros_after` meets its contract.
use Rattle.std.proofs.Common.{rules}
use Rattle.marks.proofs.CountsCode.{zeros_told}
use Rattle.marks.proofs.counts.zeros_after.Goals as goal

pub returns : goal.returns
returns c = zeros_told _ _ _ (search rules) c.iter.ensures.rest _ (search rules)
