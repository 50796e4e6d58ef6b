-- `changes` has counted 255 changes at most for each byte.
use Rattle.std.proofs.Common.{◌*◌, ◌≤◌}
use Rattle.parts.proofs.records.changes.Given as goal

abbrev pub invariant-loop-at : goal.invariant-loop-at
invariant-loop-at l = l.total ≤ 255 * l.at-counter
