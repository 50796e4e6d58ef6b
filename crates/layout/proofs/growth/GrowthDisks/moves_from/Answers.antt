-- `moves_from` meets its contract.
use Rattle.std.proofs.Common.{◌+◌, ◌<◌, arith, mod-lt}
use Rattle.layout.specs.Growth.{moves_from}
use Rattle.layout.proofs.GrowthCode.{one_test}
use Rattle.layout.proofs.growth.GrowthDisks.moves_from.Goals as goal

pub returns : goal.returns
unfolding moves_from
returns c =
    let g = c.args.self in
    let some : 0 < g.old + g.added = omega arith in
    rw c.row_in_window-b1.ensures
    (one_test g.added c.args.p.disk _ (omega arith) (omega arith) (omega arith) (omega (arith, mod-lt c.args.p.row.0 some)))
