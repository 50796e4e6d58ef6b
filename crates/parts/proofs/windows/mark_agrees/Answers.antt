-- `mark_agrees` asks for marks and spots that are there.
use Rattle.std.proofs.Common.{◌<◌, arith}
use Rattle.layout.proofs.MarkSpots.{mark_spot_disk, mark_spot_moves}
use Rattle.layout.proofs.WindowsCode.{marks_most}
use Rattle.parts.proofs.windows.mark_agrees.Goals as goal
use Rattle.parts.proofs.windows.mark_agrees.Goals.{Else-growth-j}

below : (c : Else-growth-j) → c.args.j < 64
below c = omega (arith, marks_most _ _ c.args.window.growth.within_limits.most)

pub row_exists-requires : goal.row_exists-requires
row_exists-requires c = below (goal.at.row_exists-requires c).Else-growth-j

pub spot_of_mark-requires : goal.spot_of_mark-requires
spot_of_mark-requires c = below (goal.at.spot_of_mark-requires c).Else-growth-j

pub mark_of_spot-requires : goal.mark_of_spot-requires
mark_of_spot-requires c =
    let v = c.args.window in
    let g = v.growth.within_limits in
    rw c.spot_of_mark.ensures (
      mark_spot_disk v.growth.old v.growth.added g.old g.added v.number c.args.j c.if-growth-j.false,
      mark_spot_moves v.growth.old v.growth.added g.old g.added v.number c.args.j c.if-growth-j.false,
    )
