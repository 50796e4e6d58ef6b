-- `moves_of_window` meets its contract.
use Rattle.std.proofs.Common.{◌*◌, ◌<◌, ◌∙◌, suc-mul, arith}
use Rattle.layout.proofs.NewestCode.{window_starts, whole_moves, cut_is}
use Rattle.window.proofs.moves_of_window.Goals as goal
use Rattle.window.proofs.moves_of_window.Goals.{After-disks-k}

-- window w starts before row s
starts : (c : After-disks-k) → c.args.w * c.disks-k.result < c.args.h.rows
starts c =
    let g = c.newest_growth-growth.ensures in
    rw c.disks-k.ensures (window_starts _ _ c.args.h.within_limits c.newest_growth-growth.result g.old g.added _ c.requires.window)

pub overflow_mul-rest : goal.overflow_mul-rest
overflow_mul-rest c = omega (arith, starts (goal.at.overflow_mul-rest c).After-disks-k)

pub overflow_sub-rest : goal.overflow_sub-rest
overflow_sub-rest c = omega (arith, starts (goal.at.overflow_sub-rest c).After-disks-k)

pub returns-then-k-rest : goal.returns-then-k-rest
returns-then-k-rest c =
    let g = c.newest_growth-growth.result in
    let is = c.newest_growth-growth.ensures in
    whole_moves _ _ c.args.h.within_limits g is.old is.added _
    (rw (← c.disks-k.ensures) (omega (arith, c.if-k-rest.true, starts (goal.at.returns-then-k-rest c).After-disks-k, suc-mul c.args.w c.disks-k.result)))

pub returns : goal.returns
returns c =
    let g = c.newest_growth-growth.result in
    let is = c.newest_growth-growth.ensures in
    c.cut_moves.ensures
    ∙ cut_is _ _ c.args.h.within_limits g is.old is.added _ _
    (rw (← c.disks-k.ensures) (omega (arith, starts (goal.at.returns c).After-disks-k)))
