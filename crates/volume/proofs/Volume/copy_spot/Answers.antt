-- `copy_spot` meets its contract.
use Prim.Native.Nat.{◌<◌}
use mathlib.Core.Path.{◌≡◌, sym, ◌∙◌}
use mathlib.Core.Bool.{Bool, true, cond}
use Rattle.base.specs.declared.Refusal.TheVariants.{BlockNotOpen, NotMoving, AlreadyCopied}
use Rattle.base.specs.Refusals.{refusal, refusal_number}
use Rattle.layout.specs.History.{spot_of}
use Rattle.layout.specs.Tally.{open_blocks}
use Rattle.layout.specs.Windows.{moving_in}
use Rattle.marks.specs.Marks.{moves_at}
use Rattle.marks.proofs.BlocksCode.{mark_fits}
use Rattle.volume.specs.Calls.{block_rows, copy_table}
use Rattle.volume.specs.States.{tally_of}
use Rattle.volume.proofs.Accepted.{AdvanceFacts, growth_accepted}
use Rattle.volume.proofs.GrowthCode.{copy_refused, copy_not_open, copy_not_moving, copy_left}
use Rattle.volume.proofs.Judged.{exits, tells, err_tells, ok_takes, err_found, ok_found}
use Rattle.volume.proofs.LiveCode.{counts_now, counts_before, spot_in_growth, spot_is_old, disk_below, moves_read, mark_asks, mark_read, mark_set_read}
use Rattle.volume.proofs.Volume.copy_spot.Goals as goal
use Rattle.volume.proofs.Volume.copy_spot.Goals.{After-has_mark, After-moves_now, After-old_spot-spot, Else-not-moves_now, Else-open_blocks-x, In_ok-check_growth}

pub returns-in_err-check_growth : goal.returns-in_err-check_growth
returns-in_err-check_growth c =
    exits _ _ _ c.from_residual.ensures.1 (err_found _ _ _ (copy_refused _ _ _ (err_tells _ _ c.in_err-check_growth.ensures) _))

advances : (c : In_ok-check_growth) → AdvanceFacts c.args.self.now c.args.len
advances c = growth_accepted _ _ (ok_takes _ _ c.in_ok-check_growth.ensures)

pub open_blocks-requires : goal.open_blocks-requires
open_blocks-requires c = (advances (goal.at.open_blocks-requires c).In_ok-check_growth).is_sound

pub returns-then-open_blocks-x : goal.returns-then-open_blocks-x
unfolding refusal_number
returns-then-open_blocks-x c =
    err_found _ _ BlockNotOpen
    (tells _ _ (copy_not_open _ _ (ok_takes _ _ c.in_ok-check_growth.ensures) _ (rw c.open_blocks.ensures at c.if-open_blocks-x.true)))

block_open : (c : Else-open_blocks-x) → c.args.x.0 < open_blocks (tally_of c.args.self.now)
block_open c = rw c.open_blocks.ensures at c.if-open_blocks-x.false

pub old_spot-spot-requires : goal.old_spot-spot-requires
old_spot-spot-requires c =
    record {
      sound_state = (advances (goal.at.old_spot-spot-requires c).In_ok-check_growth).is_sound;
      x_bound = block_open (goal.at.old_spot-spot-requires c).Else-open_blocks-x;
    }

-- where it was
was_at : (c : After-old_spot-spot) → let v = c.args.self.now in c.old_spot-spot.result ≡ spot_of v.rows (counts_before v) c.args.x.0
was_at c =
    let a = growth_accepted _ _ (ok_takes _ _ c.in_ok-check_growth.ensures) in
    spot_in_growth _ a.is_sound _ (rw c.open_blocks.ensures at c.if-open_blocks-x.false) _ c.old_spot-spot.ensures a.is_growing

pub newest_growth-growth-requires : goal.newest_growth-growth-requires
newest_growth-growth-requires c =
    let a = advances (goal.at.newest_growth-growth-requires c).In_ok-check_growth in
    (a.is_sound, a.is_growing)

pub moves_now-requires : goal.moves_now-requires
moves_now-requires c =
    let a = advances (goal.at.moves_now-requires c).In_ok-check_growth in
    let g = c.newest_growth-growth.ensures in
    disk_below _ a.is_growing a.is_sound c.newest_growth-growth.result g.old g.added _ (block_open (goal.at.moves_now-requires c).Else-open_blocks-x) _
    (was_at (goal.at.moves_now-requires c).After-old_spot-spot)

-- whether it is a moving block of window w
moves_told_law : (c : After-moves_now)
    → let a = c.args in
    c.moves_now.result ≡ moving_in a.self.now.rows (counts_now a.self.now) a.self.now.window a.x.0
moves_told_law c =
    let a = growth_accepted _ _ (ok_takes _ _ c.in_ok-check_growth.ensures) in
    let g = c.newest_growth-growth.ensures in
    let is_open = rw c.open_blocks.ensures at c.if-open_blocks-x.false in
    let old = spot_in_growth _ a.is_sound _ is_open _ c.old_spot-spot.ensures a.is_growing in
    rw c.stage.ensures at c.moves_now.ensures
    ∙ moves_read _ a.is_growing a.is_sound c.newest_growth-growth.result g.old g.added _ is_open _ old

pub returns-then-not-moves_now : goal.returns-then-not-moves_now
unfolding refusal_number
returns-then-not-moves_now c =
    err_found _ _ NotMoving
    (tells _ _ (copy_not_moving _ _ (ok_takes _ _ c.in_ok-check_growth.ensures) _ (block_open (goal.at.returns-then-not-moves_now c).Else-open_blocks-x) _ (moves_told_law (goal.at.returns-then-not-moves_now c).After-moves_now) c.if-not-moves_now.true))

-- it is one, and so it has a mark
moves : (c : Else-not-moves_now)
    → moves_at c.newest_growth-growth.result.old c.newest_growth-growth.result.added c.args.self.now.window c.old_spot-spot.result ≡ true
moves c = sym (rw c.stage.ensures at c.moves_now.ensures) ∙ c.if-not-moves_now.false

pub mark_of_spot-mark-requires : goal.mark_of_spot-mark-requires
mark_of_spot-mark-requires c =
    let a = advances (goal.at.mark_of_spot-mark-requires c).In_ok-check_growth in
    let h = mark_asks _ a.is_growing a.is_sound c.newest_growth-growth.result c.newest_growth-growth.ensures.old c.newest_growth-growth.ensures.added _ (block_open (goal.at.mark_of_spot-mark-requires c).Else-open_blocks-x) _ (was_at (goal.at.mark_of_spot-mark-requires c).After-old_spot-spot) (moves (goal.at.mark_of_spot-mark-requires c).Else-not-moves_now) in
    h

pub has_mark-requires : goal.has_mark-requires
has_mark-requires c =
    let a = advances (goal.at.has_mark-requires c).In_ok-check_growth in
    let m = mark_asks _ a.is_growing a.is_sound c.newest_growth-growth.result c.newest_growth-growth.ensures.old c.newest_growth-growth.ensures.added _ (block_open (goal.at.has_mark-requires c).Else-open_blocks-x) _ (was_at (goal.at.has_mark-requires c).After-old_spot-spot) (moves (goal.at.has_mark-requires c).Else-not-moves_now) in
    rw c.mark_of_spot-mark.ensures (mark_fits _ _ _ c.newest_growth-growth.result.within_limits m)

last_test : (c : After-has_mark) (copied : Bool) → copied ≡ c.has_mark.result
    → let a = c.args in
    cond copied 11 (refusal (block_rows a.self.now)) ≡ refusal (copy_table a.self.now a.x.0 a.len)
last_test c copied t =
    let e = ok_takes _ _ c.in_ok-check_growth.ensures in
    let a = growth_accepted _ _ e in
    let is_open = rw c.open_blocks.ensures at c.if-open_blocks-x.false in
    let old = spot_in_growth _ a.is_sound _ is_open _ c.old_spot-spot.ensures a.is_growing in
    let told = rw c.stage.ensures at c.moves_now.ensures ∙ moves_read _ a.is_growing a.is_sound c.newest_growth-growth.result c.newest_growth-growth.ensures.old c.newest_growth-growth.ensures.added _ is_open _ old in
    let m = mark_set_read _ a.is_growing a.is_sound c.newest_growth-growth.result c.newest_growth-growth.ensures.old c.newest_growth-growth.ensures.added _ is_open _ old _ c.mark_of_spot-mark.ensures (sym (rw c.stage.ensures at c.moves_now.ensures) ∙ c.if-not-moves_now.false) _ _ c.has_mark.ensures in
    copy_left _ _ e _ is_open _ told c.if-not-moves_now.false copied (t ∙ m)

pub returns-then-has_mark : goal.returns-then-has_mark
unfolding refusal_number
returns-then-has_mark c =
    err_found _ _ AlreadyCopied (tells _ _ (last_test (goal.at.returns-then-has_mark c).After-has_mark _ (sym c.if-has_mark.true)))

pub returns-in_err-check_block_store : goal.returns-in_err-check_block_store
returns-in_err-check_block_store c =
    let r = c.from_residual-in_err-check_block_store in
    let left = last_test (goal.at.returns-in_err-check_block_store c).After-has_mark _ (sym c.if-has_mark.false) in
    exits _ _ _ r.ensures.1 (err_found _ _ _ (rw left at (err_tells _ _ c.in_err-check_block_store.ensures)))

pub returns : goal.returns
returns c =
    let a = advances (goal.at.returns c).In_ok-check_growth in
    let left = last_test (goal.at.returns c).After-has_mark _ (sym c.if-has_mark.false) in
    let is_open = block_open (goal.at.returns c).Else-open_blocks-x in
    let at_old = spot_is_old _ a.is_growing a.is_sound _ _ (was_at (goal.at.returns c).After-old_spot-spot) in
    let its_mark = mark_read _ a.is_growing a.is_sound c.newest_growth-growth.result c.newest_growth-growth.ensures.old c.newest_growth-growth.ensures.added _ is_open _ (was_at (goal.at.returns c).After-old_spot-spot) _ c.mark_of_spot-mark.ensures in
    ok_found _ _ _ (sym left ∙ ok_takes _ _ c.in_ok-check_block_store.ensures) (rw (at_old, its_mark))
