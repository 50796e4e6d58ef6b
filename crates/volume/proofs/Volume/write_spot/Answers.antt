-- `write_spot` meets its contract.
use mathlib.Core.Path.{◌≡◌, sym, ◌∙◌}
use mathlib.Core.Bool.{false}
use Rattle.base.specs.declared.Refusal.TheVariants.{CopyNotRecorded}
use Rattle.base.specs.Refusals.{refusal, refusal_number}
use Rattle.layout.specs.History.{spot_of}
use Rattle.layout.specs.Tally.{waiting}
use Rattle.volume.specs.Calls.{write_table, block_rows}
use Rattle.volume.specs.States.{tally_of}
use Rattle.volume.proofs.Accepted.{read_accepted}
use Rattle.volume.proofs.BlockCode.{refused_as_read, refused_waiting}
use Rattle.volume.proofs.Judged.{exits, tells, err_tells, ok_takes, err_found, ok_found}
use Rattle.volume.proofs.LiveCode.{counts_before, rest_waiting, disk_below, waiting_read, spot_in_growth}
use Rattle.volume.proofs.Volume.write_spot.Goals as goal
use Rattle.volume.proofs.Volume.write_spot.Goals.{After-check_read, Joined-else-self-ne0, Then-self-ne0}

pub returns-in_err-check_read : goal.returns-in_err-check_read
returns-in_err-check_read c =
    exits _ _ _ c.from_residual.ensures.1 (err_found _ _ _ (refused_as_read _ _ _ _ _ (err_tells _ _ c.in_err-check_read.ensures)))

pub old_spot-old-requires : goal.old_spot-old-requires
old_spot-old-requires c =
    let a = read_accepted _ _ _ _ (ok_takes _ _ c.in_ok-check_read.ensures) in
    record { sound_state = a.is_sound; x_bound = a.block_open }

-- ---- while a growth runs
pub newest_growth-requires : goal.newest_growth-requires
newest_growth-requires c =
    ((read_accepted _ _ _ _ (ok_takes _ _ c.in_ok-check_read.ensures)).is_sound, c.if-self-ne0.true)

-- the old spot
was_at : (c : Then-self-ne0)
    → let a = c.args in
    c.old_spot-old.result ≡ spot_of a.self.now.rows (counts_before a.self.now) a.x.0
was_at c =
    let a = read_accepted _ _ _ _ (ok_takes _ _ c.in_ok-check_read.ensures) in
    spot_in_growth _ a.is_sound _ a.block_open _ c.old_spot-old.ensures c.if-self-ne0.true

pub is_waiting-requires : goal.is_waiting-requires
is_waiting-requires c =
    let a = read_accepted _ _ _ _ (ok_takes _ _ c.in_ok-check_read.ensures) in
    let g = c.newest_growth.ensures in
    disk_below _ c.if-self-ne0.true a.is_sound c.newest_growth.result g.old g.added _ a.block_open _ (was_at (goal.at.is_waiting-requires c).Then-self-ne0)

pub returns-then-is_waiting : goal.returns-then-is_waiting
unfolding refusal_number
returns-then-is_waiting c =
    let e = ok_takes _ _ c.in_ok-check_read.ensures in
    let a = read_accepted _ _ _ _ e in
    let w = waiting_read _ c.if-self-ne0.true a.is_sound c.newest_growth.result c.newest_growth.ensures.old c.newest_growth.ensures.added _ a.block_open _ (was_at (goal.at.returns-then-is_waiting c).Then-self-ne0) _ (rw c.stage.ensures at c.is_waiting.ensures) in
    err_found _ _ CopyNotRecorded (tells _ _ (sym (refused_waiting _ _ _ _ e ∙ simp (← w, c.if-is_waiting.true))))

-- ---- the block does not wait
not_waiting : (c : Joined-else-self-ne0)
    → let a = c.args in waiting (tally_of a.self.now) a.x.0 ≡ false
not_waiting c =
    elim c.else-self-ne0.branch [
      | goal.else-self-ne0-via-then-self-ne0+else-is_waiting w ↦
          let a = read_accepted _ _ _ _ (ok_takes _ _ c.in_ok-check_read.ensures) in
          let old = spot_in_growth _ a.is_sound _ a.block_open _ c.old_spot-old.ensures w.if-self-ne0.true in
          sym (waiting_read _ w.if-self-ne0.true a.is_sound w.newest_growth.result w.newest_growth.ensures.old w.newest_growth.ensures.added _ a.block_open _ old _ (rw w.stage.ensures at w.is_waiting.ensures)) ∙ w.if-is_waiting.false
      | goal.else-self-ne0-via-else-self-ne0 w ↦ sym (rest_waiting _ w.if-self-ne0.false _)
    ]

-- the last test is left
left : (c : Joined-else-self-ne0)
    → let a = c.args in refusal (write_table a.self.now a.x.0 a.piece a.len) ≡ refusal (block_rows a.self.now)
left c = refused_waiting _ _ _ _ (ok_takes _ _ c.in_ok-check_read.ensures) ∙ simp (not_waiting c)

pub returns-in_err-check_block_store : goal.returns-in_err-check_block_store
returns-in_err-check_block_store c =
    exits _ _ _ c.from_residual-in_err-check_block_store.ensures.1 (err_found _ _ _ (rw (left (goal.at.returns-in_err-check_block_store c).Joined-else-self-ne0) (err_tells _ _ c.in_err-check_block_store.ensures)))

pub live_spot_from-requires : goal.live_spot_from-requires
live_spot_from-requires c =
    let a = read_accepted _ _ _ _ (ok_takes _ _ c.in_ok-check_read.ensures) in
    record { sound_state = a.is_sound; x_bound = a.block_open; at_old_spot = c.old_spot-old.ensures }

pub returns : goal.returns
returns c = ok_found _ _ _ (left (goal.at.returns c).Joined-else-self-ne0 ∙ ok_takes _ _ c.in_ok-check_block_store.ensures) c.live_spot_from.ensures
