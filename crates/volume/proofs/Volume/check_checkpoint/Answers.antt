-- `check_checkpoint` meets its contract.
use mathlib.Core.Path.{sym}
use borrow.Author.Tests.{eq-eqb, ne_eqb}
use Rattle.base.specs.declared.Refusal.TheVariants.{NothingToRecord}
use Rattle.base.specs.Refusals.{refusal_number}
use Rattle.volume.proofs.GrowthCode.{checkpoint_refused, checkpoint_left}
use Rattle.volume.proofs.Judged.{exits, tells, err_tells, ok_takes, err_checked}
use Rattle.volume.proofs.Volume.check_checkpoint.Goals as goal

pub returns-in_err-check_growth : goal.returns-in_err-check_growth
returns-in_err-check_growth c =
    exits _ _ _ c.from_residual.ensures.1 (err_checked _ _ (checkpoint_refused _ _ _ (err_tells _ _ c.in_err-check_growth.ensures)))

pub returns-then-self : goal.returns-then-self
unfolding refusal_number
returns-then-self c =
    err_checked _ NothingToRecord (tells _ _ (checkpoint_left _ _ (ok_takes _ _ c.in_ok-check_growth.ensures) _ (sym (eq-eqb _ _ c.if-self.true))))

pub returns : goal.returns
returns c =
    rw (checkpoint_left _ _ (ok_takes _ _ c.in_ok-check_growth.ensures) _ (sym (ne_eqb _ _ c.if-self.false))) at c.check_record_store.ensures
