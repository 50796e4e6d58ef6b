-- `check_block_store` meets its contract.
use Rattle.base.specs.declared.Refusal.TheVariants.{FlushRecord}
use Rattle.base.specs.Refusals.{refusal, refusal_number}
use Rattle.volume.proofs.Judged.{tells, err_checked, ok_checked}
use Rattle.volume.proofs.Volume.check_block_store.Goals as goal

pub returns-then-self : goal.returns-then-self
unfolding refusal refusal_number
returns-then-self c = err_checked _ FlushRecord (tells _ _ (simp c.if-self.true))

pub returns : goal.returns
unfolding refusal
returns c = ok_checked _ (simp c.if-self.false)
