-- `check_record_store` meets its contract.
use mathlib.Core.Path.{refl, sym, ◌∙◌}
use mathlib.Core.List.{[], ◌∷◌}
use Rattle.base.specs.declared.Refusal.TheVariants.{FlushBlocks}
use Rattle.base.specs.Refusals.{refusal, refusal_number}
use Rattle.base.proofs.Refusals.{passed_first}
use Rattle.volume.specs.Calls.{block_rows}
use Rattle.volume.proofs.Judged.{exits, tells, tells_before, err_checked, ok_checked, err_tells, ok_takes}
use Rattle.volume.proofs.Volume.check_record_store.Goals as goal

pub returns-in_err-check_block_store : goal.returns-in_err-check_block_store
returns-in_err-check_block_store c =
    let v = c.args.self.now in
    exits _ _ _ c.from_residual.ensures.1 (err_checked _ _ (tells_before (block_rows v) ((18, v.pending.blocks) ∷ []) _ (err_tells _ _ c.in_err-check_block_store.ensures)))

pub returns-then-self : goal.returns-then-self
unfolding refusal refusal_number
returns-then-self c =
    let v = c.args.self.now in
    let e = ok_takes (refusal (block_rows v)) _ c.in_ok-check_block_store.ensures in
    err_checked _ FlushBlocks (tells _ _ (sym (passed_first (block_rows v) ((18, v.pending.blocks) ∷ []) refl e ∙ simp c.if-self.true)))

pub returns : goal.returns
unfolding refusal
returns c =
    let v = c.args.self.now in
    let e = ok_takes (refusal (block_rows v)) _ c.in_ok-check_block_store.ensures in
    ok_checked _ (passed_first (block_rows v) ((18, v.pending.blocks) ∷ []) refl e ∙ simp c.if-self.false)
