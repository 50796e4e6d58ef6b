-- `checkpoint` meets its contract.
use mathlib.Core.Path.{refl}
use mathlib.Core.List.{[]}
use lib.ListN.{length}
use Rattle.medium.specs.Medium.{observe}
use Rattle.volume.specs.Calls.{reporting, checkpoint_store, checkpoint_effect, checkpoint_outcome}
use Rattle.volume.specs.States.{pending_with}
use Rattle.volume.proofs.Accepted.{AdvanceFacts, checkpoint_accepted}
use Rattle.volume.proofs.ByteBounds.{record_room}
use Rattle.volume.proofs.CallsCode.{pending_stored, sound_after, report_made}
use Rattle.volume.proofs.Judged.{checked_tells, checked_takes, refused_reply, refused_stores, accepted_reply, accepted_stores}
use Rattle.volume.proofs.StatesSound.{checkpointed_sound}
use Rattle.volume.proofs.Volume.checkpoint.Goals as goal
use Rattle.volume.proofs.Volume.checkpoint.Goals.{In_default}

pub returns-in-Err : goal.returns-in-Err
unfolding checkpoint_outcome observe
returns-in-Err c =
    let v = c.args.self in
    let f = checked_tells _ _ _ c.check_checkpoint.ensures c.in-Err.is in
    record {
      value = refused_reply _ v [] _ _ f v _ refl c.refuse.ensures;
      medium_after = refused_stores _ v [] _ _ f _ _;
    }

accepted : (c : In_default) → let a = c.args in AdvanceFacts a.self (length a.medium.now)
accepted c = (checkpoint_accepted _ _ (checked_takes _ _ c.check_checkpoint.ensures c.in_default.not-Err)).0

pub checkpointed-requires : goal.checkpointed-requires
checkpointed-requires c = let a = accepted (goal.at.checkpointed-requires c).In_default in (a.is_sound, a.is_growing)

pub store_record-requires : goal.store_record-requires
store_record-requires c = record_room _ _ _ (accepted (goal.at.store_record-requires c).In_default).room

pub report-requires : goal.report-requires
unfolding pending_with checkpoint_store
report-requires c =
    let a = accepted (goal.at.report-requires c).In_default in
    sound_after _ _ _ (checkpoint_store c.args.self) c.checkpointed.ensures c.after_record-next.ensures (checkpointed_sound _ a.is_sound a.is_growing)

pub returns : goal.returns
unfolding checkpoint_outcome checkpoint_effect checkpoint_store reporting pending_with observe
returns c =
    let v = c.args.self in
    let e = checked_takes _ _ c.check_checkpoint.ensures c.in_default.not-Err in
    let n = c.checkpointed.ensures in
    record {
      value = accepted_reply _ v [] _ e _ (report_made _ _ _ (checkpoint_store v) n c.after_record-next.ensures _ c.report.ensures);
      medium_after = accepted_stores _ v [] _ e _ _ _ (pending_stored _ _ _ (checkpoint_store v) n c.after_record-next.ensures _ _ _ c.store_record.ensures);
    }
