-- `format` meets its contract.
use mathlib.Core.List.{[]}
use Rattle.medium.specs.Medium.{record_store, observe}
use Rattle.volume.specs.Calls.{doing, format_effect, format_outcome}
use Rattle.volume.specs.Records.{record_of}
use Rattle.volume.specs.States.{new_state, zeros, pending_with}
use Rattle.volume.proofs.Accepted.{format_accepted}
use Rattle.volume.proofs.ByteBounds.{record_room}
use Rattle.volume.proofs.CallsCode.{record_stored, done_made}
use Rattle.volume.proofs.Judged.{checked_tells, checked_takes, refused_reply, refused_stores, accepted_reply, accepted_stores}
use Rattle.volume.proofs.Volume.format.Goals as goal

pub returns-in-Err : goal.returns-in-Err
unfolding format_outcome observe
returns-in-Err c =
    let f = checked_tells _ _ _ c.check_format.ensures c.in-Err.is in
    record {
      value = refused_reply _ zeros [] _ _ f _ _ c.zeros.ensures c.refuse.ensures;
      medium_after = refused_stores _ zeros [] _ _ f _ _;
    }

pub store_record-requires : goal.store_record-requires
store_record-requires c = record_room _ _ _ (format_accepted _ _ _ _ (checked_takes _ _ c.check_format.ensures c.in_default.not-Err)).room

pub returns : goal.returns
unfolding format_outcome format_effect doing pending_with observe
returns c =
    let a = c.args in
    let e = checked_takes _ _ c.check_format.ensures c.in_default.not-Err in
    let n = c.new_state-fresh.ensures in
    let store = record_store (record_of (new_state a.size a.rows a.disks)) in
    record {
      value = accepted_reply _ zeros [] _ e _ (done_made _ _ _ store n c.after_record.ensures _ [] c.accept.ensures);
      medium_after = accepted_stores _ zeros [] _ e _ _ _ (record_stored _ _ _ _ _ n c.store_record.ensures);
    }
