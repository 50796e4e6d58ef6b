-- `start_growth` meets its contract.
use mathlib.Core.Path.{◌≡◌, refl}
use mathlib.Core.List.{[]}
use lib.ListN.{length}
use Rattle.base.specs.Refusals.{refusal}
use Rattle.medium.specs.Medium.{record_store, observe}
use Rattle.volume.specs.Calls.{grow_table_of, reporting, grow_effect, grow_outcome_of}
use Rattle.volume.specs.Records.{record_of}
use Rattle.volume.specs.States.{pending_with, grown}
use Rattle.volume.proofs.Accepted.{grow_accepted}
use Rattle.volume.proofs.ByteBounds.{record_room}
use Rattle.volume.proofs.CallsCode.{pending_stored, sound_after, report_made}
use Rattle.volume.proofs.Judged.{checked_tells, checked_takes, refused_reply, refused_stores, accepted_reply, accepted_stores}
use Rattle.volume.proofs.StatesSound.{grown_sound}
use Rattle.volume.proofs.Volume.start_growth.Goals as goal
use Rattle.volume.proofs.Volume.start_growth.Goals.{In_default}

pub returns-in-Err : goal.returns-in-Err
unfolding grow_outcome_of observe
returns-in-Err c =
    let v = c.args.self in
    let f = checked_tells _ _ _ c.check_grow.ensures c.in-Err.is in
    record {
      value = refused_reply _ v [] _ _ f v _ refl c.refuse.ensures;
      medium_after = refused_stores _ v [] _ _ f _ _;
    }

-- the table refuses nothing
clear : (c : In_default) → let a = c.args in refusal (grow_table_of a.limited a.self a.count (length a.medium.now)) ≡ 0
clear c = checked_takes _ _ c.check_grow.ensures c.in_default.not-Err

pub grown-requires : goal.grown-requires
grown-requires c = (grow_accepted _ _ _ _ (clear (goal.at.grown-requires c).In_default)).may.one_more

pub store_record-requires : goal.store_record-requires
store_record-requires c = record_room _ _ _ (grow_accepted _ _ _ _ (clear (goal.at.store_record-requires c).In_default)).room

pub report-requires : goal.report-requires
unfolding pending_with
report-requires c =
    let a = c.args in
    let store = record_store (record_of (grown a.self a.count)) in
    sound_after _ _ _ store c.grown.ensures c.after_record-next.ensures (grown_sound _ _ _ _ (clear (goal.at.report-requires c).In_default))

pub returns : goal.returns
unfolding grow_outcome_of grow_effect reporting pending_with observe
returns c =
    let a = c.args in
    let v = a.self in
    let e = clear (goal.at.returns c).In_default in
    let n = c.grown.ensures in
    let store = record_store (record_of (grown v a.count)) in
    record {
      value = accepted_reply _ v [] _ e _ (report_made _ _ _ store n c.after_record-next.ensures _ c.report.ensures);
      medium_after = accepted_stores _ v [] _ e _ _ _ (pending_stored _ _ _ store n c.after_record-next.ensures _ _ _ c.store_record.ensures);
    }
