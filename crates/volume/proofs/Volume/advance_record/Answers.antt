-- `advance_record` meets its contract.
use mathlib.Core.Path.{refl}
use mathlib.Core.List.{[]}
use lib.ListN.{length}
use Rattle.medium.specs.Medium.{observe}
use Rattle.volume.specs.Calls.{checkpoint_store, advance_outcome}
use Rattle.volume.specs.States.{pending_with}
use Rattle.volume.proofs.Accepted.{AdvanceFacts}
use Rattle.volume.proofs.ByteBounds.{record_room}
use Rattle.volume.proofs.CallsCode.{sound_after}
use Rattle.volume.proofs.GrowthCode.{record_due, records_told, records_stored}
use Rattle.volume.proofs.Judged.{checked_tells, checked_takes, refused_reply, refused_stores, accepted_reply, accepted_stores}
use Rattle.volume.proofs.StatesSound.{checkpointed_sound}
use Rattle.volume.proofs.Volume.advance_record.Goals as goal
use Rattle.volume.proofs.Volume.advance_record.Goals.{Start}

facts : (c : Start) → AdvanceFacts c.args.self (length c.args.medium.now)
facts c =
    record {
      is_sound = c.requires.sound_state.0;
      room = c.requires.room;
      is_growing = c.requires.sound_state.1;
    }

-- the last tests are those of the table
pub returns-in-Err : goal.returns-in-Err
unfolding advance_outcome observe
returns-in-Err c =
    let v = c.args.self in
    let due = record_due _ _ (facts (goal.at.returns-in-Err c).Start) c.requires.next in
    let f = rw due at (checked_tells _ _ _ c.check_record_store.ensures c.in-Err.is) in
    record {
      value = refused_reply _ v [] _ _ f v _ refl c.refuse.ensures;
      medium_after = refused_stores _ v [] _ _ f _ _;
    }

pub store_record-requires : goal.store_record-requires
store_record-requires c = record_room _ _ _ c.requires.room

pub tell-requires : goal.tell-requires
unfolding pending_with checkpoint_store
tell-requires c =
    let s = c.requires.sound_state in
    sound_after _ _ _ (checkpoint_store c.args.self) c.checkpointed-next.ensures c.after_record-v.ensures (checkpointed_sound _ s.0 s.1)

pub returns : goal.returns
unfolding advance_outcome observe
returns c =
    let v = c.args.self in
    let due = record_due _ _ (facts (goal.at.returns c).Start) c.requires.next in
    let e = rw due at (checked_takes _ _ c.check_record_store.ensures c.in_default.not-Err) in
    let d = c.requires.next in
    let n = c.checkpointed-next.ensures in
    record {
      value = accepted_reply _ v [] _ e _ (records_told v _ d _ n _ c.after_record-v.ensures _ c.checkpoint_told-did.ensures _ c.tell.ensures);
      medium_after = accepted_stores _ v [] _ e _ _ _ (records_stored v _ d _ n _ c.after_record-v.ensures _ _ _ c.store_record.ensures);
    }
