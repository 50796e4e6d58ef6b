-- `copy` meets its contract.
use mathlib.Core.Path.{◌≡◌, refl, ap, ◌∙◌}
use mathlib.Core.List.{[]}
use lib.ListN.{length}
use Rattle.base.specs.Refusals.{refusal}
use Rattle.layout.specs.Windows.{old_spot, mark_of}
use Rattle.medium.specs.Medium.{observe}
use Rattle.volume.specs.declared.MarkedSpot.{MarkedSpot}
use Rattle.volume.specs.Calls.{reporting, copy_table, copy_store, copy_effect, copy_outcome}
use Rattle.volume.specs.States.{history_of, pending_with, with_copy}
use Rattle.volume.proofs.Accepted.{CopyFacts, copy_accepted}
use Rattle.volume.proofs.CallsCode.{sound_after, report_made}
use Rattle.volume.proofs.GrowthCode.{copied_at, copied_asks}
use Rattle.volume.proofs.Judged.{found_tells, found_takes, refused_reply, refused_stores, accepted_reply, accepted_stores}
use Rattle.volume.proofs.StatesSound.{copied_sound}
use Rattle.volume.proofs.Volume.copy.Goals as goal
use Rattle.volume.proofs.Volume.copy.Goals.{After-with_mark, In-Ok}

pub returns-in-Err : goal.returns-in-Err
unfolding copy_outcome observe
returns-in-Err c =
    let v = c.args.self in
    let f = found_tells _ _ _ _ c.copy_spot.ensures c.in-Err.is in
    record {
      value = refused_reply _ v [] _ _ f v _ refl c.refuse.ensures;
      medium_after = refused_stores _ v [] _ _ f _ _;
    }

-- the table refuses nothing, and what is found is the old spot and the mark
taken : (c : In-Ok)
    → let a = c.args in
    (refusal (copy_table a.self a.x.0 (length a.medium.now)) ≡ 0)
    × (c.in-Ok.found ≡ record { spot = old_spot a.self.rows (history_of a.self) a.x.0; mark = mark_of a.self.rows (history_of a.self) a.x.0 })
taken c = found_takes _ _ _ _ c.copy_spot.ensures c.in-Ok.is

accepted : (c : In-Ok) → let a = c.args in CopyFacts a.self a.x.0 (length a.medium.now)
accepted c = (copy_accepted _ _ _ (taken c).0).0

pub store_copy-requires : goal.store_copy-requires
store_copy-requires c =
    let p = (goal.at.store_copy-requires c).In-Ok in
    let f = accepted p in
    let a = f.advances in
    record {
      sound_state = (a.is_sound, a.is_growing);
      room = a.room;
      to_copy = (f.moves, f.not_copied);
      at_old_spot = ap (λ (m : MarkedSpot). m.spot) (taken p).1;
    }

pub with_mark-requires : goal.with_mark-requires
with_mark-requires c =
    let p = (goal.at.with_mark-requires c).In-Ok in
    copied_asks _ _ _ (accepted p) _ (ap (λ (m : MarkedSpot). m.mark) (taken p).1)

copied : (c : After-with_mark) → let a = c.args in c.with_mark.result ≡ with_copy a.self a.x.0
copied c = c.with_mark.ensures ∙ copied_at _ _ _ (ap (λ (m : MarkedSpot). m.mark) (found_takes _ _ _ _ c.copy_spot.ensures c.in-Ok.is).1)

pub report-requires : goal.report-requires
unfolding pending_with copy_store
report-requires c =
    let a = c.args in
    let f = accepted (goal.at.report-requires c).In-Ok in
    sound_after _ _ _ (copy_store a.self a.x.0 (observe a.medium.now)) (copied (goal.at.report-requires c).After-with_mark) c.after_block.ensures
    (copied_sound _ _ f.advances.is_sound f.advances.is_growing f.moves)

pub returns-in-Ok : goal.returns-in-Ok
unfolding copy_outcome copy_effect copy_store reporting pending_with observe
returns-in-Ok c =
    let a = c.args in
    let v = a.self in
    let e = (taken (goal.at.returns-in-Ok c).In-Ok).0 in
    let n = copied (goal.at.returns-in-Ok c).After-with_mark in
    record {
      value = accepted_reply _ v [] _ e _ (report_made _ _ _ (copy_store v a.x.0 (observe a.medium.now)) n c.after_block.ensures _ c.report.ensures);
      medium_after = accepted_stores _ v [] _ e _ _ _ c.store_copy.ensures;
    }
