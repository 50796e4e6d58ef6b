-- `advance_copy` meets its contract.
use mathlib.Core.Path.{◌≡◌, refl, ◌∙◌}
use mathlib.Core.List.{[]}
use lib.ListN.{length}
use Rattle.medium.specs.Medium.{observe}
use Rattle.volume.specs.Calls.{copy_store, advance_outcome}
use Rattle.volume.specs.States.{pending_with, with_copy}
use Rattle.volume.proofs.Accepted.{AdvanceFacts, CopyFacts}
use Rattle.volume.proofs.CallsCode.{sound_after}
use Rattle.volume.proofs.CopyLaws.{next_facts}
use Rattle.volume.proofs.GrowthCode.{block_due, copied_at, copied_asks, copies_told, copies_stored}
use Rattle.volume.proofs.Judged.{checked_tells, checked_takes, refused_reply, refused_stores, accepted_reply, accepted_stores}
use Rattle.volume.proofs.StatesSound.{copied_sound}
use Rattle.volume.proofs.Volume.advance_copy.Goals as goal
use Rattle.volume.proofs.Volume.advance_copy.Goals.{After-with_mark, Start}

growth_facts : (c : Start) → AdvanceFacts c.args.self (length c.args.medium.now)
growth_facts c =
    record {
      is_sound = c.requires.sound_state.0;
      room = c.requires.room;
      is_growing = c.requires.sound_state.1;
    }

facts : (c : Start) → CopyFacts c.args.self c.args.next.block.0 (length c.args.medium.now)
facts c = next_facts _ _ _ (growth_facts c) c.requires.next.0

-- the last test is that of the table
pub returns-in-Err : goal.returns-in-Err
unfolding advance_outcome observe
returns-in-Err c =
    let v = c.args.self in
    let due = block_due _ _ (growth_facts (goal.at.returns-in-Err c).Start) _ c.requires.next.0 in
    let f = rw due at (checked_tells _ _ _ c.check_block_store.ensures c.in-Err.is) in
    record {
      value = refused_reply _ v [] _ _ f v _ refl c.refuse.ensures;
      medium_after = refused_stores _ v [] _ _ f _ _;
    }

pub store_copy-requires : goal.store_copy-requires
store_copy-requires c =
    let f = facts (goal.at.store_copy-requires c).Start in
    record {
      sound_state = c.requires.sound_state;
      room = f.advances.room;
      to_copy = (f.moves, f.not_copied);
      at_old_spot = c.requires.at_old_spot.0;
    }

pub with_mark-requires : goal.with_mark-requires
with_mark-requires c = copied_asks _ _ _ (facts (goal.at.with_mark-requires c).Start) _ c.requires.at_old_spot.1

copied : (c : After-with_mark) → let a = c.args in c.with_mark.result ≡ with_copy a.self a.next.block.0
copied c = c.with_mark.ensures ∙ copied_at _ _ _ c.requires.at_old_spot.1

pub tell-requires : goal.tell-requires
unfolding pending_with copy_store
tell-requires c =
    let a = c.args in
    let f = facts (goal.at.tell-requires c).Start in
    sound_after _ _ _ (copy_store a.self a.next.block.0 (observe a.medium.now)) (copied (goal.at.tell-requires c).After-with_mark) c.after_block.ensures
    (copied_sound _ _ f.advances.is_sound f.advances.is_growing f.moves)

pub returns : goal.returns
unfolding advance_outcome observe
returns c =
    let v = c.args.self in
    let d = c.requires.next in
    let due = block_due _ _ (growth_facts (goal.at.returns c).Start) _ d.0 in
    let e = rw due at (checked_takes _ _ c.check_block_store.ensures c.in_default.not-Err) in
    let n = copied (goal.at.returns c).After-with_mark in
    record {
      value = accepted_reply _ v [] _ e _ (copies_told v _ _ _ d.0 d.1 _ n _ c.after_block.ensures _ c.tell.ensures);
      medium_after = accepted_stores _ v [] _ e _ _ _ (copies_stored v _ _ _ d.0 d.1 _ _ _ c.store_copy.ensures);
    }
