-- `advance` meets its contract.
use mathlib.Core.Path.{refl, sym, ◌∙◌}
use mathlib.Core.List.{[]}
use lib.ListN.{length}
use Rattle.medium.specs.Medium.{observe}
use Rattle.volume.specs.Calls.{advance_outcome}
use Rattle.volume.proofs.Accepted.{AdvanceFacts, growth_accepted}
use Rattle.volume.proofs.GrowthCode.{advance_refused, next_none, next_some}
use Rattle.volume.proofs.Judged.{checked_tells, checked_takes, refused_reply, refused_stores}
use Rattle.volume.proofs.Volume.advance.Goals as goal
use Rattle.volume.proofs.Volume.advance.Goals.{In_default}

pub returns-in-Err : goal.returns-in-Err
unfolding advance_outcome observe
returns-in-Err c =
    let v = c.args.self in
    let f = advance_refused v _ _ (checked_tells _ _ _ c.check_growth.ensures c.in-Err.is) in
    record {
      value = refused_reply _ v [] _ _ f v _ refl c.refuse.ensures;
      medium_after = refused_stores _ v [] _ _ f _ _;
    }

accepted : (c : In_default) → let a = c.args in AdvanceFacts a.self (length a.medium.now)
accepted c = growth_accepted _ _ (checked_takes _ _ c.check_growth.ensures c.in_default.not-Err)

pub next_copy-requires : goal.next_copy-requires
next_copy-requires c =
    let a = accepted (goal.at.next_copy-requires c).In_default in
    record { sound_state = (a.is_sound, a.is_growing) }

pub advance_record-requires : goal.advance_record-requires
advance_record-requires c =
    let a = accepted (goal.at.advance_record-requires c).In_default in
    record {
      sound_state = (a.is_sound, a.is_growing);
      room = a.room;
      next = next_none _ _ _ (sym c.next_copy.ensures ∙ c.in-None.is);
    }

pub advance_copy-requires : goal.advance_copy-requires
advance_copy-requires c =
    let a = accepted (goal.at.advance_copy-requires c).In_default in
    let n = next_some _ _ _ _ (sym c.next_copy.ensures ∙ c.in-Some.is) in
    record {
      sound_state = (a.is_sound, a.is_growing);
      room = a.room;
      next = (n.0, n.1);
      at_old_spot = (n.2, n.3);
    }
