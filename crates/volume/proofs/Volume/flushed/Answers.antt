-- `flushed` meets its contract.
use mathlib.Core.Path.{◌≡◌, refl, sym, ◌∙◌}
use mathlib.Core.Bool.{true, false}
use mathlib.Core.List.{[]}
use Rattle.base.specs.declared.Refusal.TheVariants.{NotSound}
use Rattle.base.specs.Refusals.{refusal, refusal_number}
use Rattle.volume.specs.Calls.{doing, flushed_table, flushed_effect, flushed_outcome}
use Rattle.volume.specs.Sound.{sound}
use Rattle.volume.specs.States.{none_pending, pending_with, with_pending}
use Rattle.volume.proofs.Judged.{tells, refused_reply, accepted_reply}
use Rattle.volume.proofs.Volume.flushed.Goals as goal

pub returns-then-not-is_sound : goal.returns-then-not-is_sound
unfolding flushed_outcome flushed_table refusal refusal_number
returns-then-not-is_sound c =
    let v = c.args.self in
    let e : sound v ≡ false = sym c.is_sound.ensures ∙ c.if-not-is_sound.true in
    refused_reply (flushed_table v) v [] (flushed_effect v) NotSound (tells _ _ (simp e)) v _ refl c.refuse.ensures

pub returns : goal.returns
unfolding flushed_outcome flushed_table refusal flushed_effect doing pending_with with_pending none_pending
returns c =
    let v = c.args.self in
    let e : sound v ≡ true = sym c.is_sound.ensures ∙ c.if-not-is_sound.false in
    accepted_reply (flushed_table v) v [] (flushed_effect v) (simp e) _ (rw c.with_pending-v.ensures at c.accept.ensures)
