-- `holder_answer` meets its contract.
use mathlib.Core.Path.{◌≡◌, sym, ◌∙◌}
use mathlib.Core.Bool.{true, false}
use Rattle.base.specs.Refusals.{refusal, refusal_number, refusals, refusal_with}
use Rattle.layout.specs.History.{Within}
use Rattle.volume.specs.Calls.{holder_table, holder_reply}
use Rattle.volume.specs.Sound.{sound}
use Rattle.volume.specs.States.{history_of}
use Rattle.volume.proofs.HolderCode.{holder_outside, spot_within, holder_told}
use Rattle.volume.proofs.Volume.holder_answer.Goals as goal
use Rattle.volume.proofs.Volume.holder_answer.Goals.{Else-is_outside, Else-not-is_sound}

is_sound : (c : Else-not-is_sound) → sound c.args.self.now ≡ true
is_sound c = sym c.is_sound.ensures ∙ c.if-not-is_sound.false

pub returns-then-not-is_sound : goal.returns-then-not-is_sound
unfolding refusal refusal_with refusals refusal_number holder_table holder_reply
returns-then-not-is_sound c =
    let e : sound c.args.self.now ≡ false = sym c.is_sound.ensures ∙ c.if-not-is_sound.true in
    simp e

pub returns-then-is_outside : goal.returns-then-is_outside
returns-then-is_outside c = holder_outside _ _ (is_sound (goal.at.returns-then-is_outside c).Else-not-is_sound) (sym c.is_outside.ensures ∙ c.if-is_outside.true)

within : (c : Else-is_outside)
    → Within c.args.self.now.rows
    (history_of c.args.self.now)
    c.args.p
within c = spot_within _ _ (sym c.is_outside.ensures ∙ c.if-is_outside.false)

pub live_block-requires : goal.live_block-requires
live_block-requires c =
    record {
      sound_state = is_sound (goal.at.live_block-requires c).Else-not-is_sound;
      within = within (goal.at.live_block-requires c).Else-is_outside;
    }

pub returns : goal.returns
returns c =
    c.ok_or.ensures.value
    ∙ rw c.live_block.ensures (holder_told _ _ (is_sound (goal.at.returns c).Else-not-is_sound) (within (goal.at.returns c).Else-is_outside))
