-- `check_growth` meets its contract.
use mathlib.Core.Path.{◌≡◌, sym, ◌∙◌}
use mathlib.Core.Bool.{true, false}
use borrow.Author.Tests.{eq-eqb, ne_eqb}
use Rattle.base.specs.declared.Refusal.TheVariants.{NotSound, MediumTooShort, NotGrowing}
use Rattle.base.specs.Refusals.{refusal, refusal_number}
use Rattle.volume.specs.Calls.{too_short}
use Rattle.volume.specs.Sound.{sound}
use Rattle.volume.specs.States.{geometry, disks}
use Rattle.volume.proofs.CallsCode.{disks_most}
use Rattle.volume.proofs.Judged.{tells, err_checked, ok_checked}
use Rattle.volume.proofs.Volume.check_growth.Goals as goal
use Rattle.volume.proofs.Volume.check_growth.Goals.{After-is_short, Else-not-is_sound}

is_sound : (c : Else-not-is_sound) → sound c.args.self.now ≡ true
is_sound c = sym c.is_sound.ensures ∙ c.if-not-is_sound.false

pub returns-then-not-is_sound : goal.returns-then-not-is_sound
unfolding refusal refusal_number
returns-then-not-is_sound c =
    let e : sound c.args.self.now ≡ false = sym c.is_sound.ensures ∙ c.if-not-is_sound.true in
    err_checked _ NotSound (tells _ _ (simp e))

pub is_short-requires : goal.is_short-requires
is_short-requires c =
    let e = is_sound (goal.at.is_short-requires c).Else-not-is_sound in
    record { sound_state = e; disks_le_most_disks = rw c.disk_count.ensures (disks_most _ e) }

shortness : (c : After-is_short)
    → let a = c.args in too_short (geometry a.self.now) (disks a.self.now) a.len ≡ c.is_short.result
shortness c = rw c.disk_count.ensures at (sym c.is_short.ensures)

pub returns-then-is_short : goal.returns-then-is_short
unfolding refusal refusal_number
returns-then-is_short c =
    err_checked _ MediumTooShort (tells _ _ (simp (is_sound (goal.at.returns-then-is_short c).Else-not-is_sound, shortness (goal.at.returns-then-is_short c).After-is_short, c.if-is_short.true)))

pub returns-then-self-eq0 : goal.returns-then-self-eq0
unfolding refusal refusal_number
returns-then-self-eq0 c =
    err_checked _ NotGrowing (tells _ _ (simp (
      is_sound (goal.at.returns-then-self-eq0 c).Else-not-is_sound,
      shortness (goal.at.returns-then-self-eq0 c).After-is_short,
      c.if-is_short.false,
      eq-eqb _ _ c.if-self-eq0.true,
    )))

pub returns : goal.returns
unfolding refusal
returns c =
    ok_checked _ (simp (
      is_sound (goal.at.returns c).Else-not-is_sound,
      shortness (goal.at.returns c).After-is_short,
      c.if-is_short.false,
      ne_eqb _ _ c.if-self-eq0.false,
    ))
