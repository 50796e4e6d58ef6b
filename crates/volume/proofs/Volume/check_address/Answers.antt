-- `check_address` meets its contract.
use mathlib.Core.Path.{◌≡◌, sym, ◌∙◌}
use mathlib.Core.Bool.{true, false}
use borrow.Author.Tests.{le-leb, lt-leb}
use Rattle.base.specs.declared.Refusal.TheVariants.{NotSound, BlockNotOpen}
use Rattle.base.specs.Refusals.{refusal, refusal_number}
use Rattle.volume.specs.Calls.{address_table}
use Rattle.volume.specs.Sound.{sound}
use Rattle.volume.proofs.Judged.{tells, err_checked, ok_checked}
use Rattle.volume.proofs.Volume.check_address.Goals as goal
use Rattle.volume.proofs.Volume.check_address.Goals.{Else-not-is_sound}

is_sound : (c : Else-not-is_sound) → sound c.args.self.now ≡ true
is_sound c = sym c.is_sound.ensures ∙ c.if-not-is_sound.false

pub returns-then-not-is_sound : goal.returns-then-not-is_sound
unfolding refusal refusal_number address_table
returns-then-not-is_sound c =
    let e : sound c.args.self.now ≡ false = sym c.is_sound.ensures ∙ c.if-not-is_sound.true in
    err_checked _ NotSound (tells _ _ (simp e))

pub returns-then-open_blocks-x : goal.returns-then-open_blocks-x
unfolding refusal refusal_number address_table
returns-then-open_blocks-x c =
    err_checked _ BlockNotOpen (tells _ _ (simp (is_sound (goal.at.returns-then-open_blocks-x c).Else-not-is_sound, le-leb _ _ (rw c.open_blocks.ensures at c.if-open_blocks-x.true))))

pub returns : goal.returns
unfolding refusal address_table
returns c =
    ok_checked _ (simp (is_sound (goal.at.returns c).Else-not-is_sound, lt-leb _ _ (rw c.open_blocks.ensures at c.if-open_blocks-x.false)))
