-- `streterva_soundness` meets its contract.
use mathlib.Core.Path.{refl, sym}
use Rattle.capi.specs.Exported.{untouched, looked_up, look_up_left}
use Rattle.capi.proofs.ExportedCode.{no_state, state_told}
use Rattle.capi.proofs.states.streterva_soundness.Goals as goal

pub returns-in_default : goal.returns-in_default
unfolding look_up_left untouched
returns-in_default c = rw (no_state _ (sym c.in_default.ensures)) refl

pub returns-then-is_sound : goal.returns-then-is_sound
unfolding look_up_left looked_up
returns-then-is_sound c =
    let t = state_told _ _ (sym c.in-Some.ensures) in
    rw (t.fits, sym t.state_there, sym c.is_sound.ensures, c.if-is_sound.true) refl

pub returns-else-is_sound : goal.returns-else-is_sound
unfolding look_up_left looked_up
returns-else-is_sound c =
    let t = state_told _ _ (sym c.in-Some.ensures) in
    rw (t.fits, sym t.state_there, sym c.is_sound.ensures, c.if-is_sound.false) refl
