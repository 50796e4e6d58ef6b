-- `outside` meets its contract.
use mathlib.Core.Path.{sym}
use Rattle.base.specs.Refusals.{refusal_number}
use Rattle.capi.proofs.ExportedCode.{state_told}
use Rattle.capi.proofs.client_calls.outside.Goals as goal

pub returns-then-is_sound : goal.returns-then-is_sound
unfolding refusal_number
returns-then-is_sound c =
    let t = state_told _ _ (sym c.in-Some.ensures) in
    rw (t.are_state_law, ← t.state_there, ← c.is_sound.ensures, c.if-is_sound.true) c.number.ensures

pub returns-else-is_sound : goal.returns-else-is_sound
unfolding refusal_number
returns-else-is_sound c =
    let t = state_told _ _ (sym c.in-Some.ensures) in
    rw (t.are_state_law, ← t.state_there, ← c.is_sound.ensures, c.if-is_sound.false) c.number-else-is_sound.ensures
