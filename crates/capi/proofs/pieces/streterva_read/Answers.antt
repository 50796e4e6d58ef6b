-- `streterva_read` meets its contract.
use mathlib.Core.Path.{refl, sym}
use Rattle.promise.specs.Lists.{call_outcome}
use Rattle.capi.specs.Exported.{untouched, handed_back, call_left}
use Rattle.capi.proofs.ExportedCode.{no_state, state_told}
use Rattle.capi.proofs.pieces.streterva_read.Goals as goal

pub returns-in_default : goal.returns-in_default
unfolding call_left call_outcome untouched
returns-in_default c = rw (no_state _ (sym c.in_default.ensures)) (record { value = refl; piece_after = refl })

pub returns : goal.returns
unfolding call_left call_outcome handed_back
returns c =
    let t = state_told _ _ (sym c.in-Some.ensures) in
    let made = rw t.state_there at c.read-reply.ensures in
    rw (t.fits, sym made.value) (record { value = c.number.ensures; piece_after = made.piece_after })
