-- `streterva_flushed` meets its contract.
use mathlib.Core.Path.{refl, sym, ap}
use Rattle.volume.specs.declared.Reply.{Reply}
use Rattle.volume.specs.declared.Told.{Told}
use Rattle.capi.specs.Exported.{untouched, handed_back, flushed_left}
use Rattle.capi.proofs.ExportedCode.{no_state, state_told, pending_put}
use Rattle.capi.proofs.RefusedLaws.{flushed_pending}
use Rattle.capi.proofs.states.streterva_flushed.Goals as goal

pub returns-in_default : goal.returns-in_default
unfolding flushed_left untouched
returns-in_default c = rw (no_state _ (sym c.in_default.ensures)) (record { value = refl; state_after = refl })

pub put_pending-requires : goal.put_pending-requires
put_pending-requires c = (state_told _ _ (sym c.in-Some.ensures)).words_length

pub returns : goal.returns
unfolding flushed_left handed_back
returns c =
    let t = state_told _ _ (sym c.in-Some.ensures) in
    let f = c.flushed-reply in
    let made = rw t.state_there at f.ensures in
    let words = pending_put _ t.are_state_law f.result.state _ (ap (λ (r : Reply Told). r.state) made) (flushed_pending _) _ c.put_pending.ensures in
    rw (t.fits, sym made) (record { value = c.number.ensures; state_after = words })
