-- `streterva_write` meets its contract.
use mathlib.Core.Path.{refl, sym, ap}
use Rattle.medium.specs.Medium.{apply}
use Rattle.volume.specs.declared.Reply.{Reply}
use Rattle.volume.specs.declared.Told.{Told}
use Rattle.promise.specs.Lists.{call_outcome}
use Rattle.capi.specs.Exported.{untouched, handed_back, call_left}
use Rattle.capi.proofs.ExportedCode.{no_state, state_told, pending_put}
use Rattle.capi.proofs.RefusedLaws.{write_pending}
use Rattle.capi.proofs.pieces.streterva_write.Goals as goal

pub returns-in_default : goal.returns-in_default
unfolding call_left call_outcome untouched apply
returns-in_default c = rw (no_state _ (sym c.in_default.ensures)) (record {
  value = refl;
  state_after = refl;
  medium_after = refl;
})

pub put_pending-requires : goal.put_pending-requires
put_pending-requires c = (state_told _ _ (sym c.in-Some.ensures)).words_length

pub returns : goal.returns
unfolding call_left call_outcome handed_back
returns c =
    let t = state_told _ _ (sym c.in-Some.ensures) in
    let w = c.write-reply in
    let made = rw t.state_there at w.ensures in
    let words = pending_put _ t.are_state_law w.result.state _ (ap (λ (r : Reply Told). r.state) made.value) (write_pending _ _ _ _) _ c.put_pending.ensures in
    rw (t.fits, sym made.value) (record {
      value = c.number.ensures;
      state_after = words;
      medium_after = made.medium_after;
    })
