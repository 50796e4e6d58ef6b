-- `streterva_format` meets its contract.
use mathlib.Core.Path.{◌≡◌, refl, sym}
use mathlib.Core.Bool.{true}
use mathlib.Core.List.{[]}
use Rattle.medium.specs.Medium.{apply}
use Rattle.capi.specs.Exported.{lengths_fit, untouched, handed_back, format_left}
use Rattle.capi.proofs.ExportedCode.{words_wrong, lengths_right, format_stores}
use Rattle.capi.proofs.states.streterva_format.Goals as goal
use Rattle.capi.proofs.states.streterva_format.Goals.{Else-state-ne-STATE_WORDS}

pub returns-then-state-ne-STATE_WORDS : goal.returns-then-state-ne-STATE_WORDS
unfolding format_left untouched apply
returns-then-state-ne-STATE_WORDS c = rw (words_wrong _ 0 [] c.if-state-ne-STATE_WORDS.true) (record {
  value = refl;
  state_after = refl;
  medium_after = refl;
})

-- the length is right
fits : (c : Else-state-ne-STATE_WORDS) → lengths_fit c.args.state.now 0 [] ≡ true
fits c = lengths_right _ 0 [] c.if-state-ne-STATE_WORDS.false refl

pub returns : goal.returns
unfolding format_left handed_back
returns c =
    let made = c.format-reply.ensures in
    rw (fits (goal.at.returns c).Else-state-ne-STATE_WORDS, sym made.value)
    (record {
      value = c.number.ensures;
      state_after = c.put_state.ensures;
      medium_after = format_stores _ _ _ _ _ _ _ _ made.medium_after;
    })
