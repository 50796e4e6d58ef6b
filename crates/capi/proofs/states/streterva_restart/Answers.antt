-- `streterva_restart` meets its contract.
use mathlib.Core.Path.{◌≡◌, refl, sym}
use mathlib.Core.Bool.{true}
use Rattle.capi.specs.Exported.{lengths_fit, untouched, handed_back, restart_left}
use Rattle.capi.proofs.ExportedCode.{words_wrong, figures_wrong, lengths_right}
use Rattle.capi.proofs.states.streterva_restart.Goals as goal
use Rattle.capi.proofs.states.streterva_restart.Goals.{Else-figures-ne-CALLS_FIGURES}

pub returns-then-state-ne-STATE_WORDS : goal.returns-then-state-ne-STATE_WORDS
unfolding restart_left untouched
returns-then-state-ne-STATE_WORDS c = rw (words_wrong _ 1 _ c.if-state-ne-STATE_WORDS.true) (record {
  value = refl;
  state_after = refl;
  figures_after = refl;
})

pub returns-then-figures-ne-CALLS_FIGURES : goal.returns-then-figures-ne-CALLS_FIGURES
unfolding restart_left untouched
returns-then-figures-ne-CALLS_FIGURES c = rw (figures_wrong _ 1 _ c.if-state-ne-STATE_WORDS.false c.if-figures-ne-CALLS_FIGURES.true) (record {
  value = refl;
  state_after = refl;
  figures_after = refl;
})

-- both lengths are right
fits : (c : Else-figures-ne-CALLS_FIGURES) → let a = c.args in lengths_fit a.state.now 1 a.figures.now ≡ true
fits c = lengths_right _ 1 _ c.if-state-ne-STATE_WORDS.false c.if-figures-ne-CALLS_FIGURES.false

pub returns : goal.returns
unfolding restart_left handed_back
returns c =
    let h = c.hand_back.ensures in
    rw (fits (goal.at.returns c).Else-figures-ne-CALLS_FIGURES, sym c.restart-reply.ensures)
    (record { value = h.value; state_after = h.words_after; figures_after = h.figures_after })
