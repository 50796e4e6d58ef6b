-- `streterva_copy` meets its contract.
use mathlib.Core.Path.{sym}
use mathlib.Core.List.{[]}
use Rattle.promise.specs.Calls.{copy}
use Rattle.promise.specs.Lists.{call_outcome}
use Rattle.capi.specs.Figures.{calls_figures}
use Rattle.capi.proofs.ExportedCode.{fitting, call_not_made, call_made}
use Rattle.capi.proofs.growth.streterva_copy.Goals as goal

pub returns-in_default : goal.returns-in_default
returns-in_default c =
    let h = call_not_made 1 calls_figures _ _ _ [] _ _ (sym c.in_default.ensures) in
    record { value = h.0; state_after = h.1.0; figures_after = h.1.1.0; medium_after = h.1.1.1 }

pub hand_back-requires : goal.hand_back-requires
hand_back-requires c =
    let t = fitting _ _ _ _ (sym c.in-Some.ensures) in
    record { words_len = t.words_length; figures_len = t.figures_length }

pub returns : goal.returns
unfolding call_outcome
returns c =
    let r = c.copy.ensures in
    let b = c.hand_back.ensures in
    let h = call_made 1 calls_figures (copy _) _ _ [] _ _ (sym c.in-Some.ensures) _ _ (r.value, r.medium_after) _ _ _ (b.value, (b.words_after, b.figures_after)) in
    record { value = h.0; state_after = h.1.0; figures_after = h.1.1.0; medium_after = h.1.1.1 }
