-- `streterva_advance` meets its contract.
use mathlib.Core.Path.{◌≡◌, sym, ◌∙◌}
use mathlib.Core.List.{[]}
use lib.ListN.{length}
use borrow.Author.Rules.{rules}
use Rattle.promise.specs.Calls.{advance}
use Rattle.promise.specs.Lists.{call_outcome}
use Rattle.capi.specs.Figures.{advance_figures}
use Rattle.capi.proofs.ExportedCode.{fitting, call_not_made, call_made}
use Rattle.capi.proofs.growth.streterva_advance.Goals as goal

pub returns-in_default : goal.returns-in_default
returns-in_default c =
    let h = call_not_made 4 advance_figures _ _ _ [] _ _ (sym c.in_default.ensures) in
    record { value = h.0; state_after = h.1.0; figures_after = h.1.1.0; medium_after = h.1.1.1 }

pub put_state-requires : goal.put_state-requires
put_state-requires c = (fitting _ _ _ _ (sym c.in-Some.ensures)).words_length

pub copy_from_slice-requires : goal.copy_from_slice-requires
copy_from_slice-requires c =
    let e : length c.advance_figures.result ≡ 4 = search rules in
    (fitting _ _ _ _ (sym c.in-Some.ensures)).figures_length ∙ sym e

pub returns : goal.returns
unfolding call_outcome
returns c =
    let r = c.advance-reply.ensures in
    let put = c.copy_from_slice.ensures.after ∙ c.advance_figures.ensures in
    let h = call_made 4 advance_figures advance _ _ [] _ _ (sym c.in-Some.ensures) _ _ (r.value, r.medium_after) _ _ _ (c.number.ensures, (c.put_state.ensures, put)) in
    record { value = h.0; state_after = h.1.0; figures_after = h.1.1.0; medium_after = h.1.1.1 }
