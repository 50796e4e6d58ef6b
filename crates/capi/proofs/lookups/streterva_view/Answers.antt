-- `streterva_view` meets its contract.
use mathlib.Core.Path.{◌≡◌, sym, ◌∙◌}
use lib.ListN.{length}
use borrow.Author.Rules.{rules}
use Rattle.capi.proofs.ExportedCode.{fitting, look_up_not_made, look_up_made}
use Rattle.capi.proofs.lookups.streterva_view.Goals as goal

pub returns-in_default : goal.returns-in_default
returns-in_default c =
    let h = look_up_not_made 2 _ _ _ _ (sym c.in_default.ensures) in
    record { value = h.0; figures_after = h.1 }

pub copy_from_slice-requires : goal.copy_from_slice-requires
copy_from_slice-requires c =
    let e : length c.view_figures.result ≡ 2 = search rules in
    (fitting _ _ _ _ (sym c.in-Some.ensures)).figures_length ∙ sym e

pub returns : goal.returns
returns c =
    let f = fitting _ _ _ _ (sym c.in-Some.ensures) in
    let made = rw f.state_there at c.view_answer-answer.ensures in
    let h = look_up_made 2 _ _ _ _ _ (sym c.in-Some.ensures) _ _ c.number.ensures (c.copy_from_slice.ensures.after ∙ c.view_figures.ensures) in
    rw (sym made) (record { value = h.0; figures_after = h.1 })
