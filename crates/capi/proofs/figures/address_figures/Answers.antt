-- `address_figures` meets its contract.
use mathlib.Core.Path.{◌≡◌}
use lib.ListN.{length}
use borrow.Author.Rules.{rules}
use Rattle.capi.specs.Figures.{address_figures}
use Rattle.capi.proofs.WordsCode.{three_before}
use Rattle.capi.proofs.figures.address_figures.Goals as goal

pub returns-in-Ok : goal.returns-in-Ok
unfolding address_figures
returns-in-Ok c =
    let e : length c.reason_figures.result ≡ 3 = search rules in
    rw (c.in-Ok.is, three_before c.reason_figures.result _ e, c.reason_figures.ensures)
