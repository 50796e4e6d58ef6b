-- `streterva_holder` meets its contract.
use mathlib.Core.Path.{sym}
use borrow.Author.Rules.{rules}
use Rattle.capi.proofs.ExportedCode.{fitting, look_up_not_made, look_up_made}
use Rattle.capi.proofs.WordsCode.{one_set}
use Rattle.capi.proofs.lookups.streterva_holder.Goals as goal

pub returns-in_default : goal.returns-in_default
returns-in_default c =
    let h = look_up_not_made 1 _ _ _ _ (sym c.in_default.ensures) in
    record { value = h.0; figures_after = h.1 }

pub bounds-figures-0 : goal.bounds-figures-0
bounds-figures-0 c = let e = (fitting _ _ _ _ (sym c.in-Some.ensures)).figures_length in search (rules, e)

pub returns : goal.returns
returns c =
    let f = fitting _ _ _ _ (sym c.in-Some.ensures) in
    let made = rw f.state_there at c.holder-reply.ensures in
    let h = look_up_made 1 _ _ _ _ _ (sym c.in-Some.ensures) _ _ c.number.ensures (one_set c.args.figures.now _ _ f.figures_length c.block_told.ensures) in
    rw (sym made) (record { value = h.0; figures_after = h.1 })
