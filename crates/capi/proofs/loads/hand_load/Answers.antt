-- `hand_load` meets its contract.
use mathlib.Core.Path.{refl, sym, ◌∙◌}
use borrow.Author.Rules.{rules}
use Rattle.capi.proofs.ExportedCode.{fits_not, fitting, load_put, served_or_zeros}
use Rattle.capi.proofs.loads.hand_load.Goals as goal

pub returns-in_default : goal.returns-in_default
returns-in_default c = rw (fits_not _ 17 _ (sym c.in_default.ensures)) (refl, refl)

pub bounds-figures-0 : goal.bounds-figures-0
bounds-figures-0 c = let e = (fitting _ _ _ _ (sym c.in-Some.ensures)).figures_length in search (rules, e)

pub returns : goal.returns
returns c =
    let f = fitting _ _ _ _ (sym c.in-Some.ensures) in
    let served = c.copy_from_slice.ensures.after ∙ c.unwrap_or.ensures ∙ served_or_zeros c.args.load in
    rw f.fits (c.load_number.ensures, load_put c.args.figures.now _ _ _ _ f.figures_length served c.place_told.ensures)
