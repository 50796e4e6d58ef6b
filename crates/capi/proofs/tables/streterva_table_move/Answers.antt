-- `streterva_table_move` meets its contract.
use mathlib.Core.Path.{◌∙◌}
use Rattle.capi.proofs.ExportedCode.{table_not_looked_up, table_looked_up}
use Rattle.capi.proofs.tables.streterva_table_move.Goals as goal

pub returns-then-figures-ne-TABLE_MOVE_FIGURES : goal.returns-then-figures-ne-TABLE_MOVE_FIGURES
returns-then-figures-ne-TABLE_MOVE_FIGURES c =
    let h = table_not_looked_up _ _ _ _ c.if-figures-ne-TABLE_MOVE_FIGURES.true in
    record { value = h.0; figures_after = h.1 }

pub returns : goal.returns
returns c =
    let made = rw c.offset.ensures at c.table_move_figures.ensures in
    let h = table_looked_up _ _ _ _ c.if-figures-ne-TABLE_MOVE_FIGURES.false _ (c.copy_from_slice.ensures.after ∙ made) in
    record { value = h.0; figures_after = h.1 }
