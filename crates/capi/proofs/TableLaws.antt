-- What the figures of the table of moves say.
use Prim.Native.Nat.{ℕ}
use mathlib.Core.Path.{◌≡◌}
use mathlib.Core.List.{List, [], ◌∷◌}
use lib.ListN.{length}
use borrow.Author.Tests.{eq-eqb}
use Rattle.move_table.specs.Entries.{disk_of_mark, offset}
use Rattle.move_table.specs.Tables.{IsMark}
use Rattle.move_table.proofs.EntryPlaces.{disk_law}
use Rattle.move_table.proofs.PlacesCode.{at_place, no_place}
use Rattle.capi.specs.Exported.{looked_up, table_move_left}
use Rattle.capi.specs.Figures.{table_move_figures}

module _ (m n j : ℕ) (figures : List ℕ) (two : length figures ≡ 2) where
  pub table_move_told : IsMark m n j → (table_move_left m n j figures).figures ≡ offset m n j ∷ disk_of_mark m n j ∷ []
  unfolding table_move_left looked_up table_move_figures
  table_move_told h = rw (eq-eqb (length figures) 2 two, at_place m n j h, disk_law m n j h)

  pub table_move_none : (IsMark m n j → ⊥) → (table_move_left m n j figures).figures ≡ 0 ∷ 0 ∷ []
  unfolding table_move_left looked_up table_move_figures
  table_move_none none = rw (eq-eqb (length figures) 2 two, no_place m n j none)
