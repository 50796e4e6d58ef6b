-- The laws of the table of moves: `move_table_laws` proves all of `MoveTableLaws` in `specs/Laws.antt`.
use Rattle.move_table.specs.Laws.{MoveTableLaws}
use Rattle.move_table.proofs.EntryPlaces.{added_disk_law, entry_some_law, past_end_law, table_law}
use Rattle.move_table.proofs.OffsetFormula.{formula_law}
use Rattle.move_table.proofs.OnlyTable.{only_places_law, only_numbers_law}
use Rattle.move_table.proofs.Agreement.{agrees_law}
use Rattle.move_table.proofs.Cases.{examples_law, counterexamples_law}

pub move_table_laws : MoveTableLaws
move_table_laws =
    record {
      is_table = table_law;
      only_places = only_places_law;
      only_numbers = only_numbers_law;
      added_disk = added_disk_law;
      entry_some = entry_some_law;
      past_end = past_end_law;
      formula = formula_law;
      address_agrees = agrees_law;
      examples = examples_law;
      counterexamples = counterexamples_law;
    }
