-- `view` meets its contract.
use Rattle.shelves.proofs.Standing.{in_first, in_second, none_shown, first_shown, second_shown}
use Rattle.shelves.proofs.views.view.Goals as goal

pub part_at-requires-in-Ok-First : goal.part_at-requires-in-Ok-First
part_at-requires-in-Ok-First c = in_first _ _ _ _ _ _ (rw c.in-Ok-First.field-0-is at c.in-Ok-First.ensures)

pub part_at-requires-in-Ok-Second : goal.part_at-requires-in-Ok-Second
part_at-requires-in-Ok-Second c = in_second _ _ _ _ _ _ (rw c.in-Ok-Second.field-0-is at c.in-Ok-Second.ensures)

pub returns-in-Err : goal.returns-in-Err
returns-in-Err c = none_shown _ _ _ _ _ _ _ c.in-Err.ensures c.part_at.ensures

pub returns-in-Ok-First : goal.returns-in-Ok-First
returns-in-Ok-First c = first_shown _ _ _ _ _ _ _ (rw c.in-Ok-First.field-0-is at c.in-Ok-First.ensures) c.part_at-in-Ok-First.ensures

pub returns-in-Ok-Second : goal.returns-in-Ok-Second
returns-in-Ok-Second c = second_shown _ _ _ _ _ _ _ (rw c.in-Ok-Second.field-0-is at c.in-Ok-Second.ensures) c.part_at-in-Ok-Second.ensures
