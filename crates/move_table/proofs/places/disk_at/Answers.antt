-- `disk_at` meets its contract.
use Rattle.std.proofs.Common.{◌≡◌, ℕ, List, get_or, refl, ◌∙◌, ap, le_refl}
use Rattle.base.specs.Below.{table, joined}
use Rattle.layout.specs.Growth.{part_of, new_disk}
use Rattle.move_table.specs.declared.table.TheConstants.{MOVES}
use Rattle.move_table.specs.Entries.{disk_of_mark, entries_of_pair, entries_of_sum, entries}
use Rattle.move_table.proofs.places.disk_at.Goals as goal
use Rattle.move_table.proofs.places.disk_at.Goals.{After-from}

-- the one check over the whole table: the array is `entries`, number by number
table_is : MOVES ≡ entries
unfolding entries entries_of_sum entries_of_pair disk_of_mark new_disk part_of table joined
table_is = refl

-- what is read of it
read : (c : After-from) → c.from.result ≡ get_or MOVES c.args.at 0
read c = rw (c.from.ensures, c.unwrap_or.ensures, c.copied.ensures) (c.get.ensures.lookup.4 (le_refl _) 0)

pub returns : goal.returns
returns c = read c ∙ ap (λ (l : List ℕ). get_or l c.args.at 0) table_is
