-- `disk_after` meets its contract.
use Rattle.std.proofs.Common.{sym, ◌∙◌, mod-lt, arith}
use Rattle.layout.specs.Growth.{moves_from, disk_after}
use Rattle.layout.proofs.OneRow.{moves_rows}
use Rattle.layout.proofs.growth.GrowthDisks.disk_after.Goals as goal

pub new_disk-requires : goal.new_disk-requires
unfolding moves_from
new_disk-requires c =
    let r = moves_rows _ _ _ (omega arith) (sym c.moves_from.ensures ∙ c.if-moves_from.true) in
    rw c.row_in_window.ensures (c.requires, r.0, mod-lt _ (omega arith))

pub returns-then-moves_from : goal.returns-then-moves_from
unfolding disk_after moves_from
returns-then-moves_from c = rw (← c.moves_from.ensures, c.if-moves_from.true, c.new_disk.ensures, c.row_in_window.ensures)

pub returns : goal.returns
unfolding disk_after moves_from
returns c = rw (← c.moves_from.ensures, c.if-moves_from.false)
