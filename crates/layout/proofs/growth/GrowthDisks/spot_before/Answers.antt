-- `spot_before` meets its contract.
use Rattle.std.proofs.Common.{arith}
use Rattle.layout.specs.Growth.{spot_before}
use Rattle.layout.proofs.OneRow.{disk_before_old, disk_before_added, has_moved}
use Rattle.layout.proofs.growth.GrowthDisks.spot_before.Goals as goal

pub returns-then-p-self : goal.returns-then-p-self
unfolding spot_before
returns-then-p-self c = rw (disk_before_old _ _ _ _ c.if-p-self.true)

pub old_disk-disk-requires : goal.old_disk-disk-requires
old_disk-disk-requires c =
    let h = has_moved _ _ _ (omega arith) (omega arith) _ c.if-p-self.false (omega arith) c.requires.1 in
    rw c.row_in_window.ensures (record { added_disk = (h.0, h.1); moved_row = (h.2, h.3, h.4) })

pub returns : goal.returns
unfolding spot_before
returns c = rw (disk_before_added _ _ _ _ c.if-p-self.false, c.old_disk-disk.ensures, c.row_in_window.ensures)
