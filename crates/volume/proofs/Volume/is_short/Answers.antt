-- `is_short` meets its contract.
use Rattle.volume.proofs.LiveCode.{bytes_asked, short_told}
use Rattle.volume.proofs.Volume.is_short.Goals as goal

pub bytes_needed-requires : goal.bytes_needed-requires
bytes_needed-requires c =
    let h = bytes_asked _ c.requires.sound_state _ c.geometry.ensures _ c.requires.disks_le_most_disks in
    record { size_nonzero = h.0; disks_bound = h.1 }

pub returns : goal.returns
returns c = short_told _ _ c.geometry.ensures _ _ _ c.bytes_needed.ensures
