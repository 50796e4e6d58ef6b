-- `newest_growth` meets its contract.
use Rattle.volume.proofs.LiveCode.{has_growth}
use Rattle.volume.proofs.SoundLaws.{sound_facts}
use Rattle.volume.proofs.Volume.newest_growth.Goals as goal

pub history-requires : goal.history-requires
history-requires c = (sound_facts _ c.requires.0).limits

pub newest_growth-requires : goal.newest_growth-requires
newest_growth-requires c = rw c.history.ensures.growths (has_growth _ c.requires.1 c.requires.0)

pub returns : goal.returns
returns c =
    let e = c.history.ensures in
    let g = c.newest_growth.ensures in
    record { old = rw (e.growths, e.counts) at g.old; added = rw (e.growths, e.counts) at g.added }
