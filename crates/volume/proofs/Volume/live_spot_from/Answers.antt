-- `live_spot_from` meets its contract.
use Rattle.volume.proofs.LiveCode.{spot_known, live_told}
use Rattle.volume.proofs.SoundLaws.{sound_facts}
use Rattle.volume.proofs.Volume.live_spot_from.Goals as goal

pub history-requires : goal.history-requires
history-requires c = (sound_facts _ c.requires.sound_state).limits

pub live_spot-requires : goal.live_spot-requires
live_spot-requires c =
    let e = c.history.ensures in
    let known = spot_known c.args.self.now c.requires.sound_state _ c.requires.x_bound _ c.requires.at_old_spot in
    record { while_growing = rw (c.stage.ensures, e.growths, e.counts) known }

pub returns : goal.returns
returns c =
    let e = c.history.ensures in
    live_told c.args.self.now c.requires.sound_state _ c.requires.x_bound _ c.requires.at_old_spot _
    (rw (c.stage.ensures, e.growths, e.counts, e.rows) at c.live_spot.ensures)
