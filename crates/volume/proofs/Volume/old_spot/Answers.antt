-- `old_spot` meets its contract.
use Rattle.volume.proofs.LiveCode.{growing_most, open_asks}
use Rattle.volume.proofs.Volume.old_spot.Goals as goal

pub overflow_sub-self : goal.overflow_sub-self
overflow_sub-self c = growing_most _ c.requires.sound_state

pub history_to-requires : goal.history_to-requires
history_to-requires c = (open_asks c.args.self.now c.requires.sound_state _ c.requires.x_bound).0

pub spot_of-requires : goal.spot_of-requires
spot_of-requires c =
    let e = c.history_to.ensures in
    rw (e.growths, e.counts, e.rows) (open_asks c.args.self.now c.requires.sound_state _ c.requires.x_bound).1

pub returns : goal.returns
returns c = let e = c.history_to.ensures in rw (e.growths, e.counts, e.rows) at c.spot_of.ensures
