-- `calls_left` meets its contract.
use Rattle.volume.proofs.LiveCode.{calls_asks, calls_told}
use Rattle.volume.proofs.SoundLaws.{sound_facts}
use Rattle.volume.proofs.Volume.calls_left.Goals as goal

pub history-requires : goal.history-requires
history-requires c = (sound_facts _ c.requires).limits

pub calls_left-requires : goal.calls_left-requires
calls_left-requires c =
    let e = c.history.ensures in
    record { while_growing = rw (c.stage.ensures, e.growths, e.counts, e.rows) (calls_asks c.args.self.now c.requires) }

pub returns : goal.returns
returns c =
    let e = c.history.ensures in
    calls_told c.args.self.now _ (rw (c.stage.ensures, e.growths, e.counts, e.rows) at c.calls_left.ensures)
