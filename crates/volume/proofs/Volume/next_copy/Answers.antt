-- `next_copy` meets its contract.
use Rattle.layout.specs.Tally.{moves_now, rank_now, next_block}
use Rattle.layout.specs.Windows.{next_of_window}
use Rattle.volume.specs.States.{history_of, tally_of}
use Rattle.volume.proofs.LiveCode.{has_growth, window_below}
use Rattle.volume.proofs.SoundLaws.{sound_facts}
use Rattle.volume.proofs.Volume.next_copy.Goals as goal

pub history-requires : goal.history-requires
history-requires c = (sound_facts _ c.requires.sound_state.0).limits

pub next_copy-requires : goal.next_copy-requires
next_copy-requires c =
    let v = c.args.self.now in
    let p = c.requires.sound_state in
    let e = c.history.ensures in
    record {
      grown = rw e.growths (has_growth v p.1 p.0);
      window = rw (c.stage.ensures, e.growths, e.counts, e.rows) (window_below v p.1 p.0);
    }

pub returns : goal.returns
unfolding next_block next_of_window moves_now rank_now tally_of history_of
returns c = let e = c.history.ensures in rw (c.stage.ensures, e.growths, e.counts, e.rows) at c.next_copy.ensures
