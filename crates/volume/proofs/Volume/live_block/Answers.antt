-- `live_block` meets its contract.
use mathlib.Core.Path.{◌∙◌}
use Rattle.volume.specs.States.{history_of}
use Rattle.volume.proofs.LiveCode.{rest_block, has_growth, growing_block}
use Rattle.volume.proofs.SoundLaws.{sound_facts}
use Rattle.volume.proofs.Volume.live_block.Goals as goal

pub history-requires : goal.history-requires
history-requires c = (sound_facts _ c.requires.sound_state).limits

pub block_at-requires : goal.block_at-requires
unfolding history_of
block_at-requires c = let e = c.history.ensures in rw (e.growths, e.counts, e.rows) c.requires.within

pub returns-then-self-eq0 : goal.returns-then-self-eq0
returns-then-self-eq0 c =
    let e = c.history.ensures in
    rest_block c.args.self.now c.if-self-eq0.true _ _ (rw (e.growths, e.counts, e.rows) at c.block_at.ensures)

pub history-requires-2 : goal.history-requires-2
history-requires-2 c = (sound_facts _ c.requires.sound_state).limits

pub live_block-requires : goal.live_block-requires
unfolding history_of
live_block-requires c =
    let v = c.args.self.now in
    let e = c.history-2.ensures in
    record {
      grown = rw e.growths (has_growth v c.if-self-eq0.false c.requires.sound_state);
      within = rw (e.growths, e.counts, e.rows) c.requires.within;
    }

pub returns : goal.returns
returns c =
    let e = c.history-2.ensures in
    rw (c.stage.ensures, e.growths, e.counts, e.rows) at c.live_block.ensures ∙ growing_block c.args.self.now c.if-self-eq0.false _
