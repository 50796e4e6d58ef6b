-- `checkpointed` meets its contract.
use Rattle.std.proofs.Common.{◌≡◌, ◌∙◌, arith}
use Rattle.layout.specs.Windows.{marked_blocks, all_copied}
use Rattle.marks.specs.Words.{marks_of}
use Rattle.volume.proofs.GrowthCode.{marks_recorded, growth_finished, window_finished, window_most}
use Rattle.volume.proofs.LiveCode.{counts_now, has_growth, window_below}
use Rattle.volume.proofs.SoundLaws.{sound_facts}
use Rattle.volume.proofs.Volume.checkpointed.Goals as goal
use Rattle.volume.proofs.Volume.checkpointed.Goals.{After-all_copied}

pub history-requires : goal.history-requires
history-requires c = (sound_facts _ c.requires.0).limits

pub all_copied-requires : goal.all_copied-requires
all_copied-requires c =
    let e = c.history.ensures in
    record {
      grown = rw e.growths (has_growth _ c.requires.1 c.requires.0);
      window = rw (c.stage.ensures, e.growths, e.counts, e.rows) (window_below _ c.requires.1 c.requires.0);
    }

-- whether all are copied
full : (c : After-all_copied)
    → let v = c.args.self.now in
    c.all_copied.result ≡ all_copied v.rows (counts_now v) v.window (marked_blocks v.rows (counts_now v) v.window (marks_of v.copied))
full c = let e = c.history.ensures in rw (c.stage.ensures, e.growths, e.counts, e.rows) at c.all_copied.ensures

pub returns-then-not-all_copied : goal.returns-then-not-all_copied
returns-then-not-all_copied c =
    c.in_stage.ensures ∙ marks_recorded _ _ (full (goal.at.returns-then-not-all_copied c).After-all_copied) (c.if-not-all_copied.true)

pub overflow_add-w : goal.overflow_add-w
overflow_add-w c = omega (arith, window_most _ c.requires.0 c.requires.1)

pub returns-then-w-window_count : goal.returns-then-w-window_count
returns-then-w-window_count c =
    let a = full (goal.at.returns-then-w-window_count c).After-all_copied in
    let g = c.newest_growth.ensures in
    c.in_stage-then-w-window_count.ensures
    ∙ growth_finished _ _ a c.if-not-all_copied.false c.newest_growth.result g.old g.added _ c.window_count.ensures c.if-w-window_count.true

pub overflow_add-w-2 : goal.overflow_add-w-2
overflow_add-w-2 c = omega (arith, window_most _ c.requires.0 c.requires.1)

pub returns : goal.returns
returns c =
    let a = full (goal.at.returns c).After-all_copied in
    let g = c.newest_growth.ensures in
    c.in_stage-2.ensures
    ∙ window_finished _ _ a c.if-not-all_copied.false c.newest_growth.result g.old g.added _ c.window_count.ensures c.if-w-window_count.false
