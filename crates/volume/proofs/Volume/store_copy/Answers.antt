-- `store_copy` meets its contract.
use mathlib.Core.Path.{◌≡◌}
use lib.ListN.{length}
use Rattle.layout.specs.History.{spot_of}
use Rattle.volume.proofs.Accepted.{CopyFacts}
use Rattle.volume.proofs.GrowthCode.{copy_facts, copy_asks, copy_stored}
use Rattle.volume.proofs.LiveCode.{counts_now, history_limits, spot_before_it, disk_below, new_read}
use Rattle.volume.proofs.Volume.store_copy.Goals as goal
use Rattle.volume.proofs.Volume.store_copy.Goals.{After-spot_after-to, Start}

facts : (c : Start) → CopyFacts c.args.self.now c.args.x.0 (length c.args.medium.now)
facts c = copy_facts _ _ _ c.requires.sound_state (c.requires.room, c.requires.to_copy)

pub newest_growth-requires : goal.newest_growth-requires
newest_growth-requires c = c.requires.sound_state

pub spot_after-to-requires : goal.spot_after-to-requires
spot_after-to-requires c =
    let p = c.requires.sound_state in
    let g = c.newest_growth.ensures in
    let b = (facts (goal.at.spot_after-to-requires c).Start).block_open in
    let d = disk_below _ p.1 p.0 c.newest_growth.result g.old g.added _ b _ (spot_before_it _ p.1 p.0 _ _ c.requires.at_old_spot) in
    ((history_limits _ p.0).rows_most, λ _. d)

-- and the one that it is copied to, its new one
to_new : (c : After-spot_after-to)
    → let v = c.args.self.now in c.spot_after-to.result ≡ spot_of v.rows (counts_now v) c.args.x.0
to_new c =
    let p = c.requires.sound_state in
    new_read _ p.1 p.0 c.newest_growth.result c.newest_growth.ensures.old c.newest_growth.ensures.added _ ((copy_facts _ _ _ c.requires.sound_state (c.requires.room, c.requires.to_copy))).block_open _ (spot_before_it _ p.1 p.0 _ _ c.requires.at_old_spot) _ c.spot_after-to.ensures

pub copy_block-requires : goal.copy_block-requires
copy_block-requires c =
    let h = copy_asks _ _ _ (facts (goal.at.copy_block-requires c).Start) _ c.geometry.ensures _ _ c.requires.at_old_spot (to_new (goal.at.copy_block-requires c).After-spot_after-to) in
    record { size_in_range = h.0; from_inside = h.1.0; to_inside = h.1.1 }

pub returns : goal.returns
returns c =
    copy_stored _ _ _ c.geometry.ensures _ _ c.requires.at_old_spot (to_new (goal.at.returns c).After-spot_after-to) _ _ c.copy_block.ensures
