-- `Stage::live_block` meets its contract.
use Rattle.std.proofs.Common.{◌≡◌, ◌-◌, ◌≤◌, ◌<◌, false, refl, ◌∙◌}
use Rattle.layout.specs.History.{Within, history, old_count, block_at}
use Rattle.marks.proofs.BlocksCode.{ReadGrowth, disks_before, spot_before_law, left_told, on_some_disk, added_there, before_there, added_unmoved, gone_from_old, lives_on_old, lives_on_added, not_yet_on_added}
use Rattle.marks.proofs.Stage.live_block.Goals as goal
use Rattle.marks.proofs.Stage.live_block.Goals.{After-newest_growth-growth, After-spot_before-old, Else-p-growth, Then-p-growth}

read : (c : After-newest_growth-growth) → ReadGrowth c.args.h.rows c.args.h.growths c.args.h.counts.now c.newest_growth-growth.result
read c =
    let e = c.newest_growth-growth.ensures in
    record { limits = c.args.h.within_limits; grown = c.requires.grown; old_read = e.old; added_read = e.added }

-- ---- the spot is on an old disk
on_old : (c : Then-p-growth) → c.args.p.disk < old_count (history c.args.h.growths c.args.h.counts.now)
on_old c = rw c.newest_growth-growth.ensures.old at c.if-p-growth.true

within_old : (c : Then-p-growth) → let h = c.args.h in Within h.rows (history (h.growths - 1) h.counts.now) c.args.p
within_old c = spot_before_law _ _ _ c.args.h.within_limits c.requires.grown _ c.requires.within (on_old c)

pub returns-then-at_new_spot : goal.returns-then-at_new_spot
returns-then-at_new_spot c =
    let h = c.args.h in
    let d = (goal.at.returns-then-at_new_spot c).Then-p-growth in
    let r = read (goal.at.returns-then-at_new_spot c).After-newest_growth-growth in
    gone_from_old _ _ _ c.requires.grown _ _ (record { 0 = block_at h.rows (history (h.growths - 1) h.counts.now) c.args.p }) (on_old d) refl _
    (c.at_new_spot.ensures ∙ left_told r _ _ _ (within_old d)) c.if-at_new_spot.true

pub block_at-requires : goal.block_at-requires
block_at-requires c =
    let e = c.earlier.ensures in
    rw (e.counts, e.growths, e.rows) (within_old (goal.at.block_at-requires c).Then-p-growth)

pub returns-then-p-growth : goal.returns-then-p-growth
returns-then-p-growth c =
    let d = (goal.at.returns-then-p-growth c).Then-p-growth in
    let r = read (goal.at.returns-then-p-growth c).After-newest_growth-growth in
    let e = c.earlier.ensures in
    let b = rw (e.counts, e.growths, e.rows) at c.block_at.ensures in
    lives_on_old _ _ _ c.requires.grown _ _ _ (on_old d) b _ (rw b (c.at_new_spot.ensures ∙ left_told r _ _ _ (within_old d))) c.if-at_new_spot.false

-- ---- it is on an added one
on_added : (c : Else-p-growth) → old_count (history c.args.h.growths c.args.h.counts.now) ≤ c.args.p.disk
on_added c = rw c.newest_growth-growth.ensures.old at c.if-p-growth.false

pub added_index-requires : goal.added_index-requires
added_index-requires c = on_some_disk (read (goal.at.added_index-requires c).After-newest_growth-growth) _ c.requires.within

pub returns-then-added_index-growth : goal.returns-then-added_index-growth
returns-then-added_index-growth c =
    let h = c.args.h in
    let r = read (goal.at.returns-then-added_index-growth c).After-newest_growth-growth in
    not_yet_on_added _ _ _ _ (record { 0 = block_at h.rows (history h.growths h.counts.now) c.args.p }) (on_added (goal.at.returns-then-added_index-growth c).Else-p-growth) refl false
    (added_unmoved _ _ _ _ (added_there r _ c.requires.within _ c.added_index.ensures c.if-added_index-growth.true)) refl

pub spot_before-old-requires : goal.spot_before-old-requires
spot_before-old-requires c =
    (on_some_disk (read (goal.at.spot_before-old-requires c).After-newest_growth-growth) _ c.requires.within, rw c.added_index.ensures at c.if-added_index-growth.false)

-- the block that it has, at its old spot
old_there : (c : After-spot_before-old)
    → let h = c.args.h in
    Within h.rows (history (h.growths - 1) h.counts.now) c.spot_before-old.result
    × (block_at h.rows (history (h.growths - 1) h.counts.now) c.spot_before-old.result ≡ block_at h.rows (history h.growths h.counts.now) c.args.p)
old_there c =
    let e = c.newest_growth-growth.ensures in
    let r : ReadGrowth c.args.h.rows c.args.h.growths c.args.h.counts.now c.newest_growth-growth.result =
    record { limits = c.args.h.within_limits; grown = c.requires.grown; old_read = e.old; added_read = e.added } in
    before_there r _ c.requires.within _ c.added_index.ensures c.if-added_index-growth.false _ c.spot_before-old.ensures

pub at_new_spot-requires-2 : goal.at_new_spot-requires-2
at_new_spot-requires-2 c =
    let d = (old_there c).0.disk in
    rw (c.newest_growth-growth.ensures.old, ← disks_before _ _ _ c.args.h.within_limits c.requires.grown) d

pub block_at-requires-then-at_new_spot-2 : goal.block_at-requires-then-at_new_spot-2
block_at-requires-then-at_new_spot-2 c =
    let e = c.earlier-then-at_new_spot-2.ensures in
    rw (e.counts, e.growths, e.rows) (old_there (goal.at.block_at-requires-then-at_new_spot-2 c).After-spot_before-old).0

pub returns-then-at_new_spot-2 : goal.returns-then-at_new_spot-2
returns-then-at_new_spot-2 c =
    let r = read (goal.at.returns-then-at_new_spot-2 c).After-newest_growth-growth in
    let o = old_there (goal.at.returns-then-at_new_spot-2 c).After-spot_before-old in
    let e = c.earlier-then-at_new_spot-2.ensures in
    let b = rw (e.counts, e.growths, e.rows) at c.block_at-then-at_new_spot-2.ensures in
    lives_on_added _ _ _ _ _ (on_added (goal.at.returns-then-at_new_spot-2 c).Else-p-growth) (b ∙ o.1) _
    (rw b (c.at_new_spot-2.ensures ∙ left_told r _ _ _ o.0)) c.if-at_new_spot-2.true

pub returns : goal.returns
returns c =
    let h = c.args.h in
    let r = read (goal.at.returns c).After-newest_growth-growth in
    let o = old_there (goal.at.returns c).After-spot_before-old in
    not_yet_on_added _ _ _ _ (record { 0 = block_at h.rows (history (h.growths - 1) h.counts.now) c.spot_before-old.result }) (on_added (goal.at.returns c).Else-p-growth) o.1 _
    (c.at_new_spot-2.ensures ∙ left_told r _ _ _ o.0) c.if-at_new_spot-2.false
