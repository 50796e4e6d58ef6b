-- `with_blocks` meets its contract. The loop's invariant: the numbers have the blocks passed.
use Prim.Native.Nat.{◌<◌}
use mathlib.Core.Path.{◌≡◌, ap}
use native.Mathlib.Omega.{arith}
use borrow.Author.Rules.{rules}
use Rattle.layout.specs.declared.Spot.{Spot}
use Rattle.layout.specs.Limits.{most_disks}
use Rattle.volume.proofs.LiveCode.{open_most}
use Rattle.scene_load.proofs.BlocksCode.{none_added, number_most, block_added, disk_small}
use Rattle.scene_load.proofs.blocks.with_blocks.Goals as goal
use Rattle.scene_load.proofs.blocks.with_blocks.Goals.{After-live_spot-spot}

pub loop-j-init : goal.loop-j-init
loop-j-init c = none_added _ _ _ (search rules)

pub overflow_add-first : goal.overflow_add-first
overflow_add-first c =
    omega (arith, c.requires.all_open c.loop-j.j c.loop-j-test.true, open_most _ c.requires.sound_state)

pub live_spot-spot-requires : goal.live_spot-spot-requires
live_spot-spot-requires c = record { sound_state = c.requires.sound_state; x_bound = c.requires.all_open _ c.loop-j-test.true }

-- the block's disk is one of the 16
small : (c : After-live_spot-spot) → c.live_spot-spot.result.disk < most_disks
small c =
    disk_small _ c.requires.sound_state _ _ (c.requires.all_open _ (omega (arith, c.loop-j-test.true))) c.live_spot-spot.ensures

pub offset_bounds-served-spot : goal.offset_bounds-served-spot
offset_bounds-served-spot c = omega (arith, small (goal.at.offset_bounds-served-spot c).After-live_spot-spot)

pub bounds-served-spot : goal.bounds-served-spot
bounds-served-spot c = small (goal.at.bounds-served-spot c).After-live_spot-spot

pub overflow_add-served : goal.overflow_add-served
overflow_add-served c =
    let l = c.loop-j in
    let most = rw (← l.invariant) at (number_most c.args.v.now c.args.served.now c.args.first l.j c.live_spot-spot.result.disk (small (goal.at.overflow_add-served c).After-live_spot-spot)) in
    omega (arith, most, c.requires.none_wraps c.live_spot-spot.result.disk (small (goal.at.overflow_add-served c).After-live_spot-spot), c.loop-j-test.true)

pub bounds-served-spot-in-loop-j : goal.bounds-served-spot-in-loop-j
bounds-served-spot-in-loop-j c = small (goal.at.bounds-served-spot-in-loop-j c).After-live_spot-spot

pub loop-j-preserved : goal.loop-j-preserved
loop-j-preserved c =
    let l = c.loop-j in
    let block = c.requires.all_open l.j c.loop-j-test.true in
    let disk = ap (λ (p : Spot). p.disk) c.live_spot-spot.ensures in
    rw (← l.invariant) at (block_added c.args.v.now c.args.served.now c.args.first c.requires.sound_state l.j _ block disk (small (goal.at.loop-j-preserved c).After-live_spot-spot))

pub returns : goal.returns
returns c =
    let l = c.loop-j in
    let e : l.j ≡ c.args.count = omega (arith, c.loop-j-test.false) in
    rw e at l.invariant
