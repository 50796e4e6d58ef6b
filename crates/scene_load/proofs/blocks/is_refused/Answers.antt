-- `is_refused` meets its contract.
use native.Mathlib.Omega.{arith}
use borrow.Author.Tests.{eq-eqb}
use Rattle.scene_load.proofs.BlocksCode.{late_refused, empty_allowed, many_refused, end_tested}
use Rattle.scene_load.proofs.blocks.is_refused.Goals as goal
use Rattle.scene_load.proofs.blocks.is_refused.Goals.{then-place-ge-MOST_SCENES-via-then-place-ge-MOST_SCENES, then-place-ge-MOST_SCENES-via-else-place-ge-MOST_SCENES+then-blocks-count}

pub returns-then-place-ge-MOST_SCENES : goal.returns-then-place-ge-MOST_SCENES
returns-then-place-ge-MOST_SCENES c =
    elim c.then-place-ge-MOST_SCENES.branch [
      | then-place-ge-MOST_SCENES-via-then-place-ge-MOST_SCENES w ↦ late_refused _ _ _ _ w.if-place-ge-MOST_SCENES.true
      | then-place-ge-MOST_SCENES-via-else-place-ge-MOST_SCENES+then-blocks-count w ↦ many_refused _ _ _ _ w.if-place-ge-MOST_SCENES.false w.if-blocks-count.true
    ]

pub returns-then-count-ne0 : goal.returns-then-count-ne0
returns-then-count-ne0 c = end_tested _ _ _ _ c.if-place-ge-MOST_SCENES.false c.if-count-ne0.true (omega (arith, c.if-blocks-count.false))

pub returns-else-count-ne0 : goal.returns-else-count-ne0
returns-else-count-ne0 c = rw (eq-eqb _ _ c.if-count-ne0.false) (empty_allowed _ _ _ _ c.if-place-ge-MOST_SCENES.false c.if-count-ne0.false)
