-- `with_scene` meets its contract.
use mathlib.Core.Path.{◌≡◌, refl, sym, ◌∙◌}
use mathlib.Core.Bool.{false}
use borrow.Author.Rules.{rules}
use Rattle.layout.specs.Tally.{open_blocks}
use Rattle.volume.specs.States.{tally_of}
use Rattle.scene_load.specs.Loads.{is_refused}
use Rattle.scene_load.specs.Steps.{with_scene}
use Rattle.scene_load.proofs.Refusing.{block_within}
use Rattle.scene_load.proofs.BlocksCode.{none_wraps}
use Rattle.scene_load.proofs.blocks.with_scene.Goals as goal
use Rattle.scene_load.proofs.blocks.with_scene.Goals.{Else-is_refused}

pub open_blocks-requires : goal.open_blocks-requires
open_blocks-requires c = c.requires.is_sound

pub returns-then-is_refused : goal.returns-then-is_refused
unfolding with_scene
returns-then-is_refused c =
    let e = rw c.open_blocks.ensures at (sym c.is_refused.ensures ∙ c.if-is_refused.true) in
    record { refused = (rw e refl, refl); counted = search rules }

-- the scene is not refused
allowed : (c : Else-is_refused) → let a = c.args in is_refused (open_blocks (tally_of a.v.now)) a.place (record { first = a.first; count = a.count }) ≡ false
allowed c = rw c.open_blocks.ensures at (sym c.is_refused.ensures ∙ c.if-is_refused.false)

pub with_blocks-requires : goal.with_blocks-requires
with_blocks-requires c =
    let e = allowed (goal.at.with_blocks-requires c).Else-is_refused in
    record {
      sound_state = c.requires.is_sound;
      all_open = block_within _ _ _ e;
      none_wraps = none_wraps _ _ _ _ c.requires e;
    }

pub returns : goal.returns
unfolding with_scene
returns c =
    record { refused = search rules; counted = rw (allowed (goal.at.returns c).Else-is_refused, c.with_blocks.ensures) refl }
