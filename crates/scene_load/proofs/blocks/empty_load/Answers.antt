-- `empty_load` meets its contract.
use mathlib.Core.Path.{sym, ◌∙◌}
use Rattle.scene_load.proofs.ScenesCode.{empty_sound, empty_unsound}
use Rattle.scene_load.proofs.blocks.empty_load.Goals as goal

pub returns-then-not-is_sound : goal.returns-then-not-is_sound
returns-then-not-is_sound c = empty_unsound _ (sym c.is_sound.ensures ∙ c.if-not-is_sound.true)

pub returns : goal.returns
returns c = empty_sound _ (sym c.is_sound.ensures ∙ c.if-not-is_sound.false)
