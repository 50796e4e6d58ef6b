use mathlib.Core.Path.{◌≡◌}
use Rattle.std.specs.Prelude.{Ok}
use Rattle.scene_load.specs.Loads.{load_of_first}
use Rattle.scene_load.proofs.scenes.load_of.Given as goal

-- the numbers are those of the scenes taken
abbrev pub invariant-loop-place : goal.invariant-loop-place
invariant-loop-place l = Ok l.served ≡ load_of_first l.v l.scenes l.place
