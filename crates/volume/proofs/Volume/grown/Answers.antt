-- `grown` meets its contract.
use mathlib.Core.Path.{◌∙◌}
use native.Mathlib.Numerals.{add-one}
use Rattle.volume.specs.States.{grown}
use Rattle.volume.proofs.Volume.grown.Goals as goal

pub returns : goal.returns
unfolding grown
returns c = c.with_growth.ensures ∙ simp add-one
