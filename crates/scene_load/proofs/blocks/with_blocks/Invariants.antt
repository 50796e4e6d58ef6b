use mathlib.Core.Path.{◌≡◌}
use Rattle.scene_load.proofs.BlocksCode.{with_first}
use Rattle.scene_load.proofs.blocks.with_blocks.Given as goal

-- the numbers have the blocks passed
abbrev pub invariant-loop-j : goal.invariant-loop-j
invariant-loop-j l = l.served ≡ with_first l.v l.fn.served l.first l.j
