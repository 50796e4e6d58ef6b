-- `triangle` meets its contract.
use native.Mathlib.Omega.{arith}
use Rattle.window.proofs.CutMoves.{triangle_twice}
use Rattle.window.proofs.triangle.Goals as goal

pub returns : goal.returns
returns c = omega (arith, triangle_twice c.args.k)
