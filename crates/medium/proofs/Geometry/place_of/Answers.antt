-- `place_of` meets its contract.
use Prim.Native.Nat.{◌+◌, ◌*◌, ◌<◌, ◌^◌}
use mathlib.Core.Path.{refl}
use native.Mathlib.Omega.{arith}
use Rattle.medium.specs.Medium.{place}
use Rattle.medium.proofs.MediumCode.{factor_fits}
use Rattle.medium.proofs.Geometry.place_of.Goals as goal
use Rattle.medium.proofs.Geometry.place_of.Goals.{Start}

number_fits : (c : Start) → c.args.p.disk * c.args.self.rows + c.args.p.row.0 < 2 ^ 64
unfolding place
number_fits c = factor_fits _ c.args.self.size c.requires.size_nonzero c.requires.p_bound

pub overflow_mul-result : goal.overflow_mul-result
overflow_mul-result c = omega (arith, number_fits (goal.at.overflow_mul-result c).Start)

pub overflow_add-result : goal.overflow_add-result
overflow_add-result c = omega (arith, number_fits (goal.at.overflow_add-result c).Start)

pub overflow_mul-result-2 : goal.overflow_mul-result-2
unfolding place
overflow_mul-result-2 c = omega (arith, c.requires.p_bound)

pub overflow_add-result-2 : goal.overflow_add-result-2
unfolding place
overflow_add-result-2 c = omega (arith, c.requires.p_bound)

pub returns : goal.returns
unfolding place
returns c = refl
