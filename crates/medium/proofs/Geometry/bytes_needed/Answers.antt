-- `bytes_needed` meets its contract.
use Prim.Native.Nat.{◌*◌}
use mathlib.Core.Path.{refl}
use native.Mathlib.Omega.{arith}
use Rattle.medium.specs.Medium.{bytes_needed}
use Rattle.medium.proofs.MediumCode.{factor_fits}
use Rattle.medium.proofs.Geometry.bytes_needed.Goals as goal

pub overflow_mul-result : goal.overflow_mul-result
unfolding bytes_needed
overflow_mul-result c =
    let h = factor_fits (c.args.disks * c.args.self.rows) c.args.self.size c.requires.size_nonzero c.requires.disks_bound in
    omega (arith, h)

pub overflow_mul-result-2 : goal.overflow_mul-result-2
unfolding bytes_needed
overflow_mul-result-2 c = omega (arith, c.requires.disks_bound)

pub overflow_add-result : goal.overflow_add-result
unfolding bytes_needed
overflow_add-result c = omega (arith, c.requires.disks_bound)

pub returns : goal.returns
unfolding bytes_needed
returns c = refl
