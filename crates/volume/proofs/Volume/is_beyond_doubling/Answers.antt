-- `is_beyond_doubling` meets its contract.
use native.Mathlib.Omega.{arith}
use Rattle.volume.proofs.CallsCode.{disks_most}
use Rattle.volume.proofs.Volume.is_beyond_doubling.Goals as goal

pub overflow_mul-result : goal.overflow_mul-result
overflow_mul-result c = let most = disks_most _ c.requires in omega (arith, c.disk_count.ensures, most)
