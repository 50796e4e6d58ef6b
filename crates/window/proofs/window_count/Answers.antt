-- `window_count` meets its contract.
use Rattle.std.proofs.Common.{◌≡◌, ℕ, ◌+◌, ◌-◌, ◌/◌, ◌%◌, ◌<◌, min, sym, suc-mul, add-one, arith}
use Rattle.std.proofs.Math.Nat.{div-eq_of_lt-le}
use Rattle.std.proofs.lemmas.Grind.{div_ceil_times}
use Rattle.layout.specs.Windows.{windows}
use Rattle.window.proofs.window_count.Goals as goal

rounded_up : (s k : ℕ) → 0 < k → s / k + min 1 (s % k) ≡ (s + (k - 1)) / k
rounded_up s k h =
    let q = s / k + min 1 (s % k) in
    let b = div_ceil_times s k h in
    sym (div-eq_of_lt-le k (omega (arith, b.1, h)) (omega (arith, b.0, h, suc-mul q k, add-one q)))

pub returns : goal.returns
unfolding windows
returns c = rw (c.div_ceil.ensures, c.disks-k.ensures) (rounded_up _ _ (omega arith))
