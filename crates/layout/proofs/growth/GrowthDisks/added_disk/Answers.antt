-- `added_disk` meets its contract.
use Rattle.std.proofs.Common.{◌≡◌, ◌+◌, ◌-◌, ◌%◌, ◌<◌, mod-lt, mod-eq_of_lt, arith}
use native.Mathlib.Nat.{mod-add-mod}
use Rattle.layout.specs.Growth.{minus_mod, added_disk}
use Rattle.layout.proofs.growth.GrowthDisks.added_disk.Goals as goal
use Rattle.layout.proofs.growth.GrowthDisks.added_disk.Goals.{After-reduce_once-first}

-- the first added block's disk is one of them
first_there : (c : After-reduce_once-first) → c.reduce_once-first.result < c.args.self.old + c.args.self.added
first_there c = rw (c.reduce_once-first.ensures, c.disks-k.ensures) (mod-lt _ (omega arith))

pub returns : goal.returns
unfolding added_disk minus_mod
returns c =
    let k = c.args.self.old + c.args.self.added in
    let e : (c.args.self.added - 1) % k ≡ c.args.self.added - 1 = mod-eq_of_lt (omega arith) in
    rw (c.reduce_once.ensures, c.reduce_once-first.ensures, c.disks-k.ensures, e, mod-add-mod c.args.b k (k - (c.args.self.added - 1)))
