-- `disks_hold` meets its contract.
use borrow.Author.Tests.{le-leb, lt-leb}
use Rattle.volume.specs.Sound.{disks_hold}
use Rattle.volume.proofs.sound.disks_hold.Goals as goal

pub returns-then-n-lt-LEAST_DISKS : goal.returns-then-n-lt-LEAST_DISKS
unfolding disks_hold
returns-then-n-lt-LEAST_DISKS c = simp (lt-leb _ _ c.if-n-lt-LEAST_DISKS.true)

pub returns : goal.returns
unfolding disks_hold
returns c = simp (le-leb _ _ c.if-n-lt-LEAST_DISKS.false)
