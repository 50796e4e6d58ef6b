-- `disk_count` meets its contract.
use mathlib.Core.Path.{◌≡◌, sym, ◌∙◌}
use native.Mathlib.Omega.{arith}
use lib.ListN.{length, get_or-eq_default}
use borrow.Author.Rules.{rules}
use Rattle.volume.proofs.LiveCode.{disks_read}
use Rattle.volume.proofs.Volume.disk_count.Goals as goal

pub returns-then-self-gt-MOST_GROWTHS : goal.returns-then-self-gt-MOST_GROWTHS
returns-then-self-gt-MOST_GROWTHS c =
    let v = c.args.self.now in
    let e : length v.counts ≡ 8 = search rules in
    sym (get_or-eq_default v.counts 0 {n = v.growths} (omega (arith, e))) ∙ disks_read v

pub returns : goal.returns
returns c = disks_read _
