-- `store_record` meets its contract.
use mathlib.Core.Path.{◌≡◌}
use lib.ListN.{length}
use borrow.Author.Rules.{rules}
use Rattle.medium.specs.Medium.{apply}
use Rattle.volume.specs.Records.{record_of}
use Rattle.volume.proofs.RecordCode.{numbers_listed}
use Rattle.volume.proofs.Volume.store_record.Goals as goal

pub returns : goal.returns
unfolding apply record_of
returns c =
    let v = c.args.self.now in
    let e : length v.counts ≡ 8 = search rules in
    rw (numbers_listed v e, ← c.marks_of-marks.ensures) c.write_record.ensures
