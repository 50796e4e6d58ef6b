-- `put_columns` meets its contract.
use mathlib.Core.Path.{refl}
use Rattle.base.specs.Below.{joined}
use Rattle.record.specs.Sector.{columns}
use Rattle.record.proofs.WriteCode.{columns_next}
use Rattle.record.proofs.write.put_columns.Goals as goal

pub loop-i-init : goal.loop-i-init
unfolding columns joined
loop-i-init c = (refl, refl)

pub loop-i-preserved : goal.loop-i-preserved
loop-i-preserved c =
    let lp = c.loop-i in
    let a = c.args in
    let (stored, growths_kept) = lp.invariant in
    (rw (c.put_field.ensures, stored, growths_kept) (columns_next a.bytes.now a.numbers.now lp.i), growths_kept)
