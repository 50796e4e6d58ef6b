-- `put_ending` meets its contract.
use native.Mathlib.Omega.{arith}
use lib.ListN.{replicate, length-replicate}
use Rattle.record.specs.Decimal.{space}
use Rattle.record.proofs.WriteCode.{full_part_back, ending_parts}
use Rattle.record.proofs.write.put_ending.Goals as goal

pub returns : goal.returns
returns c =
    let m = c.args.bytes.now in
    let full = c.fill.ensures.after (λ y h. h) in
    rw (full_part_back (λ n. replicate n space) (λ n. length-replicate n space) m c.fill.new.self 194 317 (omega arith) full) (ending_parts m)
