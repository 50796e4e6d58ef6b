-- `write_record` meets its contract.
use mathlib.Core.Path.{◌≡◌}
use lib.Seq.{sets}
use Rattle.record.specs.Sector.{sector}
use Rattle.record.proofs.WriteCode.{sector_parts, sector_on_page}
use Rattle.record.proofs.write.write_record.Goals as goal

pub returns : goal.returns
returns c =
    let page = c.args.page.now in
    let held = c.args.held.now in
    let front = rw c.unwrap-bytes.ensures at c.first_chunk_mut.ensures.cases in
    let stored : c.put_ending.new.bytes ≡ sets c.unwrap-bytes.result.now 0 (sector held.numbers held.marks) =
    rw (c.put_ending.ensures, c.put_marks.ensures, c.put_columns.ensures) (sector_parts c.unwrap-bytes.result.now held.numbers held.marks)
    in
    sector_on_page page c.put_ending.new.bytes held.numbers held.marks c.requires (rw front.same at stored)
