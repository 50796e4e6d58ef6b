-- `from_record` meets its contract.
use mathlib.Core.Path.{◌≡◌}
use lib.ListN.{length}
use borrow.Author.Rules.{rules}
use Rattle.volume.specs.Records.{state_of}
use Rattle.volume.proofs.RecordCode.{counts_listed}
use Rattle.volume.proofs.Volume.from_record.Goals as goal

pub returns : goal.returns
unfolding state_of
returns c =
    let l = c.args.found.now.numbers in
    let e : length l ≡ 13 = search rules in
    rw (counts_listed l e) (rw (c.word_of-word.ensures, c.new_state-fresh.ensures) at c.with_growth.ensures)
