-- `words_of` meets its contract.
use borrow.Author.Rules.{rules}
use mathlib.Core.Path.{◌≡◌}
use lib.ListN.{length}
use Rattle.volume.proofs.RecordCode.{numbers_listed}
use Rattle.capi.specs.Words.{words_of}
use Rattle.capi.proofs.words.words_of.Goals as goal

pub returns : goal.returns
unfolding words_of
returns c =
    let v = c.args.v in
    let e : length v.counts ≡ 8 = search rules in
    rw (numbers_listed v e, ← c.pending_word-last.ensures)
