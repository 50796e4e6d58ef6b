-- `advance_figures` meets its contract.
use mathlib.Core.Path.{◌≡◌}
use lib.ListN.{length}
use borrow.Author.Rules.{rules}
use Rattle.volume.specs.Answers.{calls_told, block_copied, part_copied}
use Rattle.capi.specs.Figures.{did_told}
use Rattle.capi.proofs.WordsCode.{three_listed}
use Rattle.capi.proofs.figures.advance_figures.Goals as goal

pub returns-in-Ok-Advanced : goal.returns-in-Ok-Advanced
unfolding calls_told did_told block_copied part_copied
returns-in-Ok-Advanced c =
    let e : length c.did_figures.result ≡ 3 = search rules in
    let told = rw c.in-Ok-Advanced.is at c.in-Ok-Advanced.field-0-is in
    rw (c.in-Ok-Advanced.is, told, three_listed _ e, c.did_figures.ensures)
