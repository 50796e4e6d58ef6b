-- `counts_rise` meets its contract.
use Rattle.std.proofs.Common.{arith, rules, sym}
use Rattle.std.specs.Prelude.{nat_lt}
use Rattle.std.proofs.lemmas.List.Sorted.{answers_always}
use Rattle.layout.proofs.HistoryCode.{not_rising_first, not_rising_later}
use Rattle.marks.proofs.CountsCode.{rising_told}
use Rattle.marks.proofs.counts.counts_rise.Goals as goal

pub returns-then-counts-ne0 : goal.returns-then-counts-ne0
returns-then-counts-ne0 c = rising_told _ _ (search rules) c.if-counts-ne0.true _ (c.is_sorted_by.ensures.cases nat_lt (answers_always _ _ _ (λ f a r g called. search rules)))

pub returns-else-counts-ne0 : goal.returns-else-counts-ne0
returns-else-counts-ne0 c =
    let h = c.if-counts-ne0.false in
    rw h (sym (not_rising_later 0 c.args.t c.args.counts.now (omega arith) (not_rising_first c.args.counts.now (omega arith))))
