-- `Stage::calls_left` meets its contract.
use mathlib.Core.Logic.{⊎_elim}
use borrow.Author.Tests.{ne_eqb}
use Rattle.marks.proofs.CopiesCode.{read_window, left_told}
use Rattle.marks.proofs.Stage.calls_left.Goals as goal

pub returns : goal.returns
returns c =
    let h = c.args.h in
    let e = c.window_now.ensures in
    let o = (⊎_elim (λ z. absurd (c.if-self-eq0.false z)) (λ k. k) c.requires.while_growing).0 in
    let r = read_window h.counts.now c.window_now.result h.within_limits o e.old e.added e.rows e.number in
    simp (ne_eqb _ _ c.if-self-eq0.false) (left_told r _ _ c.calls_left_by_marks.ensures)
