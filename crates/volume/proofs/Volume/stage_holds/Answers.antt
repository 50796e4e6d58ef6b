-- `stage_holds` meets its contract.
use borrow.Author.Tests.{eq-eqb, ne_eqb}
use Rattle.volume.specs.Sound.{stage_holds}
use Rattle.volume.specs.States.{history_of}
use Rattle.volume.proofs.Volume.stage_holds.Goals as goal

pub returns-then-self-eq0 : goal.returns-then-self-eq0
unfolding stage_holds
returns-then-self-eq0 c = simp (eq-eqb _ _ c.if-self-eq0.true) (rw c.stage.ensures at c.at_rest.ensures)

pub returns-then-self-ne1 : goal.returns-then-self-ne1
unfolding stage_holds
returns-then-self-ne1 c = simp (ne_eqb _ _ c.if-self-eq0.false, ne_eqb _ _ c.if-self-ne1.true)

pub returns : goal.returns
unfolding stage_holds history_of
returns c =
    let e = c.history.ensures in
    simp (ne_eqb _ _ c.if-self-eq0.false, eq-eqb _ _ c.if-self-ne1.false) (rw (c.stage-2.ensures, e.growths, e.counts, e.rows) at c.in_growth.ensures)
