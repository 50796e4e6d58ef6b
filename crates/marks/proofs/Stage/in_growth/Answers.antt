-- `Stage::in_growth` meets its contract.
use Rattle.std.proofs.Common.{◌≡◌, ℕ, ◌<◌, ◌≤◌, Bool, false, List, [], ◌∙◌, arith}
use Rattle.std.specs.Prelude.{not, ◌&&◌}
use borrow.Author.Tests.{lt-ltb, le-ltb}
use Rattle.layout.specs.declared.growth.GrowthDisks.{GrowthDisks}
use Rattle.layout.specs.History.{history, old_count, added_count}
use Rattle.layout.specs.Windows.{windows}
use Rattle.marks.specs.Marks.{within, moving_marks, in_growth}
use Rattle.marks.proofs.BlocksCode.{ReadGrowth, some_old}
use Rattle.marks.proofs.CopiesCode.{window_most}
use Rattle.marks.proofs.Stage.in_growth.Goals as goal
use Rattle.marks.proofs.Stage.in_growth.Goals.{After-window_count}

-- what each test of the code says of what is tested, in a growth that the code has read
module _ {s t : ℕ} {l : List ℕ} {g : GrowthDisks} (r : ReadGrowth s t l g) (w q : ℕ) (e : q ≡ windows g.old g.added s) (recorded copied : List Bool) where
  count_read : q ≡ windows (old_count (history t l)) (added_count (history t l)) s
  count_read = rw (r.old_read, r.added_read) at e

  no_window : q ≤ w → false ≡ in_growth t s (history t l) w recorded copied
  unfolding in_growth
  no_window h = simp (lt-ltb _ _ r.grown, le-ltb _ _ (rw count_read at h))

  by_marks : (b : Bool) → w < q
      → (let moving = moving_marks g.old g.added s w in b ≡ (within recorded copied && (within copied moving && not (within moving recorded))))
      → b ≡ in_growth t s (history t l) w recorded copied
  unfolding in_growth
  by_marks b h k =
      k ∙ rw (r.old_read, r.added_read) (simp (lt-ltb _ _ r.grown, lt-ltb _ _ (rw count_read at h)))

  one_window : w < q → w < windows (old_count (history t l)) (added_count (history t l)) s
  one_window h = rw count_read at h

read : (c : After-window_count) → ReadGrowth c.args.h.rows c.args.h.growths c.args.h.counts.now c.newest_growth-growth.result
read c =
    let e = c.newest_growth-growth.ensures in
    record { limits = c.args.h.within_limits; grown = omega arith; old_read = e.old; added_read = e.added }

pub returns-then-h-eq0 : goal.returns-then-h-eq0
unfolding in_growth
returns-then-h-eq0 c = simp c.if-h-eq0.true

pub returns-then-window_count-self : goal.returns-then-window_count-self
returns-then-window_count-self c =
    no_window (read (goal.at.returns-then-window_count-self c).After-window_count) _ _ c.window_count.ensures _ _ c.if-window_count-self.true

pub invariant_of-marks_fit : goal.invariant_of-marks_fit
invariant_of-marks_fit c =
    let r = read (goal.at.invariant_of-marks_fit c).After-window_count in
    let a = c.args.h.within_limits in
    record {
      number_most = window_most _ _ _ a (some_old r) (one_window r _ _ c.window_count.ensures [] [] c.if-window_count-self.false);
    }

pub returns : goal.returns
returns c =
    by_marks (read (goal.at.returns c).After-window_count) _ _ c.window_count.ensures _ _ _ c.if-window_count-self.false
    c.marks_fit.ensures
