-- What code that has read the newest growth g of a history h knows of it.
use Rattle.std.proofs.Common.{◌≡◌, ℕ, suc, ◌+◌, ◌*◌, ◌<◌, ◌≤◌, Bool, List, sym}
use Rattle.layout.specs.declared.growth.GrowthDisks.{GrowthDisks}
use Rattle.layout.specs.History.{old_count, added_count}
use Rattle.layout.specs.Limits.{Limits}
use Rattle.layout.specs.Windows.{windows, marked_blocks, moves_of_window, calls_left, cut_moves, calls_left_by_marks}
use Rattle.layout.proofs.MarkSpots.{window_row}
use Rattle.layout.proofs.Theorems.{move_counts}

module _ (s : ℕ) (h : List ℕ) (a : Limits s h) (g : GrowthDisks) (old : g.old ≡ old_count h) (added : g.added ≡ added_count h) where
  -- there is one
  pub newest_there : 0 < old_count h
  newest_there = rw (← old) g.within_limits.old

  pub window_within : (w : ℕ) → w < windows (old_count h) (added_count h) s → w < windows g.old g.added s
  window_within w k = rw (old, added) k

  pub window_starts : (w : ℕ) → w < windows (old_count h) (added_count h) s → w * (g.old + g.added) < s
  window_starts w k = window_row g.old g.added g.within_limits.old g.within_limits.added s w (window_within w k)

  -- the moves of a window, whole or cut off
  pub whole_moves : (w : ℕ) → suc w * (g.old + g.added) ≤ s → g.old * g.added ≡ moves_of_window s h w
  whole_moves w k = rw (old, added) (sym ((move_counts s h a.rise newest_there).whole_window w (rw (old, added) at k)))

  pub cut_is : (w r : ℕ) → s ≡ w * (g.old + g.added) + r → cut_moves g.old g.added r ≡ moves_of_window s h w
  cut_is w r k = rw (old, added) (sym ((move_counts s h a.rise newest_there).cut_window w r (rw (old, added) at k)))

  pub calls_are : (w : ℕ) (marks : List Bool) → calls_left_by_marks g.old g.added s w marks ≡ calls_left s h w (marked_blocks s h w marks)
  calls_are w marks = rw (old, added) (sym ((move_counts s h a.rise newest_there).calls_by_marks w marks))
