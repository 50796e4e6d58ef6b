-- By how many growths the blocks of a tally were moved, at rest and while a growth runs, and the sums over all blocks.
use Rattle.std.proofs.Common.{◌≡◌, ℕ, suc, ◌+◌, ◌*◌, ◌<◌, Bool, true, false, cond, ◌≢◌, List, [], ◌∷◌, length, sym, refl, ap, ◌∙◌, true≢false, mul-le-mul_right, add-one, arith}
use mathlib.Core.Bool.{false≢true}
use Rattle.base.specs.Below.{count, sum}
use Rattle.layout.specs.History.{disk_count, earlier, old_count, rising, spot_of}
use Rattle.layout.specs.Windows.{old_spot, moving, moves_of_growth}
use Rattle.layout.specs.Live.{at_new_spot, live_spot}
use Rattle.layout.specs.Reasons.{reason_of, first_growths, move_count_of}
use Rattle.layout.specs.Tally.{Mode, not_growing, growing, is_running, Tally, open_blocks, moved_blocks, live_spot_of, growths_of, live_reason_of, live_move_count_of, source_of}
use Rattle.layout.specs.Laws.{MovesTrue, moves_of_growths, LiveMoves}
use Rattle.base.proofs.Booleans.{cond_cases, and_left, by_test, clash}
use Rattle.base.proofs.Counting.{sum_ext, count_end, sum_of_counts, sum_with_count}
use Rattle.layout.proofs.Histories.{not_rising, rising_before}
use Rattle.layout.proofs.ReasonsTrue.{moved_elsewhere}
use Rattle.layout.proofs.MovesTrue.{new_unmoved, format_unmoved, moves_one_more, old_below, moves_law}

-- ---- the sum over all blocks of a history

sum_of_moves : (s : ℕ) (h : List ℕ) → rising h ≡ true → sum (move_count_of s h) (disk_count h * s) ≡ moves_of_growths s h
unfolding move_count_of moves_of_growth
sum_of_moves s h r =
    sum_of_counts (λ x k. moving s (first_growths k h) x) (disk_count h * s) (length h)
    ∙ sum_ext _ _ (length h)
    (λ k _.
    let g = first_growths k h in
    count_end (moving s g) (old_count g * s) (disk_count h * s) (mul-le-mul_right s (old_below h k r)) (λ x l. new_unmoved s g x l))

-- ---- the newest growth, finished or under way

unmoved_same : (s : ℕ) (h : List ℕ) (x : ℕ) → moving s h x ≡ false → move_count_of s h x ≡ move_count_of s (earlier h) x
unfolding earlier
unmoved_same s [] x e = refl
unmoved_same s (c ∷ h) x e = (rw e at (moves_one_more s c h x)) ∙ omega arith

-- a block that moves changes its spot
moved_away : (s : ℕ) (h : List ℕ) (x : ℕ) → rising h ≡ true → moving s h x ≡ true → spot_of s h x ≡ old_spot s h x → ⊥
unfolding old_spot earlier
moved_away s [] x r e f = not_rising r
moved_away s (c ∷ []) x r e f = clash e (format_unmoved s c x)
moved_away s (c ∷ m ∷ h) x r e f = moved_elsewhere s c m h r x e f

pub moved_more : (s : ℕ) (h : List ℕ) (x : ℕ) → moving s h x ≡ true → move_count_of s h x ≡ move_count_of s (earlier h) x + 1
unfolding old_count earlier disk_count
moved_more s [] x e = clash e (new_unmoved s [] x (omega arith))
moved_more s (c ∷ h) x e = rw e at (moves_one_more s c h x)

module _ (s : ℕ) (h : List ℕ) (moved : ℕ → Bool) (x : ℕ) where
  -- at its new spot x is a block that moves
  pub moves_there : at_new_spot s h moved x ≡ true → moving s h x ≡ true
  unfolding at_new_spot
  moves_there e = and_left (moving s h x) (moved x) e

  unmoved_old : moving s h x ≡ false → at_new_spot s h moved x ≡ false
  unfolding at_new_spot
  unmoved_old e = rw e

  -- the number of the growths that made the live spot: one more at the new spot
  live_count : move_count_of s (cond (at_new_spot s h moved x) h (earlier h)) x ≡ move_count_of s (earlier h) x + cond (at_new_spot s h moved x) 1 0
  live_count = by_test (at_new_spot s h moved x) (λ e. rw e (moved_more s h x (moves_there e))) (λ e. rw e (omega arith))

-- ---- a tally

module _ (s : ℕ) (h : List ℕ) (w : ℕ) (copied recorded : ℕ → Bool) (r : rising h ≡ true) where
  abbrev tally : Mode → Tally
  tally mode = record { rows = s; counts = h; mode = mode; window = w; copied = copied; recorded = recorded }

  abbrev new : (x : ℕ) → Bool
  new x = at_new_spot s h (moved_blocks (tally growing)) x

  at_rest_same : (before : Tally) → is_running before.mode ≡ false → (x : ℕ)
      → live_move_count_of before x ≡ move_count_of before.rows before.counts x
  unfolding live_move_count_of growths_of
  at_rest_same before e x = rw e

  at_rest_law : LiveMoves (tally not_growing)
  unfolding open_blocks growths_of live_reason_of live_move_count_of
  at_rest_law =
      record {
        live_moves_true = λ x. moves_law s h x r;
        at_old_spot = λ e. absurd (false≢true e);
        at_new_spot_law = λ e. absurd (false≢true e);
        unmoved_same = λ before a b e x f. unmoved_same s h x f ∙ sym (at_rest_same before e x ∙ (rw (a, b)));
        sum_at_rest = λ e. sum_of_moves s h r;
        sum_running = λ e. absurd (false≢true e);
      }

  -- the growth under way: not counted at the old spot, once at the new one
  not_counted : (x : ℕ) → new x ≡ false → live_move_count_of (tally growing) x ≡ move_count_of s (earlier h) x
  unfolding growths_of live_move_count_of
  not_counted x e = rw e

  at_old : (x : ℕ) → live_spot_of (tally growing) x ≡ source_of (tally growing) x → live_move_count_of (tally growing) x ≡ move_count_of s (earlier h) x
  unfolding live_spot_of live_spot source_of
  at_old x f = by_test (new x) (λ e. absurd (moved_away s h x r (moves_there s h (moved_blocks (tally growing)) x e) (rw e at f))) (not_counted x)

  at_new : (x : ℕ) → live_spot_of (tally growing) x ≢ source_of (tally growing) x
      → live_move_count_of (tally growing) x ≡ suc (move_count_of s (earlier h) x)
  unfolding growths_of live_move_count_of live_spot_of live_spot source_of
  at_new x f =
      by_test (new x) (λ e. rw e (moved_more s h x (moves_there s h (moved_blocks (tally growing)) x e) ∙ add-one _))
      (λ e. absurd ((rw e at f) refl))

  live_sum : rising (earlier h) ≡ true
      → sum (live_move_count_of (tally growing)) (old_count h * s) ≡ moves_of_growths s (earlier h) + count new (old_count h * s)
  unfolding growths_of live_move_count_of old_count
  live_sum q =
      sum_ext _ _ (old_count h * s) (λ x _. live_count s h (moved_blocks (tally growing)) x)
      ∙ sum_with_count (move_count_of s (earlier h)) new (old_count h * s)
      ∙ ap (◌+ count new (old_count h * s)) (sum_of_moves s (earlier h) q)

  running : rising (earlier h) ≡ true → LiveMoves (tally growing)
  unfolding open_blocks growths_of live_reason_of live_move_count_of
  running q =
      record {
        live_moves_true = λ x.
            cond_cases (λ k. MovesTrue s k x (reason_of s k x) (move_count_of s k x)) (new x) (λ e. moves_law s h x r) (λ e. moves_law s (earlier h) x q);
        at_old_spot = λ _. at_old;
        at_new_spot_law = λ _. at_new;
        unmoved_same = λ before a b e x f. rw (unmoved_old s h (moved_blocks (tally growing)) x f) (sym (at_rest_same before e x ∙ (rw (a, b))));
        sum_at_rest = λ e. absurd (true≢false e);
        sum_running = λ _. live_sum q;
      }

  by_mode : (mode : Mode) → (is_running mode ≡ true → 0 < old_count h) → LiveMoves (tally mode)
  by_mode not_growing g = at_rest_law
  by_mode growing g = running (rising_before h r (g refl))

pub live_moves_law : (t : Tally) → rising t.counts ≡ true → (is_running t.mode ≡ true → 0 < old_count t.counts) → LiveMoves t
live_moves_law t r = by_mode t.rows t.counts t.window t.copied t.recorded r t.mode
