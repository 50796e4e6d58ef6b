-- What holds of the tally of a sound state, and what the live spots and the targets of its copies are to each other.
use Prim.Native.Nat.{ℕ, ◌*◌, ◌<◌}
use mathlib.Core.Path.{◌≡◌, refl, sym, ◌∙◌, ap}
use mathlib.Core.Bool.{Bool, true, false, not, ◌&&◌, false≢true}
use mathlib.Core.Logic.{◌≢◌}
use native.Mathlib.Omega.{arith}
use lib.Dec.{eqb}
use borrow.Author.Tests.{eqb-true, eq-eqb, le-ltb, not-true}
use Rattle.base.proofs.Booleans.{and_left, and_right, and_both, clash, by_test}
use Rattle.layout.specs.History.{Within, disk_count, old_count, added_count, rising}
use Rattle.layout.specs.Laws.{Bijection, LookUps}
use Rattle.layout.specs.Live.{live_spot}
use Rattle.layout.specs.Tally.{Tally, not_growing, growing, is_running, open_blocks, recorded_by, moved_blocks, live_spot_of, waiting, moves_now, target_of}
use Rattle.layout.specs.Windows.{windows, moving, window_of, moving_in}
use Rattle.layout.proofs.Bijection.{spot_injective}
use Rattle.layout.proofs.NextBlocks.{moving_old}
use Rattle.layout.proofs.Theorems.{layout_laws, old_among}

-- a growth runs, within its windows; what is recorded is copied, and what is copied is a moving block of the window
pub record Running (t : Tally) : Type 0 where
  pub is_growing : t.mode ≡ growing
  pub rise : rising t.counts ≡ true
  pub some_old : 0 < old_count t.counts
  pub window_below : t.window < windows (old_count t.counts) (added_count t.counts) t.rows
  pub recorded_copied : (x : ℕ) → t.recorded x ≡ true → t.copied x ≡ true
  pub copied_moving : (x : ℕ) → t.copied x ≡ true → moves_now t x ≡ true

-- no growth runs
pub record Resting (t : Tally) : Type 0 where
  pub is_resting : t.mode ≡ not_growing
  pub rise : rising t.counts ≡ true

pub data Stage (t : Tally) : Type 0 where
  running : Running t → Stage t
  resting : Resting t → Stage t

-- a moving block of the window that is not recorded: a copy of it goes to its target
unfoldable pub unrecorded : (t : Tally) (x : ℕ) → Bool
unrecorded t x = is_running t.mode && (moves_now t x && not (t.recorded x))

-- spots lie on the disks and are apart from each other
pub record SpotsApart (t : Tally) : Type 0 where
  pub live_within : (x : ℕ) → x < open_blocks t → Within t.rows t.counts (live_spot_of t x)
  pub live_distinct : (x y : ℕ) → x < open_blocks t → y < open_blocks t → live_spot_of t x ≡ live_spot_of t y → x ≡ y
  pub copies_open : (x : ℕ) → unrecorded t x ≡ true → x < open_blocks t
  pub target_within : (x : ℕ) → unrecorded t x ≡ true → Within t.rows t.counts (target_of t x)
  pub target_distinct : (x y : ℕ) → unrecorded t x ≡ true → unrecorded t y ≡ true → target_of t x ≡ target_of t y → x ≡ y
  pub target_free : (x y : ℕ) → unrecorded t x ≡ true → y < open_blocks t → target_of t x ≢ live_spot_of t y
  pub waiting_unrecorded : (x : ℕ) → waiting t x ≡ true → unrecorded t x ≡ true
  pub waiting_copied : (x : ℕ) → waiting t x ≡ true → t.copied x ≡ true

-- ---- the definitions, read for a growth that runs

module _ (t : Tally) where
  now_moving : (x : ℕ) → moves_now t x ≡ true → moving t.rows t.counts x ≡ true
  unfolding moves_now moving_in
  now_moving x e = and_left (moving t.rows t.counts x) (eqb (window_of t.rows t.counts x) t.window) e

  now_window : (x : ℕ) → moves_now t x ≡ true → window_of t.rows t.counts x ≡ t.window
  unfolding moves_now moving_in
  now_window x e =
      eqb-true _ _ (and_right (moving t.rows t.counts x) (eqb (window_of t.rows t.counts x) t.window) e)

  -- a moving block of the window that is not recorded has not been moved
  not_moved : (x : ℕ) → moves_now t x ≡ true → t.recorded x ≡ false → moved_blocks t x ≡ false
  unfolding moved_blocks recorded_by
  not_moved x e f = simp (now_window x e, f, eq-eqb t.window t.window refl, le-ltb t.window t.window (omega arith))

module _ (t : Tally) (on : t.mode ≡ growing) where
  pub open_growing : open_blocks t ≡ old_count t.counts * t.rows
  unfolding open_blocks
  open_growing = rw on

  pub live_growing : (x : ℕ) → live_spot_of t x ≡ live_spot t.rows t.counts (moved_blocks t) x
  unfolding live_spot_of
  live_growing x = rw on

  pub waiting_growing : (x : ℕ) → waiting t x ≡ (t.copied x && not (t.recorded x))
  unfolding waiting
  waiting_growing x = rw on

  unrecorded_growing : (x : ℕ) → unrecorded t x ≡ (moves_now t x && not (t.recorded x))
  unfolding unrecorded
  unrecorded_growing x = rw on

-- ---- spots while a growth runs

module _ (t : Tally) (r : Running t) where
  moves_now_law : (x : ℕ) → unrecorded t x ≡ true → moves_now t x ≡ true
  moves_now_law x e = and_left (moves_now t x) (not (t.recorded x)) (sym (unrecorded_growing t r.is_growing x) ∙ e)

  not_recorded : (x : ℕ) → unrecorded t x ≡ true → t.recorded x ≡ false
  not_recorded x e =
      not-true _ (and_right (moves_now t x) (not (t.recorded x)) (sym (unrecorded_growing t r.is_growing x) ∙ e))

  make_unrecorded : (x : ℕ) → moves_now t x ≡ true → t.recorded x ≡ false → unrecorded t x ≡ true
  make_unrecorded x e f = unrecorded_growing t r.is_growing x ∙ and_both e (ap not f)

  old_block : (x : ℕ) → unrecorded t x ≡ true → x < old_count t.counts * t.rows
  old_block x e = moving_old t.rows t.counts x (now_moving t x (moves_now_law x e))

  there_after : (x : ℕ) → unrecorded t x ≡ true → x < disk_count t.counts * t.rows
  there_after x e = omega (arith, old_block x e, old_among t.rows t.counts r.rise r.some_old)

  spots : Bijection t.rows t.counts
  spots = layout_laws.spots_and_blocks t.rows t.counts r.rise

  look_running : LookUps t
  look_running = layout_laws.look_ups t r.rise (λ _. r.some_old)

  free : (x y : ℕ) → unrecorded t x ≡ true → y < open_blocks t → target_of t x ≢ live_spot_of t y
  unfolding target_of
  free x y e k f =
      (layout_laws.live_spots t.rows t.counts r.rise r.some_old (moved_blocks t)
      ).target_free x y (now_moving t x (moves_now_law x e)) (not_moved t x (moves_now_law x e) (not_recorded x e))
      (rw (open_growing t r.is_growing) at k) (sym (f ∙ live_growing t r.is_growing y))

  apart_running : SpotsApart t
  unfolding target_of
  apart_running =
      record {
        live_within = look_running.live_within;
        live_distinct = look_running.live_distinct;
        copies_open = λ x e. rw (open_growing t r.is_growing) (old_block x e);
        target_within = λ x e. spots.spot_within x (there_after x e);
        target_distinct = λ x y e f. spot_injective t.rows t.counts spots x y (there_after x e) (there_after y f);
        target_free = free;
        waiting_unrecorded = λ x e.
            let k : (t.copied x && not (t.recorded x)) ≡ true = sym (waiting_growing t r.is_growing x) ∙ e in
            make_unrecorded x (r.copied_moving x (and_left (t.copied x) _ k)) (not-true _ (and_right (t.copied x) _ k));
        waiting_copied = λ x e. and_left (t.copied x) _ (sym (waiting_growing t r.is_growing x) ∙ e);
      }

  -- a block that copy takes is not recorded
  pub copy_unrecorded : (x : ℕ) → moves_now t x ≡ true → t.copied x ≡ false → unrecorded t x ≡ true
  copy_unrecorded x moves new =
      make_unrecorded x moves (by_test (t.recorded x) (λ e. clash (r.recorded_copied x e) new) (λ e. e))

-- ---- spots while none runs: nothing is to be copied

module _ (t : Tally) (r : Resting t) where
  not_running {ℓ} : {X : Type ℓ} → is_running t.mode ≡ true → X
  not_running e = absurd (false≢true (rw r.is_resting at e))

  none_unrecorded {ℓ} : {X : Type ℓ} (x : ℕ) → unrecorded t x ≡ true → X
  unfolding unrecorded
  none_unrecorded x e = absurd (false≢true (rw r.is_resting at e))

  none_waiting {ℓ} : {X : Type ℓ} (x : ℕ) → waiting t x ≡ true → X
  unfolding waiting
  none_waiting x e = absurd (false≢true (rw r.is_resting at e))

  look_resting : LookUps t
  look_resting = layout_laws.look_ups t r.rise not_running

  apart_resting : SpotsApart t
  apart_resting =
      record {
        live_within = look_resting.live_within;
        live_distinct = look_resting.live_distinct;
        copies_open = λ x e. none_unrecorded x e;
        target_within = λ x e. none_unrecorded x e;
        target_distinct = λ x y e. none_unrecorded x e;
        target_free = λ x y e. none_unrecorded x e;
        waiting_unrecorded = λ x e. none_waiting x e;
        waiting_copied = λ x e. none_waiting x e;
      }

pub spots_apart : (t : Tally) → Stage t → SpotsApart t
spots_apart t (running r) = apart_running t r
spots_apart t (resting r) = apart_resting t r
