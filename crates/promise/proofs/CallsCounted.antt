-- The advance calls left, counted on tallies: each advance takes one off, and the last one finishes the growth.
use Prim.Native.Nat.{ℕ, suc, ◌+◌, ◌*◌, ◌≤◌, ◌<◌}
use mathlib.Core.Path.{◌≡◌, refl, sym, ◌∙◌, ap}
use mathlib.Core.Bool.{Bool, true, false, cond, not, ◌&&◌, and-false}
use mathlib.Core.List.{List}
use mathlib.Core.Option.{Option, none, some}
use mathlib.Core.Logic.{◌≢◌}
use native.Mathlib.Decide.{ℕ_discrete}
use native.Mathlib.Omega.{arith}
use lib.Dec.{eqb, ltb}
use borrow.Author.Tests.{ltb-true, ltb-false, lt-ltb, le-ltb, eq-eqb, ne_eqb, eqb-true}
use Rattle.base.specs.Below.{count}
use Rattle.base.proofs.Booleans.{and_both, by_test}
use Rattle.base.proofs.Counting.{count_none, count_split, count_less}
use Rattle.layout.specs.History.{old_count, added_count}
use Rattle.layout.specs.Tally.{Tally, Mode, not_growing, growing, is_running, calls_left_of, moves_now, next_block, window_full, last_window}
use Rattle.layout.specs.Windows.{windows, moving, window_of, moving_in, uncopied, calls_left}
use Rattle.layout.proofs.NextBlocks.{moving_in_old, next_some, next_none, full_copied}
use Rattle.promise.specs.Calls.{advance}
use Rattle.promise.specs.Model.{no_block, with_blocks, copied_tally, next_window_tally, finished_tally, recorded_tally, checkpoint_finishes, leaving, recording, advance_step, step_of}
use Rattle.promise.proofs.Tallies.{Running}
use Rattle.promise.proofs.Windows.{window_there}

-- ---- U + R - w of a growth

pub left_of : (t : Tally) → t.mode ≡ growing → calls_left_of t ≡ calls_left t.rows t.counts t.window t.copied
unfolding calls_left_of
left_of t e = ap (λ (mode : Mode). cond (is_running mode) (calls_left t.rows t.counts t.window t.copied) 0) e

module _ (s : ℕ) (h : List ℕ) (w : ℕ) (below : w < windows (old_count h) (added_count h) s) where
  -- a copy takes one off
  less_copied : (copied : ℕ → Bool) (x : ℕ) → moving_in s h w x ≡ true → copied x ≡ false → (after : ℕ → Bool) → after x ≡ true
      → ((y : ℕ) → y ≢ x → after y ≡ copied y) → calls_left s h w copied ≡ suc (calls_left s h w after)
  unfolding calls_left uncopied
  less_copied copied x moves new after now-copied others =
      let one : count (λ y. moving_in s h w y && not (copied y)) (old_count h * s) ≡ suc (count (λ y. moving_in s h w y && not (after y)) (old_count h * s)) =
      count_less _ _ (old_count h * s) x (moving_in_old s h w x moves) (and_both moves (ap not new))
      (rw now-copied (and-false (moving_in s h w x))) (λ y other. rw (others y other)) in
      omega arith

  -- a window that is full has none left
  none_left : (copied : ℕ → Bool) → ((x : ℕ) → moving_in s h w x ≡ true → copied x ≡ true)
      → count (λ x. moving_in s h w x && not (copied x)) (old_count h * s) ≡ 0
  none_left copied full = count_none _ (old_count h * s)
      (λ x _. by_test (moving_in s h w x) (λ e. rw (e, full x e)) (λ e. rw e))

  -- what moves later moves in the next window or after it
  later_split : (b : Bool) (k : ℕ) → cond (b && ltb w k) 1 0 ≡ cond ((b && eqb k (suc w)) && not false) 1 0 + cond (b && ltb (suc w) k) 1 0
  later_split false k = refl
  later_split true k =
      elim (ℕ_discrete k (suc w)) [
        | yes e ↦ simp (eq-eqb k (suc w) e, lt-ltb w k (omega arith), le-ltb (suc w) k (omega arith))
        | no e ↦ by_test (ltb w k)
            (λ t. let f : w < k = ltb-true w k t in simp (t, ne_eqb k (suc w) e, lt-ltb (suc w) k (omega (arith, e))))
            (λ t. let f : k ≤ w = ltb-false w k t in simp (t, ne_eqb k (suc w) e, le-ltb (suc w) k (omega arith)))
      ]

  -- the checkpoint of a full window takes one off
  less_turned : (copied : ℕ → Bool) → ((x : ℕ) → moving_in s h w x ≡ true → copied x ≡ true) → calls_left s h w copied ≡ suc (calls_left s h (suc w) no_block)
  unfolding calls_left uncopied no_block moving_in
  less_turned copied full =
      let split : count (λ x. moving s h x && ltb w (window_of s h x)) (old_count h * s)
      ≡ count (λ x. (moving s h x && eqb (window_of s h x) (suc w)) && not false) (old_count h * s)
      + count (λ x. moving s h x && ltb (suc w) (window_of s h x)) (old_count h * s) =
      count_split _ _ _ (old_count h * s) (λ x. later_split (moving s h x) (window_of s h x)) in
      let none_here = none_left copied full in
      omega (arith, split, none_here)

  -- and that of the last window is the last call
  less_ended : (copied : ℕ → Bool) → ((x : ℕ) → moving_in s h w x ≡ true → copied x ≡ true) → suc w ≡ windows (old_count h) (added_count h) s
      → ((x : ℕ) → moving s h x ≡ true → window_of s h x < windows (old_count h) (added_count h) s) → calls_left s h w copied ≡ 1
  unfolding calls_left uncopied
  less_ended copied full last in_windows =
      let later : count (λ x. moving s h x && ltb w (window_of s h x)) (old_count h * s) ≡ 0 =
      count_none _ (old_count h * s) (λ x _. by_test (moving s h x)
      (λ e. let f = in_windows x e in rw e (le-ltb w (window_of s h x) (omega arith))) (λ e. rw e)) in
      omega (arith, later, none_left copied full)

-- ---- the steps of a tally

-- a growth with a disk runs, within its windows
pub record InWindow (t : Tally) : Type 0 where
  pub is_growing : t.mode ≡ growing
  pub some_disk : 0 < old_count t.counts + added_count t.counts
  pub window_below : t.window < windows (old_count t.counts) (added_count t.counts) t.rows

pub in_window : {t : Tally} → Running t → InWindow t
in_window r = record { is_growing = r.is_growing; some_disk = omega (arith, r.some_old); window_below = r.window_below }

pub left_positive : (t : Tally) → InWindow t → 0 < calls_left_of t
unfolding calls_left
left_positive t r = rw (left_of t r.is_growing) (omega (arith, r.window_below))

pub data AdvanceStep (t : Tally) : Type 0 where
  goes_on : (step_of advance t).tally.mode ≡ growing → (step_of advance t).finishes ≡ false → calls_left_of t ≡ suc (calls_left_of (step_of advance t).tally) → AdvanceStep t
  ends : (step_of advance t).tally.mode ≡ not_growing → (step_of advance t).finishes ≡ true → calls_left_of t ≡ 1 → AdvanceStep t

module _ (t : Tally) (r : InWindow t) where
  abbrev Step : (next : Option ℕ) → Type 0
  Step next = ((advance_step next t).tally.mode ≡ growing) × ((advance_step next t).finishes ≡ false) × (calls_left_of t ≡ suc (calls_left_of (advance_step next t).tally))

  abbrev Last : (next : Option ℕ) → Type 0
  Last next = ((advance_step next t).tally.mode ≡ not_growing) × ((advance_step next t).finishes ≡ true) × (calls_left_of t ≡ 1)

  copy_step : (x : ℕ) → moves_now t x ≡ true → t.copied x ≡ false → Step (some x)
  unfolding advance_step leaving recording copied_tally with_blocks moves_now
  copy_step x moves new = (
    r.is_growing,
    refl,
    left_of t r.is_growing
        ∙ less_copied t.rows t.counts t.window r.window_below t.copied x moves new (copied_tally x t).copied
        (simp (eq-eqb x x refl)) (λ y other. simp (ne_eqb y x other))
        ∙ ap suc (sym (left_of (copied_tally x t) r.is_growing)),
  )

  full_here : window_full t ≡ true → (x : ℕ) → moving_in t.rows t.counts t.window x ≡ true → t.copied x ≡ true
  unfolding moves_now
  full_here full x moves = full_copied t full x moves

  turned : window_full t ≡ true → last_window t ≡ false → recorded_tally t ≡ next_window_tally t
  unfolding recorded_tally
  turned full more = rw (full, more)

  ended : window_full t ≡ true → last_window t ≡ true → recorded_tally t ≡ finished_tally t
  unfolding recorded_tally
  ended full last = rw (full, last)

  next_step : window_full t ≡ true → last_window t ≡ false → Step none
  unfolding advance_step leaving recording checkpoint_finishes next_window_tally last_window
  next_step full more = (
    ap (λ (u : Tally). u.mode) (turned full more) ∙ r.is_growing,
    rw (full, more),
    left_of t r.is_growing
        ∙ less_turned t.rows t.counts t.window r.window_below t.copied (full_here full)
        ∙ ap suc (sym (left_of (next_window_tally t) r.is_growing) ∙ ap calls_left_of (sym (turned full more))),
  )

  last_step : window_full t ≡ true → last_window t ≡ true → Last none
  unfolding advance_step leaving recording checkpoint_finishes finished_tally last_window
  last_step full last = (
    ap (λ (u : Tally). u.mode) (ended full last),
    rw (full, last),
    left_of t r.is_growing
        ∙ less_ended t.rows t.counts t.window r.window_below t.copied (full_here full)
        (eqb-true (suc t.window) (windows (old_count t.counts) (added_count t.counts) t.rows) last) (window_there t.rows t.counts),
  )

  pub advance_step_law : AdvanceStep t
  unfolding step_of
  advance_step_law = go (next_block t) refl
    where
      with_step : (next : Option ℕ) → next_block t ≡ next → Step next → AdvanceStep t
      with_step next e step =
          goes_on (ap (λ (k : Option ℕ). (advance_step k t).tally.mode) e ∙ step.0) (ap (λ (k : Option ℕ). (advance_step k t).finishes) e ∙ step.1)
          (step.2 ∙ ap (λ (k : Option ℕ). suc (calls_left_of (advance_step k t).tally)) (sym e))

      with_last : (next : Option ℕ) → next_block t ≡ next → Last next → AdvanceStep t
      with_last next e step =
          ends (ap (λ (k : Option ℕ). (advance_step k t).tally.mode) e ∙ step.0) (ap (λ (k : Option ℕ). (advance_step k t).finishes) e ∙ step.1) step.2

      go : (next : Option ℕ) → next_block t ≡ next → AdvanceStep t
      go (some x) e = let k = next_some t x e in with_step (some x) e (copy_step x k.0 k.1)
      go none e =
          let full = next_none t e in
          by_test (last_window t) (λ last. with_last none e (last_step full last)) (λ more. with_step none e (next_step full more))
