-- The blocks of window w that are left to copy.
use Rattle.std.proofs.Common.{◌≡◌, ℕ, ◌*◌, ◌<◌, Bool, true, false, not, ◌&&◌, ◌||◌, eqb, ltb, List, ap, ltb-true}
use mathlib.Core.Option.{none, some}
use borrow.Author.Tests.{not-true}
use Rattle.layout.specs.Growth.{moves_from}
use Rattle.layout.specs.History.{old_count, added_count}
use Rattle.layout.specs.Windows.{old_spot, moving, window_of, moving_in, mark_of, next_to_copy, are_copied, all_copied}
use Rattle.layout.specs.Tally.{Tally, moves_now, rank_now, next_block, window_full}
use Rattle.base.proofs.Booleans.{and_left, and_right, and_both, clash, by_test}
use Rattle.base.proofs.Counting.{every_use, every_make}
use Rattle.base.proofs.Lowest.{lowest_none, lowest_some}

-- a moving block is an old one
pub moving_old : (s : ℕ) (h : List ℕ) (x : ℕ) → moving s h x ≡ true → x < old_count h * s
unfolding moving
moving_old s h x e =
    ltb-true _ _ (and_left (ltb x (old_count h * s)) (moves_from (old_count h) (added_count h) (old_spot s h x)) e)

pub moving_in_old : (s : ℕ) (h : List ℕ) (w x : ℕ) → moving_in s h w x ≡ true → x < old_count h * s
unfolding moving_in
moving_in_old s h w x e = moving_old s h x (and_left (moving s h x) (eqb (window_of s h x) w) e)

-- a block that may be copied and is not
abbrev pub left_at : (may_copy copied : ℕ → Bool) (x : ℕ) → Bool
left_at may_copy copied x = may_copy x && not (copied x)

-- blocks that may be copied, all below a bound
module _ (rank : ℕ → ℕ) (may_copy copied : ℕ → Bool) (bound : ℕ) where
  -- copied, if it may be
  abbrev done_at : (x : ℕ) → Bool
  done_at x = not (may_copy x) || copied x

  next_left : (x : ℕ) → next_to_copy rank may_copy copied bound ≡ some x → (may_copy x ≡ true) × (copied x ≡ false)
  unfolding next_to_copy
  next_left x e =
      let k = (lowest_some rank (left_at may_copy copied) bound x e).1 in
      (and_left (may_copy x) (not (copied x)) k, not-true _ (and_right (may_copy x) (not (copied x)) k))

  module _ (below : (x : ℕ) → may_copy x ≡ true → x < bound) where
    are_copied_use : are_copied may_copy copied bound ≡ true → (x : ℕ) → may_copy x ≡ true → copied x ≡ true
    unfolding are_copied
    are_copied_use e x f = rw f at (every_use done_at bound e x (below x f))

    are_copied_make : ((x : ℕ) → may_copy x ≡ true → copied x ≡ true) → are_copied may_copy copied bound ≡ true
    unfolding are_copied
    are_copied_make f = every_make done_at bound (λ x k. by_test (may_copy x) (λ e. rw e (f x e)) (λ e. rw e))

    none_left : next_to_copy rank may_copy copied bound ≡ none → are_copied may_copy copied bound ≡ true
    unfolding next_to_copy
    none_left e =
        are_copied_make
        (λ x f. by_test (copied x) (λ c. c) (λ c. clash (and_both f (ap not c)) (lowest_none rank (left_at may_copy copied) bound e x (below x f))))

-- the moving blocks of a window
module _ (s : ℕ) (h : List ℕ) (w : ℕ) (copied : ℕ → Bool) where
  pub all_copied_use : all_copied s h w copied ≡ true → (x : ℕ) → moving_in s h w x ≡ true → copied x ≡ true
  unfolding all_copied
  all_copied_use = are_copied_use (mark_of s h) (moving_in s h w) copied (old_count h * s) (moving_in_old s h w)

  pub all_copied_make : ((x : ℕ) → moving_in s h w x ≡ true → copied x ≡ true) → all_copied s h w copied ≡ true
  unfolding all_copied
  all_copied_make = are_copied_make (mark_of s h) (moving_in s h w) copied (old_count h * s) (moving_in_old s h w)

-- the blocks that a tally lets be copied
module _ (t : Tally) where
  moves_old : (x : ℕ) → moves_now t x ≡ true → x < old_count t.counts * t.rows
  unfolding moves_now
  moves_old x = moving_in_old t.rows t.counts t.window x

  pub next_some : (x : ℕ) → next_block t ≡ some x → (moves_now t x ≡ true) × (t.copied x ≡ false)
  unfolding next_block
  next_some = next_left (rank_now t) (moves_now t) t.copied (old_count t.counts * t.rows)

  pub next_none : next_block t ≡ none → window_full t ≡ true
  unfolding next_block window_full
  next_none = none_left (rank_now t) (moves_now t) t.copied (old_count t.counts * t.rows) moves_old

  pub full_copied : window_full t ≡ true → (x : ℕ) → moves_now t x ≡ true → t.copied x ≡ true
  unfolding window_full
  full_copied = are_copied_use (rank_now t) (moves_now t) t.copied (old_count t.counts * t.rows) moves_old
