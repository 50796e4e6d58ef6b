-- Laws of sets of marks, and what a set of marks of window w says of the moving blocks of the window.
use Prim.Native.Nat.{ℕ, zero, suc, ◌*◌, ◌<◌}
use mathlib.Core.Path.{◌≡◌, refl, sym, ◌∙◌}
use mathlib.Core.Bool.{Bool, true, false, not, ◌&&◌, ◌||◌}
use mathlib.Core.List.{List}
use native.Mathlib.Decide.{ℕ_discrete}
use native.Mathlib.Omega.{arith}
use lib.Dec.{eqb, ltb}
use lib.ListN.{length, get_or, set, get_or-replicate}
use lib.Seq.{get_or-set_same, get_or-set_other, ext_get_or}
use borrow.Author.Tests.{ltb-true, lt-ltb, eqb-true, eq-eqb}
use Rattle.base.specs.Below.{every}
use Rattle.base.proofs.Booleans.{and_left, and_right, and_both, clash, by_test, same_test}
use Rattle.base.proofs.Counting.{every_use, every_make}
use Rattle.base.proofs.Lists.{length_table, get_d_table}
use Rattle.layout.specs.History.{old_count, added_count}
use Rattle.layout.specs.Laws.{Marks}
use Rattle.layout.specs.Limits.{Limits}
use Rattle.layout.specs.Windows.{windows, row_exists, moving, window_of, moving_in, mark_of, block_of_mark, marked_blocks, all_copied}
use Rattle.layout.proofs.NextBlocks.{all_copied_use, all_copied_make}
use Rattle.layout.proofs.Theorems.{marks_and_blocks, marks_fit}
use Rattle.marks.specs.Marks.{mark_count, no_marks, within, moving_marks}

-- ---- sets within one another

-- a mark of a is one of b
abbrev kept_at : (a b : List Bool) (j : ℕ) → Bool
kept_at a b j = not (get_or a j false) || get_or b j false

implies : (a b : Bool) → (a ≡ true → b ≡ true) → (not a || b) ≡ true
implies true b f = f refl
implies false b f = refl

implies_not : (a b : Bool) → (not a || b) ≡ false → (a ≡ true) × (b ≡ false)
implies_not true b e = (refl, e)
implies_not false b e = clash refl e

-- a number that fails, where not every one passes
every_failing : (p : ℕ → Bool) (n : ℕ) → every p n ≡ false → (i : ℕ) × (i < n) × (p i ≡ false)
unfolding every
every_failing p zero e = clash refl e
every_failing p (suc n) e =
    by_test (p n)
    (λ t. let r = every_failing p n (rw t at e) in (r.0, omega (arith, r.1), r.2))
    (λ f. (n, omega arith, f))

pub within_use : (a b : List Bool) → within a b ≡ true → (j : ℕ) → j < mark_count → get_or a j false ≡ true → get_or b j false ≡ true
unfolding within
within_use a b e j h f = rw f at (every_use (kept_at a b) mark_count e j h)

pub within_make : (a b : List Bool) → ((j : ℕ) → j < mark_count → get_or a j false ≡ true → get_or b j false ≡ true) → within a b ≡ true
unfolding within
within_make a b f = every_make (kept_at a b) mark_count (λ j h. implies (get_or a j false) (get_or b j false) (f j h))

-- a mark of one set that is not in the other
pub within_fails : (a b : List Bool) → within a b ≡ false → (j : ℕ) × (j < mark_count) × (get_or a j false ≡ true) × (get_or b j false ≡ false)
unfolding within
within_fails a b e =
    let r = every_failing (kept_at a b) mark_count e in
    let q = implies_not (get_or a r.0 false) (get_or b r.0 false) r.2 in
    (r.0, r.1, q.0, q.1)

pub within_self : (a : List Bool) → within a a ≡ true
within_self a = within_make a a (λ j h e. e)

none_at : (j : ℕ) → j < mark_count → get_or no_marks j false ≡ false
unfolding no_marks
none_at j h = get_or-replicate mark_count j false false h

pub none_within : (b : List Bool) → within no_marks b ≡ true
none_within b = within_make no_marks b (λ j h e. clash e (none_at j h))

-- two sets of marks that are within one another are one
pub within_both : (a b : List Bool) → length a ≡ mark_count → length b ≡ mark_count → within a b ≡ true → within b a ≡ true → a ≡ b
within_both a b k l e f =
    ext_get_or false a b (k ∙ sym l)
    (λ j h.
    let i : j < mark_count = rw k at h in
    same_test (get_or a j false) (get_or b j false) (within_use a b e j i) (within_use b a f j i))

-- one mark more, in the set that is within and in the other
pub set_within : (a b : List Bool) (i : ℕ) → within a b ≡ true → get_or b i false ≡ true → within (set a i true) b ≡ true
set_within a b i e f =
    within_make (set a i true) b
    (λ j h g. elim (ℕ_discrete j i) [
      | yes q ↦ rw q f
      | no q ↦ within_use a b e j h (sym (get_or-set_other a i j true false q) ∙ g)
    ])

pub within_set : (a b : List Bool) (i : ℕ) → i < length b → within a b ≡ true → within a (set b i true) ≡ true
within_set a b i k e =
    within_make a (set b i true)
    (λ j h g. elim (ℕ_discrete j i) [
      | yes q ↦ rw q (get_or-set_same b i true false k)
      | no q ↦ get_or-set_other b i j true false q ∙ within_use a b e j h g
    ])

-- ---- the marks of the moving blocks of window w

-- mark j is of a row that exists
abbrev pub moving_at : (m n s w j : ℕ) → Bool
moving_at m n s w j = ltb j (m * n) && row_exists m n s w j

pub moving_length : (m n s w : ℕ) → length (moving_marks m n s w) ≡ mark_count
unfolding moving_marks
moving_length m n s w = length_table (moving_at m n s w) mark_count

pub moving_at_law : (m n s w j : ℕ) → j < mark_count → get_or (moving_marks m n s w) j false ≡ (ltb j (m * n) && row_exists m n s w j)
unfolding moving_marks
moving_at_law m n s w j h = get_d_table false (moving_at m n s w) mark_count j h

module _ (s : ℕ) (h : List ℕ) (l : Limits s h) (g : 0 < old_count h) where
  pub marks_law : Marks s h
  marks_law = marks_and_blocks s h l.rise g

  -- a moving block of the window has one of them
  pub its_mark : (w x : ℕ) → moving_in s h w x ≡ true
      → (mark_of s h x < mark_count) × (get_or (moving_marks (old_count h) (added_count h) s w) (mark_of s h x) false ≡ true)
  unfolding moving_in
  its_mark w x e =
      let mv = and_left (moving s h x) (eqb (window_of s h x) w) e in
      let win = eqb-true (window_of s h x) w (and_right (moving s h x) (eqb (window_of s h x) w) e) in
      let below = marks_law.mark_within x mv in
      let k : mark_of s h x < mark_count = omega (arith, below, marks_fit s h l g) in
      let there = and_both (lt-ltb (mark_of s h x) (old_count h * added_count h) below) (rw win at (marks_law.mark_row x mv)) in
      (k, moving_at_law (old_count h) (added_count h) s w (mark_of s h x) k ∙ there)

  -- where a set of marks is within another, the blocks of the one are among those of the other
  pub marked_within : (w : ℕ) (a b : List Bool) → within a b ≡ true → (x : ℕ) → marked_blocks s h w a x ≡ true → marked_blocks s h w b x ≡ true
  unfolding marked_blocks
  marked_within w a b e x f =
      let m = and_left (moving_in s h w x) (get_or a (mark_of s h x) false) f in
      and_both m (within_use a b e (mark_of s h x) (its_mark w x m).0 (and_right (moving_in s h w x) (get_or a (mark_of s h x) false) f))

  -- each of them is that of a moving block of the window
  its_block : (w j : ℕ) → j < mark_count → get_or (moving_marks (old_count h) (added_count h) s w) j false ≡ true
      → (x : ℕ) × (moving_in s h w x ≡ true) × (mark_of s h x ≡ j)
  unfolding moving_in
  its_block w j k e =
      let t : moving_at (old_count h) (added_count h) s w j ≡ true = sym (moving_at_law (old_count h) (added_count h) s w j k) ∙ e in
      let below = ltb-true j (old_count h * added_count h) (and_left _ (row_exists (old_count h) (added_count h) s w j) t) in
      let b = marks_law.mark_moves w j below (and_right (ltb j (old_count h * added_count h)) _ t) in
      let x = block_of_mark s h w j in
      (x, and_both b.0 (eq-eqb (window_of s h x) w b.1), b.2)

  -- the other way, for marks of moving blocks of the window
  pub within_marked : (w : ℕ) (a b : List Bool) → within a (moving_marks (old_count h) (added_count h) s w) ≡ true
      → ((x : ℕ) → marked_blocks s h w a x ≡ true → marked_blocks s h w b x ≡ true) → within a b ≡ true
  unfolding marked_blocks
  within_marked w a b e f =
      within_make a b
      (λ j k t.
      let q = its_block w j k (within_use a _ e j k t) in
      rw q.2 at (and_right (moving_in s h w q.0) _ (f q.0 (and_both q.1 (rw q.2 t)))))

  -- where all of them are set, each moving block of the window is marked
  pub all_marked : (w : ℕ) (marks : List Bool) → within (moving_marks (old_count h) (added_count h) s w) marks ≡ true
      → (x : ℕ) → moving_in s h w x ≡ true → marked_blocks s h w marks x ≡ true
  unfolding marked_blocks
  all_marked w marks e x f =
      let k = its_mark w x f in
      and_both f (within_use _ marks e (mark_of s h x) k.0 k.1)

  -- where one of them is not set, a moving block of the window is not marked
  pub one_unmarked : (w : ℕ) (marks : List Bool) → within (moving_marks (old_count h) (added_count h) s w) marks ≡ false
      → (x : ℕ) × (moving_in s h w x ≡ true) × (marked_blocks s h w marks x ≡ false)
  unfolding marked_blocks
  one_unmarked w marks e =
      let r = within_fails (moving_marks (old_count h) (added_count h) s w) marks e in
      let q = its_block w r.0 r.1 r.2 in
      (q.0, q.1, rw (q.1, q.2, r.3))

  -- all of them are set exactly where all moving blocks of the window are marked
  pub all_by_marks : (w : ℕ) (marks : List Bool)
      → within (moving_marks (old_count h) (added_count h) s w) marks ≡ all_copied s h w (marked_blocks s h w marks)
  all_by_marks w marks =
      let copied : ℕ → Bool = marked_blocks s h w marks in
      same_test _ _ (λ e. all_copied_make s h w copied (all_marked w marks e))
      (λ e. by_test (within (moving_marks (old_count h) (added_count h) s w) marks) (λ t. t)
      (λ f. let r = one_unmarked w marks f in clash (all_copied_use s h w copied e r.0 r.1) r.2))

  -- a window of the growth has some of them
  pub some_moving : (w : ℕ) → w < windows (old_count h) (added_count h) s → within (moving_marks (old_count h) (added_count h) s w) no_marks ≡ false
  unfolding moving_in
  some_moving w k =
      let b = marks_law.some_block w k in
      let i = its_mark w b.0 (and_both b.1 (eq-eqb (window_of s h b.0) w b.2)) in
      by_test (within (moving_marks (old_count h) (added_count h) s w) no_marks)
      (λ e. clash (within_use _ no_marks e (mark_of s h b.0) i.0 i.1) (none_at (mark_of s h b.0) i.0)) (λ f. f)
