-- What the code that looks for what is left to copy meets.
use Prim.Native.Nat.{ℕ, ◌+◌, ◌-◌, ◌*◌, ◌%◌, ◌≤◌, ◌<◌}
use Rattle.std.specs.Prelude.{Some, None}
use mathlib.Core.Path.{◌≡◌, sym, ◌∙◌, ap}
use mathlib.Core.Bool.{Bool, true, false, not}
use mathlib.Core.List.{List}
use mathlib.Core.Option.{none, some}
use native.Mathlib.Decide.{dec_lt}
use native.Mathlib.Omega.{arith}
use lib.Dec.{eqb}
use lib.ListN.{get_or}
use borrow.Author.Tests.{ltb-true, eqb-true, eq-eqb, not-true}
use Rattle.base.proofs.Booleans.{and_left, and_right, and_both, clash, by_test}
use Rattle.base.proofs.Lowest.{first_before, first_passes, lowest_empty, lowest_is}
use Rattle.window.specs.declared.Window.{Window}
use Rattle.layout.specs.declared.Block.{Block}
use Rattle.layout.specs.declared.Part.{Part}
use Rattle.layout.specs.declared.Spot.{Spot}
use Rattle.layout.specs.Growth.{part_of}
use Rattle.layout.specs.History.{Within, history, old_count, added_count, block_at}
use Rattle.layout.specs.Limits.{Limits, most_rows}
use Rattle.layout.specs.Windows.{windows, row_exists, spot_of_mark, old_spot, moving, window_of, moving_in, mark_of, block_of_mark, marked_blocks, part_moved, next_to_copy, next_of_window, all_copied, calls_left, calls_left_by_marks}
use Rattle.layout.proofs.MarkSpots.{mark_spot_disk}
use Rattle.layout.proofs.NewestCode.{calls_are}
use Rattle.layout.proofs.NextBlocks.{left_at, moving_in_old}
use Rattle.layout.proofs.Theorems.{some_added, spots_and_blocks}
use Rattle.layout.proofs.WindowsCode.{marks_most, windows_most}
use Rattle.marks.specs.Marks.{mark_count, within, moving_marks, first_unmarked, as_next_copy}
use Rattle.marks.proofs.BlocksCode.{ReadGrowth, history_before, disks_before, limits_before, some_old}
use Rattle.marks.proofs.MarkSets.{marks_law, all_by_marks}
use Rattle.marks.proofs.MarkWords.{unmarked_at}

-- ---- marks and blocks that are left to copy

module _ (s : ℕ) (h : List ℕ) (l : Limits s h) (g : 0 < old_count h) (w : ℕ) (marks : List Bool) where
  abbrev m : ℕ
  m = old_count h

  abbrev n : ℕ
  n = added_count h

  abbrev copied : ℕ → Bool
  copied = marked_blocks s h w marks

  abbrev unset : ℕ → Bool
  unset = unmarked_at m n s w marks

  abbrev left : ℕ → Bool
  left = left_at (moving_in s h w) copied

  -- the mark of a block that is left
  left_mark : (x : ℕ) → left x ≡ true → (mark_of s h x < m * n) × (unset (mark_of s h x) ≡ true) × (block_of_mark s h w (mark_of s h x) ≡ x)
  unfolding moving_in marked_blocks
  left_mark x e =
      let a = marks_law s h l g in
      let i = and_left (moving_in s h w x) (not (copied x)) e in
      let u = not-true (copied x) (and_right (moving_in s h w x) (not (copied x)) e) in
      let mv = and_left (moving s h x) (eqb (window_of s h x) w) i in
      let win = eqb-true (window_of s h x) w (and_right (moving s h x) (eqb (window_of s h x) w) i) in
      let f : get_or marks (mark_of s h x) false ≡ false = rw i at u in
      (a.mark_within x mv, and_both (rw win at (a.mark_row x mv)) (ap not f), rw win at (a.block_of_mark_law x mv))

  -- the block of an unset mark
  module _ (j : ℕ) (hj : j < m * n) (e : unset j ≡ true) where
    row_there : row_exists m n s w j ≡ true
    row_there = and_left (row_exists m n s w j) (not (get_or marks j false)) e

    mark_unset : get_or marks j false ≡ false
    mark_unset = not-true _ (and_right (row_exists m n s w j) (not (get_or marks j false)) e)

    its_mark : mark_of s h (block_of_mark s h w j) ≡ j
    its_mark = ((marks_law s h l g).mark_moves w j hj row_there).2

    its_moving : moving_in s h w (block_of_mark s h w j) ≡ true
    unfolding moving_in
    its_moving = let b = (marks_law s h l g).mark_moves w j hj row_there in and_both b.0 (eq-eqb _ _ b.1)

    its_left : left (block_of_mark s h w j) ≡ true
    unfolding marked_blocks
    its_left = rw (its_moving, its_mark, mark_unset)

  none_left : first_unmarked m n s w marks ≡ m * n → next_of_window s h w copied ≡ none
  unfolding first_unmarked next_of_window next_to_copy
  none_left e =
      lowest_empty (mark_of s h) left (m * s)
      (λ x k. by_test (left x)
      (λ t. let i = left_mark x t in clash i.1 (first_before unset (m * n) (mark_of s h x) (rw e i.0)))
      (λ f. f))

  -- the lowest unset mark is of the next block
  next_left : (j : ℕ) → j ≡ first_unmarked m n s w marks → j < m * n → unset j ≡ true
      → next_of_window s h w copied ≡ some (block_of_mark s h w j)
  unfolding first_unmarked next_of_window next_to_copy
  next_left j f hj e =
      lowest_is (mark_of s h) left (m * s) (block_of_mark s h w j) apart (moving_in_old s h w _ (its_moving j hj e)) (its_left j hj e)
      (λ x k a. rw (its_mark j hj e) (least x a))
    where
      apart : (x y : ℕ) → left x ≡ true → left y ≡ true → mark_of s h x ≡ mark_of s h y → x ≡ y
      apart x y a b k = sym (left_mark x a).2 ∙ ap (block_of_mark s h w) k ∙ (left_mark y b).2

      least : (x : ℕ) → left x ≡ true → j ≤ mark_of s h x
      least x a =
          elim (dec_lt (mark_of s h x) j) [
            | yes k ↦ clash (left_mark x a).1 (first_before unset (m * n) (mark_of s h x) (rw (← f) k))
            | no k ↦ omega (arith, k)
          ]

-- ---- the window under way, which the code has read

-- a window of the newest growth is one of so many rows
pub window_most : (s : ℕ) (h : List ℕ) (w : ℕ) → Limits s h → 0 < old_count h → w < windows (old_count h) (added_count h) s → w ≤ most_rows
window_most s h w a o k =
    let n = some_added s h a.rise o in
    omega (arith, windows_most (old_count h) (added_count h) s n, a.rows_most)

pub record ReadWindow (s t : ℕ) (l : List ℕ) (w : ℕ) (v : Window) : Type 0 where
  pub growth : ReadGrowth s t l v.growth
  pub rows_read : v.rows ≡ s
  pub number_read : v.number ≡ w

pub read_window : {s t w : ℕ} (l : List ℕ) (v : Window) → Limits s (history t l) → 0 < t → v.growth.old ≡ old_count (history t l)
    → v.growth.added ≡ added_count (history t l) → v.rows ≡ s → v.number ≡ w → ReadWindow s t l w v
read_window l v a o e f k n =
    record { growth = record { limits = a; grown = o; old_read = e; added_read = f }; rows_read = k; number_read = n }

module _ {s t : ℕ} {l : List ℕ} {w : ℕ} {v : Window} (r : ReadWindow s t l w v) where
  pub all_told : (marks a : List Bool) (b : Bool) → a ≡ moving_marks v.growth.old v.growth.added v.rows v.number → b ≡ within a marks
      → b ≡ all_copied s (history t l) w (marked_blocks s (history t l) w marks)
  all_told marks a b e f =
      f ∙ rw (e, r.growth.old_read, r.growth.added_read, r.rows_read, r.number_read)
      (all_by_marks s (history t l) r.growth.limits (some_old r.growth) w marks)

  -- no mark is left
  pub none_told : (marks : List Bool) → first_unmarked v.growth.old v.growth.added v.rows v.number marks ≡ v.growth.old * v.growth.added
      → None ≡ as_next_copy s (history t l) (next_of_window s (history t l) w (marked_blocks s (history t l) w marks))
  unfolding as_next_copy
  none_told marks e =
      rw (none_left s (history t l) r.growth.limits (some_old r.growth) w marks
      (rw (r.growth.old_read, r.growth.added_read, r.rows_read, r.number_read) at e))

  pub left_told : (marks : List Bool) (c : ℕ) → c ≡ calls_left_by_marks v.growth.old v.growth.added v.rows v.number marks
      → c ≡ calls_left s (history t l) w (marked_blocks s (history t l) w marks)
  left_told marks c e =
      rw (r.rows_read, r.number_read) at e ∙ calls_are s (history t l) r.growth.limits v.growth r.growth.old_read r.growth.added_read w marks

-- ---- the lowest mark that is not set, which the code has found

pub record NextMark (s t : ℕ) (l : List ℕ) (w : ℕ) (v : Window) (marks : List Bool) (j : ℕ) : Type 0 where
  pub read : ReadWindow s t l w v
  pub below : j < v.growth.old * v.growth.added
  pub row : row_exists v.growth.old v.growth.added s w j ≡ true
  pub next : next_of_window s (history t l) w (marked_blocks s (history t l) w marks) ≡ some (block_of_mark s (history t l) w j)

pub next_mark : {s t : ℕ} {l : List ℕ} {w : ℕ} {v : Window} → ReadWindow s t l w v → (marks : List Bool) (j : ℕ)
    → (j ≡ first_unmarked v.growth.old v.growth.added v.rows v.number marks) × (j < v.growth.old * v.growth.added) → NextMark s t l w v marks j
unfolding first_unmarked
next_mark {s} {t} {l} {w} {v} r marks j f =
    let g = v.growth in
    let h = history t l in
    let e = rw (r.rows_read, r.number_read) at f.0 in
    let unset = unmarked_at g.old g.added s w marks in
    let u : unset j ≡ true = rw e (first_passes unset (g.old * g.added) (rw (← e) f.1)) in
    let o = r.growth.old_read in
    let a = r.growth.added_read in
    record {
      read = r;
      below = f.1;
      row = and_left (row_exists g.old g.added s w j) (not (get_or marks j false)) u;
      next = next_left s h r.growth.limits (some_old r.growth) w marks j (rw (o, a) at e) (rw (o, a) at f.1) (rw (o, a) at u);
    }

module _ {s t : ℕ} {l : List ℕ} {w : ℕ} {v : Window} {marks : List Bool} {j : ℕ} (f : NextMark s t l w v marks j) where
  abbrev r : ReadGrowth s t l v.growth
  r = f.read.growth

  before : Limits s (history (t - 1) l)
  before = limits_before s t l r.limits r.grown

  pub next_small : j < mark_count
  next_small = omega (arith, f.below, marks_most v.growth.old v.growth.added v.growth.within_limits.most)

  -- its block
  module _ (p : Spot) (e : p ≡ spot_of_mark v.growth.old v.growth.added v.number j) where
    its_spot : p ≡ spot_of_mark v.growth.old v.growth.added w j
    its_spot = rw f.read.number_read at e

    pub next_within : Within s (history (t - 1) l) p
    unfolding row_exists
    next_within =
        let o = v.growth.within_limits in
        record {
          disk = rw (its_spot, disks_before s t l r.limits r.grown, ← r.old_read)
              (mark_spot_disk v.growth.old v.growth.added o.old o.added w j f.below);
          row = rw its_spot (ltb-true _ s f.row);
        }

    its_old_spot : (x : ℕ) → x ≡ block_at s (history (t - 1) l) p → old_spot s (history t l) x ≡ p
    unfolding old_spot
    its_old_spot x k =
        rw (k, ← history_before t l r.grown) ((spots_and_blocks s (history (t - 1) l) before.rise).spot_of_block p next_within)

    its_block : (x : ℕ) → x ≡ block_at s (history (t - 1) l) p → x ≡ block_of_mark s (history t l) w j
    unfolding block_of_mark
    its_block x k = k ∙ rw (its_spot, history_before t l r.grown, r.old_read, r.added_read)

    its_mark_is : (x : ℕ) → x ≡ block_at s (history (t - 1) l) p → mark_of s (history t l) x ≡ j
    its_mark_is x k =
        let below = rw (r.old_read, r.added_read) at f.below in
        let row = rw (r.old_read, r.added_read) at f.row in
        rw (its_block x k) ((marks_law s (history t l) r.limits (some_old r)).mark_moves w j below row).2

    pub next_told : (x : Block) (part : Part) → x.0 ≡ block_at s (history (t - 1) l) p
        → part ≡ part_of v.growth.old v.growth.added (p.row.0 % (v.growth.old + v.growth.added))
        → as_next_copy s (history t l) (next_of_window s (history t l) w (marked_blocks s (history t l) w marks))
        ≡ Some (record { block = x; part = part; from = p; mark = j })
    unfolding as_next_copy part_moved
    next_told x part k q =
        rw (f.next, ← its_block x.0 k, its_old_spot x.0 k, its_mark_is x.0 k, ← r.old_read, ← r.added_read, q)
