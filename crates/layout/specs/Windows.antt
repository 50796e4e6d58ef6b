-- Document 01: the windows of a growth, the marks of their moving blocks, and the advance calls left.
use Rattle.std.specs.Prelude.{ℕ, suc, ◌+◌, ◌-◌, ◌*◌, ◌/◌, ◌%◌, min, Bool, false, cond, not, ◌&&◌, ◌||◌, List, ◌==◌, nat_lt, slice_index_or}
use Rattle.std.proofs.Math.Option.{Option}
use Rattle.layout.specs.declared.Part.{Part}
use Rattle.layout.specs.declared.Row.{Row}
use Rattle.layout.specs.declared.Spot.{Spot}
use Rattle.base.specs.Below.{count, every, lowest, sum}
use Rattle.layout.specs.Growth.{part_of, row_in_window, moves_from}
use Rattle.layout.specs.History.{earlier, old_count, added_count, spot_of, block_at}

-- ---- a growth from m disks by n

-- "R is the number of windows, s/(m+n) rounded up."
unfoldable pub windows : (m n s : ℕ) → ℕ
windows m n s = (s + (m + n - 1)) / (m + n)

-- "window k has rows k·(m+n) up to, not including, (k+1)·(m+n)": the window of a row
unfoldable pub window_of_row : (m n : ℕ) (b : Row) → ℕ
window_of_row m n b = b.0 / (m + n)

-- "A moving block of window w has mark d0·n + (b1-d0)", p being its old spot.
unfoldable pub mark_of_spot : (m n : ℕ) (p : Spot) → ℕ
mark_of_spot m n p = p.disk * n + (row_in_window m n p.row - p.disk)

-- the old spot of mark j of window w
unfoldable pub spot_of_mark : (m n w j : ℕ) → Spot
spot_of_mark m n w j = record { disk = j / n; row = record { 0 = w * (m + n) + (j / n + j % n) } }

-- "moving blocks of window w whose rows exist": does the row of mark j of window w exist
unfoldable pub row_exists : (m n s w j : ℕ) → Bool
row_exists m n s w j = nat_lt (spot_of_mark m n w j).row.0 s

-- ---- the newest growth of a history: blocks

-- the spot before the newest growth, "its spot after t-1 growths"
unfoldable pub old_spot : (s : ℕ) (h : List ℕ) (x : ℕ) → Spot
old_spot s h x = spot_of s (earlier h) x

-- does block x move in the newest growth
unfoldable pub moving : (s : ℕ) (h : List ℕ) (x : ℕ) → Bool
moving s h x = nat_lt x (old_count h * s) && moves_from (old_count h) (added_count h) (old_spot s h x)

-- the window of block x
unfoldable pub window_of : (s : ℕ) (h : List ℕ) (x : ℕ) → ℕ
window_of s h x = window_of_row (old_count h) (added_count h) (old_spot s h x).row

-- a moving block of window w
unfoldable pub moving_in : (s : ℕ) (h : List ℕ) (w x : ℕ) → Bool
moving_in s h w x = moving s h x && window_of s h x == w

-- the mark of a block, and the block of mark j of window w
unfoldable pub mark_of : (s : ℕ) (h : List ℕ) (x : ℕ) → ℕ
mark_of s h x = mark_of_spot (old_count h) (added_count h) (old_spot s h x)

unfoldable pub block_of_mark : (s : ℕ) (h : List ℕ) (w j : ℕ) → ℕ
block_of_mark s h w j = block_at s (earlier h) (spot_of_mark (old_count h) (added_count h) w j)

-- a set of marks of window w, read as a set of blocks
unfoldable pub marked_blocks : (s : ℕ) (h : List ℕ) (w : ℕ) (marks : List Bool) (x : ℕ) → Bool
marked_blocks s h w marks x = moving_in s h w x && slice_index_or marks (mark_of s h x) false

-- "its head, body or tail", of a moving block
unfoldable pub part_moved : (s : ℕ) (h : List ℕ) (x : ℕ) → Part
part_moved s h x = part_of (old_count h) (added_count h) (row_in_window (old_count h) (added_count h) (old_spot s h x).row)

-- of the blocks below a bound that may be copied: the one not copied whose rank is lowest, or none; whether all are copied
unfoldable pub next_to_copy : (rank : ℕ → ℕ) (may_copy copied : ℕ → Bool) (bound : ℕ) → Option ℕ
next_to_copy rank may_copy copied bound = lowest rank (λ x. may_copy x && not (copied x)) bound

unfoldable pub are_copied : (may_copy copied : ℕ → Bool) (bound : ℕ) → Bool
are_copied may_copy copied bound = every (λ x. not (may_copy x) || copied x) bound

-- "the block with the lowest mark among the moving blocks of window w not copied", or none
unfoldable pub next_of_window : (s : ℕ) (h : List ℕ) (w : ℕ) (copied : ℕ → Bool) → Option ℕ
next_of_window s h w copied = next_to_copy (mark_of s h) (moving_in s h w) copied (old_count h * s)

-- all moving blocks of window w are copied
unfoldable pub all_copied : (s : ℕ) (h : List ℕ) (w : ℕ) (copied : ℕ → Bool) → Bool
all_copied s h w copied = are_copied (moving_in s h w) copied (old_count h * s)

-- the moving blocks of window w
unfoldable pub moves_of_window : (s : ℕ) (h : List ℕ) (w : ℕ) → ℕ
moves_of_window s h w = count (moving_in s h w) (old_count h * s)

-- the moving blocks of all windows
unfoldable pub moves_of_growth : (s : ℕ) (h : List ℕ) → ℕ
moves_of_growth s h = count (moving s h) (old_count h * s)

-- "U counts moving blocks of window w without a copied mark and all moving blocks of later windows."
unfoldable pub uncopied : (s : ℕ) (h : List ℕ) (w : ℕ) (copied : ℕ → Bool) → ℕ
uncopied s h w copied =
    count (λ x. moving_in s h w x && not (copied x)) (old_count h * s)
    + count (λ x. moving s h x && nat_lt w (window_of s h x)) (old_count h * s)

-- "the advance calls left, U + R - w"
unfoldable pub calls_left : (s : ℕ) (h : List ℕ) (w : ℕ) (copied : ℕ → Bool) → ℕ
calls_left s h w copied = uncopied s h w copied + windows (old_count h) (added_count h) s - w

-- ---- closed forms

-- a window cut off to r rows: over the old disks d below r, the lesser of n and r-d
unfoldable pub cut_moves : (m n r : ℕ) → ℕ
cut_moves m n r = sum (λ d. min n (r - d)) (min m r)

-- the moves of all windows after w: m·n for each whole one, and those of a last one that is cut off
unfoldable pub later_moves : (m n s w : ℕ) → ℕ
later_moves m n s w = cond (nat_lt w (s / (m + n))) ((s / (m + n) - suc w) * (m * n) + cut_moves m n (s % (m + n))) 0

-- U + R - w of a set of marks of window w
unfoldable pub calls_left_by_marks : (m n s w : ℕ) (marks : List Bool) → ℕ
calls_left_by_marks m n s w marks =
    count (λ j. row_exists m n s w j && not (slice_index_or marks j false)) (m * n) + later_moves m n s w + windows m n s - w
