-- Document 01, "Medium, state, record": sets of 64 marks, the counts after N[t], and the stages of a sound state.
use Rattle.std.specs.Prelude.{ℕ, ◌+◌, ◌*◌, Bool, false, cond, not, ◌&&◌, ◌||◌, List, Option, Some, None, eqb, leb, ltb, get_or, replicate}
use Rattle.std.proofs.Math.Option as maybe
use Rattle.std.proofs.Math.Option.{none, some}
use Rattle.base.specs.Below.{every, first, table}
use Rattle.layout.specs.declared.Address.{Address}
use Rattle.layout.specs.declared.Block.{Block}
use Rattle.layout.specs.declared.Reason.TheVariants.{MovedBy}
use Rattle.layout.specs.declared.Spot.{Spot}
use Rattle.layout.specs.Growth.{part_of, row_in_window, moves_from, spot_after}
use Rattle.layout.specs.History.{old_count, added_count}
use Rattle.layout.specs.Windows.{windows, window_of_row, mark_of_spot, row_exists, old_spot, mark_of, part_moved}
use Rattle.marks.specs.declared.NextCopy.{NextCopy}

-- "two sets of 64 marks"
abbrev pub mark_count : ℕ
mark_count = 64

unfoldable pub no_marks : List Bool
no_marks = replicate mark_count false

-- the marks of one set are all in another
unfoldable pub within : (a b : List Bool) → Bool
within a b = every (λ j. not (get_or a j false) || get_or b j false) mark_count

-- the marks of "the moving blocks of window w whose rows exist"
unfoldable pub moving_marks : (m n s w : ℕ) → List Bool
moving_marks m n s w = table (λ j. ltb j (m * n) && row_exists m n s w j) mark_count

-- the marks of one set that are not in another
unfoldable pub difference : (a b : List Bool) → List Bool
difference a b = table (λ j. get_or a j false && not (get_or b j false)) mark_count

-- "counts after N[t] are 0"
unfoldable pub zeros_after : (counts : List ℕ) (t : ℕ) → Bool
zeros_after counts t = every (λ i. leb i t || eqb (get_or counts i 0) 0) 8

-- "not growing means w = 0 and no marks"
unfoldable pub at_rest : (w : ℕ) (recorded copied : List Bool) → Bool
at_rest w recorded copied = eqb w 0 && (within recorded no_marks && within copied no_marks)

-- the marks of the moving blocks of window w of the newest growth
abbrev pub moving_marks_in : (s : ℕ) (h : List ℕ) (w : ℕ) → List Bool
moving_marks_in s h w = moving_marks (old_count h) (added_count h) s w

-- "growing means t > 0, w < R, recorded within copied, copied within the moving blocks of window w whose rows exist, and some moving
-- block of w not recorded"
unfoldable pub in_growth : (t s : ℕ) (h : List ℕ) (w : ℕ) (recorded copied : List Bool) → Bool
in_growth t s h w recorded copied =
    ltb 0 t
    && (ltb w (windows (old_count h) (added_count h) s)
    && (within recorded copied
    && (within copied (moving_marks_in s h w)
    && not (within (moving_marks_in s h w) recorded))))

-- ---- what the marks of window w say of an old block, in a growth from m disks by n; p is its old spot

-- it is a moving block of window w
unfoldable pub moves_at : (m n w : ℕ) (p : Spot) → Bool
moves_at m n w p = moves_from m n p && eqb (window_of_row m n p.row) w

-- and its mark is set
unfoldable pub marked_at : (m n w : ℕ) (marks : List Bool) (p : Spot) → Bool
marked_at m n w marks p = moves_at m n w p && get_or marks (mark_of_spot m n p) false

-- "x is at its new spot if it moves and its window is below w, or is w with its recorded mark set"
unfoldable pub moved_at : (m n w : ℕ) (recorded : List Bool) (p : Spot) → Bool
moved_at m n w recorded p = moves_from m n p && (ltb (window_of_row m n p.row) w || marked_at m n w recorded p)

-- the live spot of the old block x
unfoldable pub live_from : (m n s w : ℕ) (recorded : List Bool) (x : ℕ) (p : Spot) → Spot
live_from m n s w recorded x p = cond (moved_at m n w recorded p) (spot_after m n s x p) p

-- its address after growth k has moved it, where `old` is the one before
unfoldable pub moved_address : (m n s k x : ℕ) (old : Address) → Address
moved_address m n s k x old =
    record {
      spot = spot_after m n s x old.spot;
      reason = MovedBy k (part_of m n (row_in_window m n old.spot.row));
      moves = old.moves + 1;
    }

-- its live spot, why it is there, and by how many growths it was moved
unfoldable pub address_from : (m n s k w : ℕ) (recorded : List Bool) (x : ℕ) (old : Address) → Address
address_from m n s k w recorded x old = cond (moved_at m n w recorded old.spot) (moved_address m n s k x old) old

-- ---- what the code answers

-- a block that lives at a spot, or none, as the code answers it
unfoldable pub as_live_block : (found : maybe.Option ℕ) → Option Block
as_live_block none = None
as_live_block (some x) = Some (record { 0 = x })

-- "the lowest unset copied mark of window w", or m·n
unfoldable pub first_unmarked : (m n s w : ℕ) (marks : List Bool) → ℕ
first_unmarked m n s w marks = first (λ j. row_exists m n s w j && not (get_or marks j false)) (m * n)

-- the block to copy next with its part, its old spot and its mark, or none, as the code answers it
unfoldable pub as_next_copy : (s : ℕ) (h : List ℕ) (found : maybe.Option ℕ) → Option NextCopy
as_next_copy s h none = None
as_next_copy s h (some x) =
    Some (record { block = record { 0 = x }; part = part_moved s h x; from = old_spot s h x; mark = mark_of s h x })
