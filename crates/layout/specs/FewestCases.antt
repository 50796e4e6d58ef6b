-- Document 02, W8: spreads of old blocks, the least over all spreads of one window, parts of U and full restripes, as one table; and three
-- racks. `proofs/FewestCases.antt` has the proofs: examples of what is claimed, and a check that "at least m·n" is no accident of words.
use Rattle.std.specs.Prelude.{◌≡◌, ℕ, zero, suc, ◌+◌, ◌-◌, ◌*◌, min, Bool, false, cond, List, [], ◌∷◌, ◌++◌, map, length, ◌==◌, nat_eq, slice_index}
use Rattle.base.specs.Below.{every, joined, table}
use Rattle.layout.specs.History.{old_count, added_count}
use Rattle.layout.specs.Windows.{old_spot, uncopied, calls_left}
use Rattle.layout.specs.Limits.{most_rows}
use Rattle.layout.specs.Spreads.{disk_of, in_window, in_first_windows, on_disk, on_another_disk, part_at_grow, restripe_moves}

-- ---- all spreads of a window

-- a spread as a list: the disk of block 0, that of block 1, and so on
abbrev pub listed : (disks : List ℕ) (x : ℕ) → ℕ
listed disks x = slice_index disks x

-- all spreads of so many blocks to so many disks
unfoldable pub all_spreads : (disks blocks : ℕ) → List (List ℕ)
all_spreads disks zero = [] ∷ []
all_spreads disks (suc blocks) = joined (λ d. map (λ f. f ++ (d ∷ [])) (all_spreads disks blocks)) disks

-- the test of `OnEachDisk`
unfoldable pub has_on_each : (s : ℕ) (h : List ℕ) (chosen : ℕ → Bool) (each : ℕ) (f : ℕ → ℕ) → Bool
has_on_each s h chosen each f = every (λ d. nat_eq (on_disk s h chosen f d) each) (old_count h + added_count h)

-- Of the newest growth of a history, with the rows of one whole window, m+n: its old blocks are those below m·(m+n). For each spread with m on each
-- disk, the number on another disk than before
unfoldable pub even_moves : (h : List ℕ) (spreads : List (List ℕ)) → List ℕ
even_moves h [] = []
even_moves h (f ∷ rest) =
    let s = old_count h + added_count h in
    let chosen = in_window s h 0 in
    cond (has_on_each s h chosen (old_count h) (listed f)) (on_another_disk s h chosen (listed f) ∷ even_moves h rest) (even_moves h rest)

-- the least of some numbers and a
unfoldable pub least_of : (a : ℕ) (numbers : List ℕ) → ℕ
least_of a [] = a
least_of a (b ∷ rest) = least_of (min a b) rest

-- how many of some numbers are a
unfoldable pub times_in : (a : ℕ) (numbers : List ℕ) → ℕ
times_in a [] = 0
times_in a (b ∷ rest) = cond (a == b) 1 0 + times_in a rest

-- ---- the table

-- the old blocks of window w, and those of the first q windows
pub data Blocks : Type 0 where
  Window : (w : ℕ) → Blocks
  FirstWindows : (q : ℕ) → Blocks

-- A volume has history h and s rows.
-- Before: the disks of its old blocks before the newest growth.
-- Ours: the finished growth has so many of these old blocks on each disk, and so many on another disk than before.
-- Part: window w's part of U at grow.
-- Least: one window has so many spreads, so many of them have m on each disk, and of these the least number on another disk than before is
-- moves, reached by so many.
-- Restripe: the moves of a full restripe from m disks by n.
pub data Case : Type 0 where
  Before : (h : List ℕ) (s : ℕ) (disks : List ℕ) → Case
  Ours : (h : List ℕ) (s : ℕ) (b : Blocks) (on : List ℕ) (another : ℕ) → Case
  Part : (h : List ℕ) (s w moves : ℕ) → Case
  Least : (h : List ℕ) (spreads even moves reached : ℕ) → Case
  Restripe : (m n s moves : ℕ) → Case

abbrev pub spread_cases : List Case
spread_cases =
    -- 2 disks and 1 more: m·n is 2
    Ours (3 ∷ 2 ∷ []) 3 (Window 0) (2 ∷ 2 ∷ 2 ∷ []) 2
    -- 2 disks that were 1: not in round-robin order
    ∷ Before (3 ∷ 2 ∷ 1 ∷ []) 3 (1 ∷ 0 ∷ 1 ∷ 0 ∷ 1 ∷ 0 ∷ [])
    ∷ Ours (3 ∷ 2 ∷ 1 ∷ []) 3 (Window 0) (2 ∷ 2 ∷ 2 ∷ []) 2
    ∷ Ours (3 ∷ 2 ∷ 1 ∷ []) 7 (Window 1) (2 ∷ 2 ∷ 2 ∷ []) 2
    ∷ Ours (3 ∷ 2 ∷ 1 ∷ []) 7 (FirstWindows 2) (4 ∷ 4 ∷ 4 ∷ []) 4
    -- 1 disk and 3 more, and 3 disks and 2 more
    ∷ Ours (4 ∷ 1 ∷ []) 4 (Window 0) (1 ∷ 1 ∷ 1 ∷ 1 ∷ []) 3
    ∷ Ours (5 ∷ 3 ∷ []) 5 (Window 0) (3 ∷ 3 ∷ 3 ∷ 3 ∷ 3 ∷ []) 6
    -- a window cut off to one row
    ∷ Ours (3 ∷ 2 ∷ []) 1 (Window 0) (0 ∷ 1 ∷ 1 ∷ []) 1
    ∷ Part (3 ∷ 2 ∷ []) 1 0 1
    -- 3 disks and 2 more: a whole window, the next one cut off to 4 rows and to 2, and no third
    ∷ Part (5 ∷ 3 ∷ []) 9 0 6
    ∷ Part (5 ∷ 3 ∷ []) 9 1 6
    ∷ Part (5 ∷ 3 ∷ []) 7 1 3
    ∷ Part (5 ∷ 3 ∷ []) 9 2 0
    -- the least over all spreads is m·n
    ∷ Least (2 ∷ 1 ∷ []) 4 2 1 2
    ∷ Least (3 ∷ 1 ∷ []) 27 6 2 6
    ∷ Least (3 ∷ 2 ∷ []) 729 90 2 9
    ∷ Least (3 ∷ 2 ∷ 1 ∷ []) 729 90 2 9
    -- a full restripe leaves m blocks where they were
    ∷ Restripe 2 1 3 4
    ∷ Restripe 3 2 5 12
    ∷ []

abbrev pub chosen_by : (s : ℕ) (h : List ℕ) (b : Blocks) → ℕ → Bool
chosen_by s h (Window w) = in_window s h w
chosen_by s h (FirstWindows q) = in_first_windows s h q

-- all spreads of one window
abbrev pub window_spreads : (h : List ℕ) → List (List ℕ)
window_spreads h = all_spreads (old_count h + added_count h) (old_count h * (old_count h + added_count h))

-- Least from the moves of the even spreads
unfoldable pub least_case : (h : List ℕ) (spreads : ℕ) (moves : List ℕ) → Case
least_case h spreads moves =
    let least = least_of (old_count h * (old_count h + added_count h)) moves in
    Least h spreads (length moves) least (times_in least moves)

-- a case with its numbers worked out from the definitions
unfoldable pub worked : Case → Case
worked (Before h s disks) = Before h s (table (λ x. (old_spot s h x).disk) (old_count h * s))
worked (Ours h s b on another) =
    Ours h s b (table (on_disk s h (chosen_by s h b) (disk_of s h)) (old_count h + added_count h)) (on_another_disk s h (chosen_by s h b) (disk_of s h))
worked (Part h s w moves) = Part h s w (part_at_grow s h w)
worked (Least h spreads even moves reached) = least_case h (length (window_spreads h)) (even_moves h (window_spreads h))
worked (Restripe m n s moves) = Restripe m n s (restripe_moves m n s)

-- the table is right: worked out, it is the same table
abbrev pub SpreadsHold : Type 0
SpreadsHold = map worked spread_cases ≡ spread_cases

-- ---- the racks of the data sheet

-- From m disks to c, with the most rows that a disk may have: U at grow, the advance calls that grow tells, and the moves of a full restripe
pub record Rack (m c moves calls restripe : ℕ) : Type 0 where
  pub moves_at_grow : uncopied most_rows (c ∷ m ∷ []) 0 (λ x. false) ≡ moves
  pub calls_told : calls_left most_rows (c ∷ m ∷ []) 0 (λ x. false) ≡ calls
  pub restripe_moves_law : restripe_moves m (c - m) most_rows ≡ restripe

pub record Racks : Type 0 where
  pub three_to_five_law : Rack 3 5 1_200_000 1_400_000 2_999_997
  pub four_to_eight : Rack 4 8 2_000_000 2_125_000 3_999_996
  -- the last window is cut off to 4 rows: 4 + 3 + 2 + 1 moves
  pub eight_to_twelve : Rack 8 12 2_666_666 2_750_000 7_999_992
