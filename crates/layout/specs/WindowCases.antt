-- Document 01, "Words and limits" and "Medium, state, record": windows and marks of the growth from 2 disks to 6, m = 2 and n = 4, worked out by
-- hand. A window has 6 rows. With 8 rows the second window has rows 6 and 7, where blocks 12, (0,6), 14, (0,7), and 15, (1,7), move.
-- `proofs/WindowCases.antt` has the proofs.
use Rattle.std.specs.Prelude.{◌≡◌, ℕ, Bool, true, false, ◌||◌, List, [], ◌∷◌, map, ◌==◌}
use Rattle.std.proofs.Math.Option.{none, some}
use Rattle.layout.specs.Windows.{windows, row_exists, window_of, moving_in, mark_of, block_of_mark, next_of_window, all_copied, moves_of_window, calls_left}

abbrev pub two_to_six : List ℕ
two_to_six = 6 ∷ 2 ∷ []

-- a block, its window and its mark d0·4 + (b1-d0), with 10 rows
abbrev pub marks : List (ℕ × ℕ × ℕ)
marks =
    (0, 0, 0)  -- (0,0)
    ∷ (5, 0, 5)  -- (1,2): 1·4 + (2-1)
    ∷ (9, 0, 7)  -- (1,4): 1·4 + (4-1)
    ∷ (12, 1, 0)  -- (0,6), b1 = 0
    ∷ (17, 1, 5)  -- (1,8), b1 = 2
    ∷ []

abbrev pub none_copied : ℕ → Bool
none_copied x = false

abbrev pub two_copied : ℕ → Bool
two_copied x = 12 == x || 14 == x

abbrev pub three_copied : ℕ → Bool
three_copied x = two_copied x || 15 == x

pub record WindowsHold : Type 0 where
  -- "R is the number of windows, s/(m+n) rounded up": of 1, 5, 6, 7, 12 and 13 rows
  pub window_counts : map (windows 2 4) (1 ∷ 5 ∷ 6 ∷ 7 ∷ 12 ∷ 13 ∷ []) ≡ (1 ∷ 1 ∷ 1 ∷ 2 ∷ 2 ∷ 3 ∷ [])
  -- the mark of a block and the block of a mark
  pub marks_hold_law : map (λ case. (block_of_mark 10 two_to_six case.1 case.2, window_of 10 two_to_six case.0, mark_of 10 two_to_six case.0)) marks ≡ marks
  -- "whose rows exist": of marks 0 to 7 of the window cut off to rows 6 and 7, those of rows 6, 7 and 7
  pub rows_exist : map (row_exists 2 4 8 1) (0 ∷ 1 ∷ 2 ∷ 3 ∷ 4 ∷ 5 ∷ 6 ∷ 7 ∷ [])
      ≡ (true ∷ true ∷ false ∷ false ∷ true ∷ false ∷ false ∷ false ∷ [])
  -- blocks 12 and 15 move in window 1; block 13, at (1,6), stays; block 4 moves in window 0; block 20 is an added one
  pub moving_in_law : map (moving_in 8 two_to_six 1) (12 ∷ 15 ∷ 13 ∷ 4 ∷ 20 ∷ []) ≡ (true ∷ true ∷ false ∷ false ∷ false ∷ [])
  -- m·n in the whole window, and 3 in the one cut off
  pub window_moves : map (moves_of_window 8 two_to_six) (0 ∷ 1 ∷ 2 ∷ []) ≡ (8 ∷ 3 ∷ 0 ∷ [])
  -- "the block with the lowest mark": marks 0, 1 and 4 are of blocks 12, 14 and 15
  pub next_blocks : map (next_of_window 8 two_to_six 1) (none_copied ∷ two_copied ∷ three_copied ∷ []) ≡ (some 12 ∷ some 15 ∷ none ∷ [])
  pub all_copied_law : map (all_copied 8 two_to_six 1) (none_copied ∷ two_copied ∷ three_copied ∷ []) ≡ (false ∷ false ∷ true ∷ [])
  -- "U + R - w": 11 + 2 at grow; in window 1 with none copied 3 + 2 - 1, with two 1 + 2 - 1, with all 0 + 2 - 1
  pub calls_at_grow : calls_left 8 two_to_six 0 none_copied ≡ 13
  pub calls_left_law : map (calls_left 8 two_to_six 1) (none_copied ∷ two_copied ∷ three_copied ∷ []) ≡ (4 ∷ 2 ∷ 1 ∷ [])
