-- Document 02, W8: spreads of old blocks over the disks of the newest growth of a history, from m disks by n; a window's part of U; and, to
-- compare with, a full restripe. `FewestMoves.antt` has what is claimed of them.
use Rattle.std.specs.Prelude.{◌≡◌, ℕ, ◌+◌, ◌*◌, ◌<◌, Bool, true, false, not, ◌&&◌, List, [], ◌∷◌, ◌==◌, nat_lt}
use Rattle.base.specs.Below.{count}
use Rattle.layout.specs.History.{old_count, added_count, spot_of}
use Rattle.layout.specs.Windows.{old_spot, moving, window_of, moving_in}

-- ---- spreads

-- the disk on which the finished growth has block x
abbrev pub disk_of : (s : ℕ) (h : List ℕ) (x : ℕ) → ℕ
disk_of s h x = (spot_of s h x).disk

-- of the old blocks, those in window w
abbrev pub in_window : (s : ℕ) (h : List ℕ) (w x : ℕ) → Bool
in_window s h w x = window_of s h x == w

-- and those in the first q windows
abbrev pub in_first_windows : (s : ℕ) (h : List ℕ) (q x : ℕ) → Bool
in_first_windows s h q x = nat_lt (window_of s h x) q

-- Of the old blocks that pass a test: f says on which disk each of them is.
module _ (s : ℕ) (h : List ℕ) (chosen : ℕ → Bool) where
  unfoldable pub chosen_count : ℕ
  chosen_count = count chosen (old_count h * s)

  -- how many of them f has on disk d
  unfoldable pub on_disk : (f : ℕ → ℕ) (d : ℕ) → ℕ
  on_disk f d = count (λ x. chosen x && f x == d) (old_count h * s)

  -- how many of them it has "on another disk than before": than the one that the history before the growth gave the block
  unfoldable pub on_another_disk : (f : ℕ → ℕ) → ℕ
  on_another_disk f = count (λ x. chosen x && not (f x == (old_spot s h x).disk)) (old_count h * s)

  -- a spread is any function from these blocks to the m+n disks
  abbrev pub IsSpread : (f : ℕ → ℕ) → Type 0
  IsSpread f = (x : ℕ) → x < old_count h * s → chosen x ≡ true → f x < old_count h + added_count h

  -- "with m on each disk", or another number
  abbrev pub OnEachDisk : (each : ℕ) (f : ℕ → ℕ) → Type 0
  OnEachDisk each f = (d : ℕ) → d < old_count h + added_count h → on_disk f d ≡ each

-- ---- a window's part of U

-- of the blocks that U counts (see `uncopied`), those of window v
unfoldable pub part_of_uncopied : (s : ℕ) (h : List ℕ) (w : ℕ) (copied : ℕ → Bool) (v : ℕ) → ℕ
part_of_uncopied s h w copied v =
    count (λ x. (moving_in s h w x && not (copied x)) && in_window s h v x) (old_count h * s)
    + count (λ x. (moving s h x && nat_lt w (window_of s h x)) && in_window s h v x) (old_count h * s)

-- "at grow": w is 0 and no block is copied
abbrev pub part_at_grow : (s : ℕ) (h : List ℕ) (v : ℕ) → ℕ
part_at_grow s h v = part_of_uncopied s h 0 (λ x. false) v

-- ---- a full restripe

-- A full restripe puts the m·s blocks of a volume that never grew into round-robin order on m+n disks: does it put x at another spot
unfoldable pub restriped : (m n s x : ℕ) → Bool
restriped m n s x =
    let before = spot_of s (m ∷ []) x in
    let after = spot_of s ((m + n) ∷ []) x in
    not (after.disk == before.disk && after.row.0 == before.row.0)

unfoldable pub restripe_moves : (m n s : ℕ) → ℕ
restripe_moves m n s = count (restriped m n s) (m * s)
