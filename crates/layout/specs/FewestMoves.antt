-- Document 02, W8: the fewest moves, of the newest growth of a history, from m disks by n. `FewestMoves` is all that is claimed;
-- `proofs/Theorems.antt` has the proof. Nothing here rests on the limit of 16 disks.
use Rattle.std.specs.Prelude.{◌≡◌, ℕ, suc, ◌+◌, ◌-◌, ◌*◌, ◌/◌, ◌%◌, ◌<◌, ◌≤◌, Bool, true, false, List, [], ◌∷◌}
use mathlib.Core.List.{Mem}
use Rattle.base.specs.Below.{sum, table}
use Rattle.layout.specs.History.{disk_count, earlier, old_count, added_count, rising}
use Rattle.layout.specs.Windows.{windows, old_spot, uncopied, cut_moves}
use Rattle.layout.specs.Spreads.{disk_of, in_window, in_first_windows, chosen_count, on_disk, on_another_disk, IsSpread, OnEachDisk, part_of_uncopied, part_at_grow, restripe_moves}
use Rattle.layout.specs.FewestCases.{listed, all_spreads, has_on_each, SpreadsHold, Racks}

-- Of the old blocks that pass a test:
module _ (s : ℕ) (h : List ℕ) (chosen : ℕ → Bool) where
  -- f has `each` of them on each disk, and `moves` of them on another disk than before
  pub record EvenSpread (f : ℕ → ℕ) (each moves : ℕ) : Type 0 where
    pub blocks : chosen_count s h chosen ≡ each * (old_count h + added_count h)
    pub is_spread : IsSpread s h chosen f
    pub even : OnEachDisk s h chosen each f
    pub moved : on_another_disk s h chosen f ≡ moves

  -- every function with `each` of them on each disk has at least `moves` of them on another disk than before
  pub record EverySpread (each moves : ℕ) : Type 0 where
    pub least : (f : ℕ → ℕ) → OnEachDisk s h chosen each f → moves ≤ on_another_disk s h chosen f
    -- no greater number is a bound
    pub no_more : (bound : ℕ) → ((f : ℕ → ℕ) → OnEachDisk s h chosen each f → bound ≤ on_another_disk s h chosen f) → bound ≤ moves
    -- such a function has none elsewhere than on the m+n disks, so that it is a spread
    pub is_spread : (f : ℕ → ℕ) → OnEachDisk s h chosen each f → IsSpread s h chosen f
    -- no spread has another number on each disk
    pub only_each : (f : ℕ → ℕ) (other : ℕ) → IsSpread s h chosen f → OnEachDisk s h chosen other f → other ≡ each

-- "m·(m+n) old blocks are spread .. so that each of the m+n disks has exactly m", with m·n of them on another disk than before: of a spread f
abbrev pub WindowSpreadOf : (s : ℕ) (h : List ℕ) (w : ℕ) (f : ℕ → ℕ) → Type 0
WindowSpreadOf s h w f = EvenSpread s h (in_window s h w) f (old_count h) (old_count h * added_count h)

-- and of the one "by the finished growth": "ours puts exactly m·n"
abbrev pub WindowSpread : (s : ℕ) (h : List ℕ) (w : ℕ) → Type 0
WindowSpread s h w = WindowSpreadOf s h w (disk_of s h)

-- "Every other spread of these blocks with m on each disk puts at least m·n of them on another disk than before"
abbrev pub WindowLeast : (s : ℕ) (h : List ℕ) (w : ℕ) → Type 0
WindowLeast s h w = EverySpread s h (in_window s h w) (old_count h) (old_count h * added_count h)

-- The same of the old blocks of the first q windows, all of them whole, and of every spread that is even in the whole, whatever it has in each window
abbrev pub FirstWindowsSpread : (s : ℕ) (h : List ℕ) (q : ℕ) → Type 0
FirstWindowsSpread s h q = EvenSpread s h (in_first_windows s h q) (disk_of s h) (q * old_count h) (q * (old_count h * added_count h))

abbrev pub FirstWindowsLeast : (s : ℕ) (h : List ℕ) (q : ℕ) → Type 0
FirstWindowsLeast s h q = EverySpread s h (in_first_windows s h q) (q * old_count h) (q * (old_count h * added_count h))

pub record PartsOfU (s : ℕ) (h : List ℕ) : Type 0 where
  -- the parts of all windows are U, at grow and later
  pub sum_of_parts : (w : ℕ) (copied : ℕ → Bool) → uncopied s h w copied ≡ sum (part_of_uncopied s h w copied) (windows (old_count h) (added_count h) s)
  -- a window's part at grow is what the growth puts on another disk
  pub part_moved : (w : ℕ) → part_at_grow s h w ≡ on_another_disk s h (in_window s h w) (disk_of s h)
  -- "For a last window cut off to r rows, .. that window's part of U at grow is the sum, over the old disks d below r, of the lesser of n and r-d."
  pub cut_part : (w r : ℕ) → s ≡ w * (old_count h + added_count h) + r → part_at_grow s h w ≡ cut_moves (old_count h) (added_count h) r

-- after any history, and for every m and n above 0: a growth by n may follow every history, and a history may start with m disks
pub record EveryGrowth : Type 0 where
  pub any_start : (m : ℕ) → 0 < m → rising (m ∷ []) ≡ true
  pub any_next : (before : List ℕ) (n : ℕ) → rising before ≡ true → 0 < n
      → let h = (disk_count before + n) ∷ before in
      (rising h ≡ true) × (0 < old_count h) × (earlier h ≡ before) × (old_count h ≡ disk_count before) × (added_count h ≡ n)

-- the newest growth of a history
pub record FewestInGrowth (s : ℕ) (h : List ℕ) : Type 0 where
  -- of a whole window
  pub window_spread : (w : ℕ) → suc w * (old_count h + added_count h) ≤ s → WindowSpread s h w
  pub window_least : (w : ℕ) → suc w * (old_count h + added_count h) ≤ s → WindowLeast s h w
  -- of the first q windows, which are whole
  pub first_windows_spread : (q : ℕ) → q * (old_count h + added_count h) ≤ s → FirstWindowsSpread s h q
  pub first_windows_least : (q : ℕ) → q * (old_count h + added_count h) ≤ s → FirstWindowsLeast s h q
  -- where there are no further rows, these are all old blocks
  pub all_old : (q : ℕ) → s ≡ q * (old_count h + added_count h) → (x : ℕ) → x < old_count h * s → in_first_windows s h q x ≡ true
  -- of every window
  pub parts : PartsOfU s h

-- ---- what breaks each part

-- Spreads of the old blocks of one window, from 2 disks to 3. Before, these are on disks 0, 1, 0, 1, 0 and 1.
abbrev pub two_to_three : List ℕ
two_to_three = 3 ∷ 2 ∷ []

-- another one than ours that is as good; one with as many moves and 1, 3 and 2 blocks on the disks
abbrev pub another : ℕ → ℕ
another = listed (0 ∷ 2 ∷ 2 ∷ 1 ∷ 0 ∷ 1 ∷ [])

abbrev pub uneven : ℕ → ℕ
uneven = listed (2 ∷ 1 ∷ 2 ∷ 1 ∷ 0 ∷ 1 ∷ [])

pub record Counterexamples : Type 0 where
  -- ours is not the only one
  pub another_passes : WindowSpreadOf 3 two_to_three 0 another
  -- `even`: as many moves are not enough
  pub uneven_moves : on_another_disk 3 two_to_three (in_window 3 two_to_three 0) uneven ≡ 2
  pub uneven_fails : WindowSpreadOf 3 two_to_three 0 uneven → ⊥
  -- `moved`: nor is m on each disk. Round-robin order, that of a full restripe, moves 4
  pub round_robin_even : OnEachDisk 3 two_to_three (in_window 3 two_to_three 0) 2 (λ x. x % 3)
  pub round_robin_fails : WindowSpreadOf 3 two_to_three 0 (λ x. x % 3) → ⊥
  -- the disk before is that of the history: after a growth from 1 disk to 2, round-robin order on 2 disks has every block on another one
  pub before_is_history : on_another_disk 3 (3 ∷ 2 ∷ 1 ∷ []) (in_window 3 (3 ∷ 2 ∷ 1 ∷ []) 0) (λ x. x % 2) ≡ 6
  -- a window that is cut off is not spread so: of one row ours has 0, 1 and 1 blocks on the disks. Left where they were, there would be 1, 1 and 0
  pub cut_fails : WindowSpread 1 two_to_three 0 → ⊥
  pub cut_alone : table (on_disk 1 two_to_three (in_window 1 two_to_three 0) (λ x. (old_spot 1 two_to_three x).disk)) 3 ≡ 1 ∷ 1 ∷ 0 ∷ []
  -- `least`: spreads without m on each disk may have fewer moves
  pub each_needed : ((f : ℕ → ℕ) → IsSpread 3 two_to_three (in_window 3 two_to_three 0) f → 2 ≤ on_another_disk 3 two_to_three (in_window 3 two_to_three 0) f) → ⊥
  -- `only_each`: functions that are no spreads may have another number on each disk
  pub spread_needed : OnEachDisk 3 two_to_three (in_window 3 two_to_three 0) 0 (λ x. 3)
  -- two windows, from 1 disk to 2: even together, and not each
  pub together_even : OnEachDisk 4 (2 ∷ 1 ∷ []) (in_first_windows 4 (2 ∷ 1 ∷ []) 2) 2 (λ x. x / 2)
  pub each_uneven : OnEachDisk 4 (2 ∷ 1 ∷ []) (in_window 4 (2 ∷ 1 ∷ []) 0) 1 (λ x. x / 2) → ⊥
  -- `all_old`: with a row left there are old blocks behind the first window
  pub row_left : in_first_windows 4 two_to_three 1 6 ≡ false
  -- `part_moved`: it is not the number that round-robin order has on another disk
  pub part_other : part_at_grow 3 two_to_three 0 ≡ on_another_disk 3 two_to_three (in_window 3 two_to_three 0) (λ x. x % 3) → ⊥
  -- from 3 disks to 5 with 7 rows. `sum_of_parts`: U is not the whole window's part alone; `cut_part`: nor has the other one m·n
  pub part_missing : uncopied 7 (5 ∷ 3 ∷ []) 0 (λ x. false) ≡ part_at_grow 7 (5 ∷ 3 ∷ []) 0 → ⊥
  pub cut_less : part_at_grow 7 (5 ∷ 3 ∷ []) 1 ≡ 6 → ⊥
  -- `every_growth`: 0 disks are no start, and 0 more no growth
  pub no_start : rising (0 ∷ []) ≡ true → ⊥
  pub no_next : rising (2 ∷ 2 ∷ []) ≡ true → ⊥
  -- `restripe`: not all blocks, and none where no disk is added
  pub restripe_less : restripe_moves 2 1 3 ≡ 6 → ⊥
  pub restripe_none : restripe_moves 2 0 3 ≡ 0
  -- with 4 rows, blocks 6 and 7 are on the same disk before and after, in another row
  pub restripe_rows : restripe_moves 2 1 4 ≡ 6

-- What the computed cases are of: `all_spreads` has every spread, and `has_on_each` tests `OnEachDisk`.
pub record CasesTrue : Type 0 where
  pub all_listed : (disks blocks : ℕ) (f : ℕ → ℕ) → ((x : ℕ) → x < blocks → f x < disks) → Mem (table f blocks) (all_spreads disks blocks)
  pub as_listed : (blocks : ℕ) (f : ℕ → ℕ) (x : ℕ) → x < blocks → listed (table f blocks) x ≡ f x
  pub tested : (s : ℕ) (h : List ℕ) (chosen : ℕ → Bool) (each : ℕ) (f : ℕ → ℕ) → has_on_each s h chosen each f ≡ true → OnEachDisk s h chosen each f
  pub passes : (s : ℕ) (h : List ℕ) (chosen : ℕ → Bool) (each : ℕ) (f : ℕ → ℕ) → OnEachDisk s h chosen each f → has_on_each s h chosen each f ≡ true

pub record FewestMoves : Type 0 where
  pub every_growth : EveryGrowth
  pub in_growth : (s : ℕ) (h : List ℕ) → rising h ≡ true → 0 < old_count h → FewestInGrowth s h
  -- "Round-robin order is not restored, as that would move nearly every block": all but m
  pub restripe : (m n s : ℕ) → 0 < m → 0 < n → restripe_moves m n s ≡ m * s - m
  pub counterexamples : Counterexamples
  -- examples, the least over all spreads of one window, and three racks
  pub spread_cases : SpreadsHold
  pub cases_true : CasesTrue
  pub racks : Racks
