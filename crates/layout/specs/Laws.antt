-- What is proved of the layout: each law as a record of facts, and in `LayoutLaws` all of them with what each asks.
-- `proofs/Theorems.antt` has the proof. None but `MarksFit` rests on the limit of 16 disks.
use Rattle.std.specs.Prelude.{◌≡◌, ℕ, suc, ◌+◌, ◌-◌, ◌*◌, ◌/◌, ◌%◌, ◌<◌, ◌≤◌, Bool, true, false, cond, not, ◌&&◌, ◌≢◌, ◌⊎◌, List, [], ◌∷◌, length, nat_lt}
use Rattle.std.proofs.Math.Option.{none, some}
use Rattle.layout.specs.declared.Part.{Part}
use Rattle.layout.specs.declared.Part.TheVariants.{Head}
use Rattle.layout.specs.declared.Reason.{Reason}
use Rattle.layout.specs.declared.Reason.TheVariants.{SetOut, AddedBy, MovedBy}
use Rattle.layout.specs.declared.Spot.{Spot}
use Rattle.base.specs.Below.{count, sum}
use Rattle.layout.specs.Growth.{minus_mod, moves, part_of, added_index, spot_before}
use Rattle.layout.specs.History.{disk_count, earlier, old_count, added_count, rising, Within, spot_of, block_at}
use Rattle.layout.specs.Windows.{windows, row_exists, old_spot, moving, window_of, mark_of, block_of_mark, marked_blocks, part_moved, moves_of_window, moves_of_growth, uncopied, calls_left, cut_moves, later_moves, calls_left_by_marks}
use Rattle.layout.specs.Live.{at_new_spot, live_spot, live_block}
use Rattle.layout.specs.Reasons.{reason_of, first_growths, move_count_of}
use Rattle.layout.specs.Tally.{Tally, is_running, open_blocks, moved_blocks, live_spot_of, live_block_of, growths_of, live_reason_of, live_move_count_of, source_of}
use Rattle.layout.specs.Limits.{Limits}
use Rattle.layout.specs.Cases.{TableHolds}
use Rattle.layout.specs.RuleCases.{RulesHold}
use Rattle.layout.specs.WindowCases.{WindowsHold}
use Rattle.layout.specs.MoveCases.{MovesHold}
use Rattle.layout.specs.FewestMoves.{FewestMoves}

-- r is the remainder of a - c by k, also where a is less than c; no other number is
pub record RemainderOf (a c k r : ℕ) : Type 0 where
  pub below : r < k
  pub same : (r + c) % k ≡ a % k
  pub only : (z : ℕ) → z < k → (z + c) % k ≡ a % k → z ≡ r

-- spot and block are inverse to each other: a bijection from the blocks onto disks × rows
pub record Bijection (s : ℕ) (h : List ℕ) : Type 0 where
  pub spot_within : (x : ℕ) → x < disk_count h * s → Within s h (spot_of s h x)
  pub block_of_spot : (x : ℕ) → x < disk_count h * s → block_at s h (spot_of s h x) ≡ x
  pub block_within : (p : Spot) → Within s h p → block_at s h p < disk_count h * s
  pub spot_of_block : (p : Spot) → Within s h p → spot_of s h (block_at s h p) ≡ p

-- what the newest growth does with the old blocks
pub record Moving (s : ℕ) (h : List ℕ) : Type 0 where
  pub same_row : (x : ℕ) → x < old_count h * s → (spot_of s h x).row ≡ (old_spot s h x).row
  pub to_added_disk : (x : ℕ) → moving s h x ≡ true → (old_count h ≤ (spot_of s h x).disk) × ((spot_of s h x).disk < disk_count h)
  pub stays : (x : ℕ) → x < old_count h * s → moving s h x ≡ false → spot_of s h x ≡ old_spot s h x

-- a growth from m disks by m more: head, "b1 ≤ n-1", and tail, "b1 ≥ m-1", both fit a row
pub record HeadBeforeTail (m : ℕ) : Type 0 where
  -- "first rule that fits", head before tail: "Reading tail before head when m = n: the disk is right, the part told is wrong"
  pub head_told : (b1 : ℕ) → b1 ≤ m - 1 → m - 1 ≤ b1 → part_of m m b1 ≡ Head
  -- there is such a row, and on each old disk its block moves
  pub both_fit : (d0 : ℕ) → d0 < m → (b1 : ℕ) × (b1 ≤ m - 1) × (m - 1 ≤ b1) × (moves m d0 b1 ≡ true)

-- while the newest growth runs, whichever blocks have been moved
pub record LiveSpots (s : ℕ) (h : List ℕ) (moved : ℕ → Bool) : Type 0 where
  pub within : (x : ℕ) → x < old_count h * s → Within s h (live_spot s h moved x)
  pub distinct : (x y : ℕ) → x < old_count h * s → y < old_count h * s → live_spot s h moved x ≡ live_spot s h moved y → x ≡ y
  -- the spot that a copy of x is stored to is no open block's live spot
  pub target_free : (x y : ℕ) → moving s h x ≡ true → moved x ≡ false → y < old_count h * s → live_spot s h moved y ≢ spot_of s h x
  -- live_block is the inverse of live_spot
  pub block_of_live : (x : ℕ) → x < old_count h * s → live_block s h moved (live_spot s h moved x) ≡ some x
  pub live_of_block : (p : Spot) (x : ℕ) → Within s h p → live_block s h moved p ≡ some x
      → (x < old_count h * s) × (live_spot s h moved x ≡ p)

-- marks and moving blocks of a window are one to one
pub record Marks (s : ℕ) (h : List ℕ) : Type 0 where
  pub mark_within : (x : ℕ) → moving s h x ≡ true → mark_of s h x < old_count h * added_count h
  pub mark_row : (x : ℕ) → moving s h x ≡ true → row_exists (old_count h) (added_count h) s (window_of s h x) (mark_of s h x) ≡ true
  pub block_of_mark_law : (x : ℕ) → moving s h x ≡ true → block_of_mark s h (window_of s h x) (mark_of s h x) ≡ x
  pub mark_moves : (w j : ℕ) → j < old_count h * added_count h → row_exists (old_count h) (added_count h) s w j ≡ true
      → (moving s h (block_of_mark s h w j) ≡ true) × (window_of s h (block_of_mark s h w j) ≡ w) × (mark_of s h (block_of_mark s h w j) ≡ j)
  pub in_windows : (x : ℕ) → moving s h x ≡ true → window_of s h x < windows (old_count h) (added_count h) s
  -- every window has a moving block
  pub some_block : (w : ℕ) → w < windows (old_count h) (added_count h) s → (x : ℕ) × (moving s h x ≡ true) × (window_of s h x ≡ w)

-- within the limit of 16 disks a window has at most 64 marks
abbrev pub MarksFit : (h : List ℕ) → Type 0
MarksFit h = old_count h * added_count h ≤ 64

-- how many blocks move
pub record Counts (s : ℕ) (h : List ℕ) : Type 0 where
  pub whole_window : (w : ℕ) → suc w * (old_count h + added_count h) ≤ s → moves_of_window s h w ≡ old_count h * added_count h
  pub cut_window : (w r : ℕ) → s ≡ w * (old_count h + added_count h) + r → moves_of_window s h w ≡ cut_moves (old_count h) (added_count h) r
  -- U without a loop over windows
  pub closed_form : (w : ℕ) (copied : ℕ → Bool) → uncopied s h w copied
      ≡ count (λ j. row_exists (old_count h) (added_count h) s w j && not (copied (block_of_mark s h w j))) (old_count h * added_count h)
      + later_moves (old_count h) (added_count h) s w
  -- U + R - w from the marks of the copied blocks of window w
  pub calls_by_marks : (w : ℕ) (marks : List Bool)
      → calls_left s h w (marked_blocks s h w marks) ≡ calls_left_by_marks (old_count h) (added_count h) s w marks

-- Why a block is at its spot: "set out at format or added, by the last growth that placed it, or moved there, as head, body or tail, by the last
-- growth that moved it". N[k] is the disk count of the first k growths.

-- no growth after growth k has changed the spot of x
unfoldable pub UnchangedSince : (s : ℕ) (h : List ℕ) (x k : ℕ) → Type 0
UnchangedSince s h x k = (j : ℕ) → k ≤ j → j < length h → spot_of s (first_growths j h) x ≡ spot_of s h x

-- "Growths are told by number, 1 to t"
abbrev pub IsGrowth : (h : List ℕ) (k : ℕ) → Type 0
IsGrowth h k = (0 < k) × (k < length h)

-- "set out at format": x < N[0]·s
pub record SetOutTrue (s : ℕ) (h : List ℕ) (x : ℕ) : Type 0 where
  pub there_at_format : x < disk_count (first_growths 0 h) * s
  pub unchanged : UnchangedSince s h x 0

-- "added, by the last growth that placed it", growth k: N[k-1]·s ≤ x < N[k]·s
pub record AddedTrue (s : ℕ) (h : List ℕ) (x k : ℕ) : Type 0 where
  pub growth_made : IsGrowth h k
  pub added_from : disk_count (first_growths (k - 1) h) * s ≤ x
  pub added_below : x < disk_count (first_growths k h) * s
  pub unchanged : UnchangedSince s h x k

-- "moved there, as head, body or tail, by the last growth that moved it", growth k
pub record MovedTrue (s : ℕ) (h : List ℕ) (x k : ℕ) (part : Part) : Type 0 where
  pub growth_made : IsGrowth h k
  pub moved : moving s (first_growths k h) x ≡ true
  pub its_part : part_moved s (first_growths k h) x ≡ part
  pub unchanged : UnchangedSince s h x k

-- this is why x is at its spot
unfoldable pub ReasonTrue : (s : ℕ) (h : List ℕ) (x : ℕ) (r : Reason) → Type 0
ReasonTrue s h x SetOut = SetOutTrue s h x
ReasonTrue s h x (AddedBy k) = AddedTrue s h x k
ReasonTrue s h x (MovedBy k part) = MovedTrue s h x k part

-- a tally's live spots, whether a growth runs or not: the block at a spot is the inverse of a block's live spot
pub record LookUps (t : Tally) : Type 0 where
  pub live_within : (x : ℕ) → x < open_blocks t → Within t.rows t.counts (live_spot_of t x)
  pub live_distinct : (x y : ℕ) → x < open_blocks t → y < open_blocks t → live_spot_of t x ≡ live_spot_of t y → x ≡ y
  pub block_of_live : (x : ℕ) → x < open_blocks t → live_block_of t (live_spot_of t x) ≡ some x
  pub live_of_block : (p : Spot) (x : ℕ) → Within t.rows t.counts p → live_block_of t p ≡ some x
      → (x < open_blocks t) × (live_spot_of t x ≡ p)
  -- "After a finished growth 15 never occurs."
  pub each_spot_taken : is_running t.mode ≡ false → (p : Spot) → live_block_of t p ≢ none
  -- the live spot is the one that the growths told of give it, all or all but the newest
  pub live_growths : (x : ℕ) → live_spot_of t x ≡ spot_of t.rows (growths_of t x) x
  pub all_or_earlier : (x : ℕ) → (growths_of t x ≡ t.counts) ⊎ (growths_of t x ≡ earlier t.counts)
  -- "the live spot and why it is there": the reason told is true of those growths
  pub live_reason : (x : ℕ) → x < open_blocks t → ReasonTrue t.rows (growths_of t x) x (live_reason_of t x)

-- Document 02, W6: "by how many growths the block was moved". Of block x in history h, where r is why it is at its spot, n is that number.
pub record MovesTrue (s : ℕ) (h : List ℕ) (x : ℕ) (r : Reason) (n : ℕ) : Type 0 where
  -- 0 exactly where no growth of the history moved the block
  pub none_moved : ((k : ℕ) → IsGrowth h k → moving s (first_growths k h) x ≡ false) → n ≡ 0
  pub moved_none : n ≡ 0 → (k : ℕ) → IsGrowth h k → moving s (first_growths k h) x ≡ false
  -- at most t
  pub most_growths : n ≤ length h - 1
  -- told as moved by growth k: at least that one, and no later one
  pub told_moved : (k : ℕ) (part : Part) → r ≡ MovedBy k part → (1 ≤ n) × (n ≤ k)
  -- told as set out or as added: no growth since
  pub told_set_out : r ≡ SetOut → n ≡ 0
  pub told_added : (k : ℕ) → r ≡ AddedBy k → n ≡ 0
  -- a block that growth k added, or set out at format for 0: later growths that move it count, and nothing else does
  pub later_only : (k : ℕ) → k < length h → (k ≡ 0) ⊎ (disk_count (first_growths (k - 1) h) * s ≤ x)
      → n ≡ count (λ j. nat_lt k j && moving s (first_growths j h) x) (length h)

-- the moves of the newest growth, of all its windows
pub record GrowthMoves (s : ℕ) (h : List ℕ) : Type 0 where
  -- U when it starts, with no block copied
  pub at_start : moves_of_growth s h ≡ uncopied s h 0 (λ x. false)
  -- m·n for each whole window, and those of a last one that is cut off
  pub in_windows : (let m = old_count h in
      let n = added_count h in
      moves_of_growth s h ≡ s / (m + n) * (m * n) + cut_moves m n (s % (m + n)))

-- the moves of all growths of a history, one growth after another
abbrev pub moves_of_growths : (s : ℕ) (h : List ℕ) → ℕ
moves_of_growths s h = sum (λ k. moves_of_growth s (first_growths k h)) (length h)

-- the same number of a tally's live spots
pub record LiveMoves (t : Tally) : Type 0 where
  -- it is that of the growths told of, all or all but the newest
  pub live_moves_true : (x : ℕ) → MovesTrue t.rows (growths_of t x) x (live_reason_of t x) (live_move_count_of t x)
  -- "one under way only while the live spot is the new one": not at the old spot, and once at the new one
  pub at_old_spot : is_running t.mode ≡ true → (x : ℕ) → live_spot_of t x ≡ source_of t x
      → live_move_count_of t x ≡ move_count_of t.rows (earlier t.counts) x
  pub at_new_spot_law : is_running t.mode ≡ true → (x : ℕ) → live_spot_of t x ≢ source_of t x
      → live_move_count_of t x ≡ suc (move_count_of t.rows (earlier t.counts) x)
  -- of a block that the newest growth does not move: the same before this growth as during and after it
  pub unmoved_same : (before : Tally) → before.rows ≡ t.rows → before.counts ≡ earlier t.counts → is_running before.mode ≡ false
      → (x : ℕ) → moving t.rows t.counts x ≡ false → live_move_count_of t x ≡ live_move_count_of before x
  -- over all open blocks: the moves that the finished growths made, and those of one under way that are recorded
  pub sum_at_rest : is_running t.mode ≡ false → sum (live_move_count_of t) (open_blocks t) ≡ moves_of_growths t.rows t.counts
  pub sum_running : is_running t.mode ≡ true → sum (live_move_count_of t) (open_blocks t)
      ≡ moves_of_growths t.rows (earlier t.counts) + count (at_new_spot t.rows t.counts (moved_blocks t)) (open_blocks t)

-- x is an added block, "m·s ≤ x < (m+n)·s", and lives at p
pub record AddedThere (t : Tally) (p : Spot) (m n x : ℕ) : Type 0 where
  pub not_old : m * t.rows ≤ x
  pub is_open : x < (m + n) * t.rows
  pub lives : live_spot_of t x ≡ p

-- Document 02, W3: the added blocks of the newest growth, from m disks by n, no growth running; p is the spot (d, b).
pub record AddedBlocks (t : Tally) (p : Spot) (m n q : ℕ) : Type 0 where
  -- q is (d-(b-(n-1))) mod (m+n), never negative: d-(b-(n-1)) is d+(n-1) less b
  pub remainder : RemainderOf (p.disk + (n - 1)) p.row.0 (m + n) q
  -- "spot (d, b) has an added block exactly when q < n, and that block is m·s + b·n + q"
  pub has_added : q < n → AddedThere t p m n (m * t.rows + p.row.0 * n + q)
  pub added_only : (x : ℕ) → AddedThere t p m n x → (q < n) × (x ≡ m * t.rows + p.row.0 * n + q)
  -- so the block told at p is that one or, going back, the one that was at the spot before this growth
  pub added_told : q < n → live_block_of t p ≡ some (m * t.rows + p.row.0 * n + q)
  pub older_told : n ≤ q → live_block_of t p ≡ some (block_at t.rows (earlier t.counts) (spot_before m n p))

-- "the newest growth's m and n: with q = (d-(b-(n-1))) mod (m+n)"
abbrev pub AddedAt : (t : Tally) (p : Spot) → Type 0
AddedAt t p =
    let m = old_count t.counts in
    let n = added_count t.counts in
    AddedBlocks t p m n (added_index m n p.disk p.row.0)

-- All laws. A history has a growth where its old disks are more than 0.
pub record LayoutLaws : Type 0 where
  -- the remainder of b-(n-1) is the true one, also for b < n-1
  pub remainder_true : (m n b : ℕ) → 0 < n → RemainderOf b (n - 1) (m + n) (minus_mod b (n - 1) (m + n))
  pub spots_and_blocks : (s : ℕ) (h : List ℕ) → rising h ≡ true → Bijection s h
  pub moving_blocks : (s : ℕ) (h : List ℕ) → rising h ≡ true → 0 < old_count h → Moving s h
  pub head_before_tail : (m : ℕ) → HeadBeforeTail m
  pub live_spots : (s : ℕ) (h : List ℕ) → rising h ≡ true → 0 < old_count h → (moved : ℕ → Bool) → LiveSpots s h moved
  pub marks_and_blocks : (s : ℕ) (h : List ℕ) → rising h ≡ true → 0 < old_count h → Marks s h
  pub marks_fit : (s : ℕ) (h : List ℕ) → Limits s h → 0 < old_count h → MarksFit h
  pub move_counts : (s : ℕ) (h : List ℕ) → rising h ≡ true → 0 < old_count h → Counts s h
  pub look_ups : (t : Tally) → rising t.counts ≡ true → (is_running t.mode ≡ true → 0 < old_count t.counts) → LookUps t
  pub added_blocks : (t : Tally) → rising t.counts ≡ true → 0 < old_count t.counts → is_running t.mode ≡ false
      → (p : Spot) → Within t.rows t.counts p → AddedAt t p
  pub reason_true : (s : ℕ) (h : List ℕ) (x : ℕ) → rising h ≡ true → x < disk_count h * s → ReasonTrue s h x (reason_of s h x)
  -- the three exclude each other, and no other growth or part is true
  pub only_reason : (s : ℕ) (h : List ℕ) (x : ℕ) → rising h ≡ true → (q r : Reason) → ReasonTrue s h x q → ReasonTrue s h x r → q ≡ r
  -- by how many growths a block was moved: none at format, one more by each growth that moves it, and by no other
  pub moves_at_format : (s c x : ℕ) → move_count_of s (c ∷ []) x ≡ 0
  pub moves_one_more : (s c : ℕ) (h : List ℕ) (x : ℕ) → move_count_of s (c ∷ h) x ≡ move_count_of s h x + cond (moving s (c ∷ h) x) 1 0
  pub moves_true : (s : ℕ) (h : List ℕ) (x : ℕ) → rising h ≡ true → MovesTrue s h x (reason_of s h x) (move_count_of s h x)
  -- no other number is, whatever reason is told beside it
  pub only_moves : (s : ℕ) (h : List ℕ) (x : ℕ) → rising h ≡ true → (q r : Reason) (n k : ℕ) → MovesTrue s h x q n → MovesTrue s h x r k → n ≡ k
  pub growth_moves : (s : ℕ) (h : List ℕ) → rising h ≡ true → 0 < old_count h → GrowthMoves s h
  pub live_moves : (t : Tally) → rising t.counts ≡ true → (is_running t.mode ≡ true → 0 < old_count t.counts) → LiveMoves t
  pub move_cases : MovesHold
  -- Document 02, W8
  pub fewest_moves : FewestMoves
  -- L1 to L12
  pub layout_cases : TableHolds
  -- each rule of one growth, and windows and marks
  pub rule_cases : RulesHold
  pub window_cases : WindowsHold
