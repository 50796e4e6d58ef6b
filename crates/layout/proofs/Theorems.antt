-- The laws of the layout: `layout_laws` proves all of `LayoutLaws` in `specs/Laws.antt`.
use Rattle.std.proofs.Common.{◌≡◌, ℕ, ◌+◌, ◌-◌, ◌*◌, ◌<◌, ◌≤◌, Bool, true, false, List, [], ◌∷◌, ◌++◌, map, length, take, drop, refl, ap, ◌∙◌, mul-le-mul_right, arith, le-leb}
use Rattle.base.specs.Below.{count}
use Rattle.base.proofs.Booleans.{and_both}
use Rattle.layout.specs.declared.Reason.{Reason}
use Rattle.layout.specs.Growth.{minus_mod, moves, part_of, new_disk, disk_after, moves_from, old_block_spot, added_disk, added_spot, spot_after, change_of, added_index, old_disk, disk_before, spot_before, block_after}
use Rattle.layout.specs.declared.Spot.{Spot}
use Rattle.layout.specs.History.{Within, disk_count, earlier, old_count, added_count, rising, spot_of, block_at}
use Rattle.layout.specs.Windows.{windows, window_of_row, old_spot, moving, window_of, moving_in, uncopied, calls_left}
use Rattle.layout.specs.Limits.{Limits}
use Rattle.layout.specs.Reasons.{reason_after, reason_of, move_count_of}
use Rattle.layout.specs.Tally.{Tally, is_running, moved_blocks}
use Rattle.layout.specs.Laws.{RemainderOf, Bijection, Moving, LiveSpots, Marks, MarksFit, Counts, LookUps, AddedAt, HeadBeforeTail, ReasonTrue, MovesTrue, GrowthMoves, LiveMoves, LayoutLaws}
use Rattle.layout.specs.FewestMoves.{FewestInGrowth, FewestMoves}
use Rattle.layout.specs.Cases.{table, worked, Hold, TableHolds}
use Rattle.layout.proofs.Histories.{rising_up}
use Rattle.layout.proofs.Remainder.{remainder}
use Rattle.layout.proofs.Bijection.{bijection}
use Rattle.layout.proofs.NewestGrowth.{moving_law}
use Rattle.layout.proofs.LiveSpots.{live_law}
use Rattle.layout.proofs.LookUps.{LiveReasons, look_ups_law}
use Rattle.layout.proofs.AddedBlocks.{added_law}
use Rattle.layout.proofs.ReasonsTrue.{reasons_law, only_reason_law, live_reasons_law}
use Rattle.layout.proofs.MarkBlocks.{marks_law}
use Rattle.layout.proofs.MoveCounts.{counts_law, growth_law}
use Rattle.layout.proofs.MovesTrue.{moves_at_format, moves_one_more, moves_law, only_moves_law}
use Rattle.layout.proofs.LiveMoves.{live_moves_law}
use Rattle.layout.proofs.MoveCases.{moves_hold}
use Rattle.layout.proofs.FewestMoves.{every_growth_law, fewest_law, restripe_law}
use Rattle.layout.proofs.FewestCases.{spreads_hold, cases_true_law, counterexamples_law, racks_hold}
use Rattle.layout.proofs.RuleCases.{rules_hold}
use Rattle.layout.proofs.WindowCases.{windows_hold}
use Rattle.layout.proofs.WindowsCode.{marks_most}

-- the remainder of b-(n-1) is the true one, also for b < n-1
pub remainder_true : (m n b : ℕ) → 0 < n → RemainderOf b (n - 1) (m + n) (minus_mod b (n - 1) (m + n))
remainder_true m n b h = remainder (m + n) b (n - 1) (omega arith)

-- every spot is within disks and rows, and spot and block are inverse to each other
pub spots_and_blocks : (s : ℕ) (h : List ℕ) → rising h ≡ true → Bijection s h
spots_and_blocks = bijection

-- the newest growth of a history that has one
has_growth : (P : List ℕ → Type 0) → ((c m : ℕ) (h : List ℕ) → rising (c ∷ m ∷ h) ≡ true → P (c ∷ m ∷ h))
    → (h : List ℕ) → rising h ≡ true → 0 < old_count h → P h
unfolding old_count earlier disk_count
has_growth P f [] r g = absurd (omega arith)
has_growth P f (c ∷ []) r g = absurd (omega arith)
has_growth P f (c ∷ m ∷ h) r g = f c m h r

module _ (s : ℕ) (h : List ℕ) (r : rising h ≡ true) (g : 0 < old_count h) where
  pub some_added : 0 < added_count h
  unfolding added_count old_count earlier disk_count
  some_added = has_growth (λ k. 0 < added_count k) (λ c m k q. omega (arith, rising_up c m k q)) h r g

  pub disks_sum : old_count h + added_count h ≡ disk_count h
  unfolding added_count old_count earlier disk_count
  disks_sum = has_growth (λ k. old_count k + added_count k ≡ disk_count k) (λ c m k q. omega (arith, rising_up c m k q)) h r g

  -- the blocks before the newest growth are among all
  pub old_among : old_count h * s ≤ disk_count h * s
  old_among = mul-le-mul_right s (omega (arith, disks_sum))

  -- the spot of block x after the newest growth and its reason, from those before it
  pub spot_after_newest : (x : ℕ) → spot_of s h x ≡ spot_after (old_count h) (added_count h) s x (old_spot s h x)
  unfolding spot_of old_spot added_count old_count earlier disk_count
  spot_after_newest x = has_growth (λ k. spot_of s k x ≡ spot_after (old_count k) (added_count k) s x (old_spot s k x)) (λ c m k q. refl) h r g

  pub reason_after_newest : (x : ℕ)
      → reason_of s h x ≡ reason_after (change_of (old_count h) (added_count h) s x (old_spot s h x)) (length (earlier h)) (reason_of s (earlier h) x)
  unfolding reason_of old_spot added_count old_count earlier disk_count
  reason_after_newest x =
      has_growth (λ k. reason_of s k x ≡ reason_after (change_of (old_count k) (added_count k) s x (old_spot s k x)) (length (earlier k)) (reason_of s (earlier k) x))
      (λ c m k q. refl) h r g

  pub moving_blocks : Moving s h
  moving_blocks = has_growth (Moving s) (moving_law s) h r g

  pub live_spots : (moved : ℕ → Bool) → LiveSpots s h moved
  live_spots moved = has_growth (λ k. LiveSpots s k moved) (λ c m k q. live_law s c m k q moved) h r g

  live_reasons : LiveReasons s h
  unfolding old_count earlier disk_count
  live_reasons = has_growth (LiveReasons s) (live_reasons_law s) h r g

  pub marks_and_blocks : Marks s h
  marks_and_blocks = has_growth (Marks s) (marks_law s) h r g

  pub move_counts : Counts s h
  move_counts = has_growth (Counts s) (counts_law s) h r g

  pub growth_moves : GrowthMoves s h
  growth_moves = has_growth (GrowthMoves s) (growth_law s) h r g

-- within the limits a window has at most 64 marks
pub marks_fit : (s : ℕ) (h : List ℕ) → Limits s h → 0 < old_count h → MarksFit h
marks_fit s h a g = marks_most (old_count h) (added_count h) (omega (arith, disks_sum s h a.rise g, a.disks_most))

-- the reason that is told of a block is true, and no other is
pub reason_true : (s : ℕ) (h : List ℕ) (x : ℕ) → rising h ≡ true → x < disk_count h * s → ReasonTrue s h x (reason_of s h x)
reason_true = reasons_law

pub only_reason : (s : ℕ) (h : List ℕ) (x : ℕ) → rising h ≡ true → (q r : Reason) → ReasonTrue s h x q → ReasonTrue s h x r → q ≡ r
only_reason = only_reason_law

-- a tally's live spots and why blocks are there, whether a growth runs or not
pub look_ups : (t : Tally) → rising t.counts ≡ true → (is_running t.mode ≡ true → 0 < old_count t.counts) → LookUps t
look_ups t r g =
    look_ups_law t (spots_and_blocks t.rows t.counts r) (λ x. reason_true t.rows t.counts x r)
    (λ e. (live_spots t.rows t.counts r (g e) (moved_blocks t), live_reasons t.rows t.counts r (g e)))

-- by how many growths a block was moved
pub moves_true : (s : ℕ) (h : List ℕ) (x : ℕ) → rising h ≡ true → MovesTrue s h x (reason_of s h x) (move_count_of s h x)
moves_true = moves_law

pub live_moves : (t : Tally) → rising t.counts ≡ true → (is_running t.mode ≡ true → 0 < old_count t.counts) → LiveMoves t
live_moves = live_moves_law

-- which spots have a block that the newest growth added, no growth running
pub added_blocks : (t : Tally) → rising t.counts ≡ true → 0 < old_count t.counts → is_running t.mode ≡ false
    → (p : Spot) → Within t.rows t.counts p → AddedAt t p
added_blocks t r g e =
    has_growth
    (λ h. (p : Spot) → Within t.rows h p
    → AddedAt (record { rows = t.rows; counts = h; mode = t.mode; window = t.window; copied = t.copied; recorded = t.recorded }) p)
    (λ c m h q. added_law t.rows c m h q t.window t.copied t.recorded t.mode e)
    t.counts r g

-- document 02, W8
pub fewest_moves : FewestMoves
fewest_moves =
    record {
      every_growth = every_growth_law;
      in_growth = λ s. has_growth (FewestInGrowth s) (fewest_law s);
      restripe = restripe_law;
      counterexamples = counterexamples_law;
      spread_cases = spreads_hold;
      cases_true = cases_true_law;
      racks = racks_hold;
    }

-- with as many disks added as there were, a row that fits head and tail is told as head
pub head_before_tail : (m : ℕ) → HeadBeforeTail m
unfolding part_of moves
head_before_tail m =
    record {
      head_told = λ b1 h t. rw (le-leb m m (omega arith), le-leb b1 (m - 1) h);
      both_fit = λ d0 k. (m - 1, omega arith, omega arith, and_both (le-leb d0 (m - 1) (omega arith)) (le-leb (m - 1) (d0 + m - 1) (omega arith)));
    }

-- L1 to L4, the blocks that one growth moved
moved_cases : Hold (take 4 table)
unfolding worked spot_of block_at change_of old_spot old_count added_count earlier disk_count spot_after spot_before block_after old_block_spot disk_after new_disk moves moves_from part_of minus_mod disk_before old_disk added_index
moved_cases = refl

-- L5 to L12
other_cases : Hold (drop 4 table)
unfolding worked spot_of block_at change_of calls_left uncopied count moving moving_in window_of window_of_row windows old_spot old_count added_count earlier disk_count spot_after spot_before block_after old_block_spot added_spot disk_after new_disk moves moves_from part_of added_disk minus_mod disk_before old_disk added_index
other_cases = refl

-- L1 to L12
pub layout_cases : TableHolds
layout_cases = ap (λ a. a ++ map worked (drop 4 table)) moved_cases ∙ ap (λ a. take 4 table ++ a) other_cases

pub layout_laws : LayoutLaws
layout_laws =
    record {
      remainder_true = remainder_true;
      spots_and_blocks = spots_and_blocks;
      moving_blocks = moving_blocks;
      head_before_tail = head_before_tail;
      live_spots = live_spots;
      marks_and_blocks = marks_and_blocks;
      marks_fit = marks_fit;
      move_counts = move_counts;
      look_ups = look_ups;
      added_blocks = added_blocks;
      reason_true = reason_true;
      only_reason = only_reason;
      moves_at_format = moves_at_format;
      moves_one_more = moves_one_more;
      moves_true = moves_true;
      only_moves = only_moves_law;
      growth_moves = growth_moves;
      live_moves = live_moves;
      move_cases = moves_hold;
      fewest_moves = fewest_moves;
      layout_cases = layout_cases;
      rule_cases = rules_hold;
      window_cases = windows_hold;
    }
