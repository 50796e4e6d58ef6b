-- Document 01, "The plain volume and the cut": the tally, which follows the growth, and "The live spot" worked out from it.
-- Blocks are numbers here; nothing is known of a state, a record or a medium.
use Rattle.std.specs.Prelude.{ℕ, suc, ◌*◌, Bool, true, false, cond, not, ◌&&◌, ◌||◌, List, ◌==◌, nat_lt}
use Rattle.std.proofs.Math.Option.{Option, some}
use Rattle.layout.specs.declared.Address.{Address}
use Rattle.layout.specs.declared.Reason.{Reason}
use Rattle.layout.specs.declared.Spot.{Spot}
use Rattle.layout.specs.History.{disk_count, earlier, old_count, added_count, spot_of, block_at}
use Rattle.layout.specs.Live.{at_new_spot, live_spot, live_block}
use Rattle.layout.specs.Reasons.{reason_of, move_count_of}
use Rattle.layout.specs.Windows.{windows, old_spot, window_of, moving_in, mark_of, next_to_copy, are_copied, calls_left}

-- whether a growth runs
pub data Mode : Type 0 where
  not_growing growing : Mode

abbrev pub is_running : (mode : Mode) → Bool
is_running not_growing = false
is_running growing = true

-- "It has s, the counts, whether a growth runs, a w, and which blocks are copied and which recorded." The counts are newest first.
pub record Tally : Type 0 where
  pub rows : ℕ
  pub counts : List ℕ
  pub mode : Mode
  pub window : ℕ
  pub copied : ℕ → Bool
  pub recorded : ℕ → Bool

-- "Not growing: all x < N[t]·s are open", "Growing: only blocks x < m·s are open": how many are
unfoldable pub open_blocks : (t : Tally) → ℕ
open_blocks t = cond (is_running t.mode) (old_count t.counts) (disk_count t.counts) * t.rows

-- "its window is below w, or is w with its recorded mark set"
unfoldable pub recorded_by : (s : ℕ) (h : List ℕ) (w : ℕ) (recorded : ℕ → Bool) (x : ℕ) → Bool
recorded_by s h w recorded x = nat_lt (window_of s h x) w || (window_of s h x == w && recorded x)

unfoldable pub moved_blocks : (t : Tally) (x : ℕ) → Bool
moved_blocks t x = recorded_by t.rows t.counts t.window t.recorded x

-- the live spot of block x
unfoldable pub live_spot_of : (t : Tally) (x : ℕ) → Spot
live_spot_of t x = cond (is_running t.mode) (live_spot t.rows t.counts (moved_blocks t) x) (spot_of t.rows t.counts x)

-- the open block that lives at p, or none
unfoldable pub live_block_of : (t : Tally) (p : Spot) → Option ℕ
live_block_of t p = cond (is_running t.mode) (live_block t.rows t.counts (moved_blocks t) p) (some (block_at t.rows t.counts p))

-- the growths that made the live spot of x: all, or all but the newest
unfoldable pub growths_of : (t : Tally) (x : ℕ) → List ℕ
growths_of t x =
    cond (is_running t.mode) (cond (at_new_spot t.rows t.counts (moved_blocks t) x) t.counts (earlier t.counts)) t.counts

-- why x is at its live spot
unfoldable pub live_reason_of : (t : Tally) (x : ℕ) → Reason
live_reason_of t x = reason_of t.rows (growths_of t x) x

-- Document 02, W6: "by how many growths the block was moved. Only growths in the history count, and one under way only while the live spot is
-- the new one."
unfoldable pub live_move_count_of : (t : Tally) (x : ℕ) → ℕ
live_move_count_of t x = move_count_of t.rows (growths_of t x) x

-- "the live spot and why it is there", and how often x was moved
unfoldable pub live_address_of : (t : Tally) (x : ℕ) → Address
live_address_of t x = record { spot = live_spot_of t x; reason = live_reason_of t x; moves = live_move_count_of t x }

-- "x copied but not recorded"
unfoldable pub waiting : (t : Tally) (x : ℕ) → Bool
waiting t x = is_running t.mode && (t.copied x && not (t.recorded x))

-- "the advance calls left, U + R - w, and 0 when not growing"
unfoldable pub calls_left_of : (t : Tally) → ℕ
calls_left_of t = cond (is_running t.mode) (calls_left t.rows t.counts t.window t.copied) 0

-- ---- what is left to copy

-- the blocks that may be copied now, the moving blocks of window w, and the rank in which advance takes them, their mark
unfoldable pub moves_now : (t : Tally) (x : ℕ) → Bool
moves_now t x = moving_in t.rows t.counts t.window x

unfoldable pub rank_now : (t : Tally) (x : ℕ) → ℕ
rank_now t x = mark_of t.rows t.counts x

-- the spot that a copy of x takes its bytes from, the old one, and the one that it is stored to, the new one: "It stores the old spot's bytes at
-- the new one"
unfoldable pub source_of : (t : Tally) (x : ℕ) → Spot
source_of t x = old_spot t.rows t.counts x

unfoldable pub target_of : (t : Tally) (x : ℕ) → Spot
target_of t x = spot_of t.rows t.counts x

-- the block that the next advance copies, or none
unfoldable pub next_block : (t : Tally) → Option ℕ
next_block t = next_to_copy (rank_now t) (moves_now t) t.copied (old_count t.counts * t.rows)

-- the copied blocks are "all moving blocks of window w"
unfoldable pub window_full : (t : Tally) → Bool
window_full t = are_copied (moves_now t) t.copied (old_count t.counts * t.rows)

-- "at w = R the growth is finished": w is the last window
unfoldable pub last_window : (t : Tally) → Bool
last_window t = suc t.window == windows (old_count t.counts) (added_count t.counts) t.rows
