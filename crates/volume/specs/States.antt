-- Document 01, "Medium, state, record": the state, read as a tally, and the states that calls hand back; document 02, W4: what is pending.
-- The array of counts is a list here, a set of marks a word.
use Rattle.std.specs.Prelude.{ℕ, suc, true, false, cond, List, eqb, set, replicate}
use Rattle.layout.specs.History.{history, disk_count}
use Rattle.layout.specs.Tally.{Mode, not_growing, growing, Tally, window_full, last_window}
use Rattle.layout.specs.Windows.{mark_of, marked_blocks}
use Rattle.base.specs.Bits.{word_of}
use Rattle.marks.specs.Words.{marks_of}
use Rattle.marks.specs.declared.Stage.{Stage}
use Rattle.medium.specs.declared.Geometry.{Geometry}
use Rattle.medium.specs.Medium.{Store, no_store, record_store, block_store}
use Rattle.volume.specs.declared.Pending.{Pending}
use Rattle.volume.specs.declared.Volume.{Volume}

unfoldable pub geometry : (v : Volume) → Geometry
geometry v = record { size = v.size; rows = v.rows }

-- N[t] to N[0], and N[t]
unfoldable pub history_of : (v : Volume) → List ℕ
history_of v = history v.growths v.counts

unfoldable pub disks : (v : Volume) → ℕ
disks v = disk_count (history_of v)

-- "growing (0 or 1)"
unfoldable pub mode_of : (number : ℕ) → Mode
mode_of number = cond (eqb number 0) not_growing growing

-- The state as a tally. Open blocks, live spots, waiting blocks and calls left of a state are those of its tally. A mark belongs to a
-- moving block of window w; no other block is recorded or copied.
unfoldable pub tally_of : (v : Volume) → Tally
tally_of v =
    record {
      rows = v.rows;
      counts = history_of v;
      mode = mode_of v.growing;
      window = v.window;
      copied = marked_blocks v.rows (history_of v) v.window (marks_of v.copied);
      recorded = marked_blocks v.rows (history_of v) v.window (marks_of v.recorded);
    }

-- "growing", w and the two sets of marks
abbrev pub stage_of : (v : Volume) → Stage
stage_of v = record { growing = v.growing; window = v.window; recorded = v.recorded; copied = v.copied }

-- ---- what is pending

-- "Restart begins with nothing pending."
unfoldable pub none_pending : Pending
none_pending = record { records = false; blocks = false }

-- a store is pending from its call on: one of the record, one of a block
abbrev pub record_pending : (p : Pending) → Pending
record_pending p = record { records = true; blocks = p.blocks }

abbrev pub block_pending : (p : Pending) → Pending
block_pending p = record { records = p.records; blocks = true }

unfoldable pub pending_with : (p : Pending) (store : Store) → Pending
pending_with p no_store = p
pending_with p (record_store sector) = record_pending p
pending_with p (block_store q bytes) = block_pending p

-- ---- the states that calls hand back, from three forms

-- a volume with no growth
unfoldable pub new_state : (z s n : ℕ) → Volume
new_state z s n =
    record {
      size = z;
      rows = s;
      growths = 0;
      counts = set (replicate 8 0) 0 n;
      growing = 0;
      window = 0;
      recorded = 0;
      copied = 0;
      pending = none_pending;
    }

-- the same blocks and rows with another history and another stage of a growth
unfoldable pub with_growth : (v : Volume) (t : ℕ) (counts : List ℕ) (stage w : ℕ) (recorded copied : ℕ) → Volume
with_growth v t counts stage w recorded copied =
    record {
      size = v.size;
      rows = v.rows;
      growths = t;
      counts = counts;
      growing = stage;
      window = w;
      recorded = recorded;
      copied = copied;
      pending = v.pending;
    }

-- the same volume with this pending
unfoldable pub with_pending : (v : Volume) (p : Pending) → Volume
with_pending v p =
    record {
      size = v.size;
      rows = v.rows;
      growths = v.growths;
      counts = v.counts;
      growing = v.growing;
      window = v.window;
      recorded = v.recorded;
      copied = v.copied;
      pending = p;
    }

-- the state after a store
abbrev pub after_store : (v : Volume) (store : Store) → Volume
after_store v store = with_pending v (pending_with v.pending store)

-- "a state of zeros"
unfoldable pub zeros : Volume
zeros = new_state 0 0 0

-- "the count added, growing 1, w 0, no marks"
unfoldable pub grown : (v : Volume) (count : ℕ) → Volume
grown v count = with_growth v (suc v.growths) (set v.counts (suc v.growths) count) 1 0 0 0

-- the same history, in another stage
abbrev pub in_stage : (v : Volume) (stage w : ℕ) (recorded copied : ℕ) → Volume
in_stage v stage w recorded copied = with_growth v v.growths v.counts stage w recorded copied

-- what the record holds of a state: "sets copied to recorded", "nothing pending"
unfoldable pub recorded_only : (v : Volume) → Volume
recorded_only v = with_pending (in_stage v v.growing v.window v.recorded v.recorded) none_pending

-- "sets the copied mark": mark j, and that of block x
abbrev pub with_mark : (v : Volume) (j : ℕ) → Volume
with_mark v j = in_stage v v.growing v.window v.recorded (word_of (set (marks_of v.copied) j true))

unfoldable pub with_copy : (v : Volume) (x : ℕ) → Volume
with_copy v x = with_mark v (mark_of v.rows (history_of v) x)

-- "with recorded set to copied. If window w is then full, that same store has w+1 and no marks, or, after the last window, growing 0 and
-- w 0."
unfoldable pub checkpointed : (v : Volume) → Volume
checkpointed v =
    cond (window_full (tally_of v))
    (cond (last_window (tally_of v)) (in_stage v 0 0 0 0) (in_stage v v.growing (suc v.window) 0 0))
    (in_stage v v.growing v.window v.copied v.copied)
