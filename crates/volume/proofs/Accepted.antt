-- What an accepted call knows: the facts that hold where a call's table refuses nothing.
use Prim.Native.Nat.{ℕ, ◌*◌, ◌≤◌, ◌<◌}
use mathlib.Core.Path.{◌≡◌, refl, sym, ◌∙◌}
use mathlib.Core.Bool.{Bool, true, false, cond, ◌&&◌}
use mathlib.Core.List.{List, [], ◌∷◌, ◌++◌}
use mathlib.Core.Logic.{◌≢◌}
use mathlib.Core.Option.{Option, none, some}
use native.Mathlib.Omega.{arith}
use lib.Dec.{eqb, leb, ltb}
use lib.ListN.{take}
use borrow.Author.Tests.{leb-false, ltb-false, eqb-true, eqb-false}
use Rattle.base.specs.Refusals.{refusal}
use Rattle.base.proofs.Booleans.{clash}
use Rattle.base.proofs.Refusals.{passed, held, passed_first, both_passed}
use Rattle.layout.specs.declared.Spot.{Spot}
use Rattle.layout.specs.History.{Within}
use Rattle.layout.specs.Limits.{most_disks, most_growths}
use Rattle.layout.specs.Tally.{open_blocks, live_block_of, waiting, moves_now, next_block}
use Rattle.medium.specs.declared.Geometry.{Geometry}
use Rattle.medium.specs.Medium.{record_bytes, bytes_needed, Observations}
use Rattle.volume.specs.declared.Volume.{Volume}
use Rattle.volume.specs.Calls.{too_short, record_rows, format_table, restart_table, sector_table, doubling_rows, grow_table_of, write_table, read_table, copy_table, nothing_to_record, checkpoint_table, advance_table, growth_table, address_table, holder_table, is_none, piece_table}
use Rattle.volume.specs.Laws.{MayGrow}
use Rattle.volume.specs.Records.{state_read, is_sound_record}
use Rattle.volume.specs.Sound.{size_holds, rows_hold, disks_hold, sound}
use Rattle.volume.specs.States.{geometry, history_of, disks, tally_of}
use Rattle.volume.proofs.SoundLaws.{sound_limits, growths_of_limits}

long_enough : (g : Geometry) (n len : ℕ) → too_short g n len ≡ false → bytes_needed g n ≤ len
unfolding too_short
long_enough g n len e = ltb-false len (bytes_needed g n) e

-- ---- format, restart, grow

pub record FormatFacts (z s n len : ℕ) : Type 0 where
  pub size_holds_law : size_holds z ≡ true
  pub rows_hold_law : rows_hold s ≡ true
  pub disks_hold_law : disks_hold n ≡ true
  pub room : bytes_needed (record { size = z; rows = s }) n ≤ len

pub format_accepted : (z s n len : ℕ) → refusal (format_table z s n len) ≡ 0 → FormatFacts z s n len
unfolding format_table
format_accepted z s n len e =
    let a = held 8 (size_holds z) _ (omega arith) e in
    let b = held 8 (rows_hold s) _ (omega arith) a.1 in
    let c = held 8 (disks_hold n) _ (omega arith) b.1 in
    let d = passed 2 (too_short (record { size = z; rows = s }) n len) [] (omega arith) c.1 in
    record { size_holds_law = a.0; rows_hold_law = b.0; disks_hold_law = c.0; room = long_enough _ n len d.0 }

pub record RestartFacts (o : Observations) : Type 0 where
  pub record_room : record_bytes ≤ o.byte_count
  pub is_record : is_sound_record o.sector ≡ true
  pub room : bytes_needed (geometry (state_read o.sector)) (disks (state_read o.sector)) ≤ o.byte_count

pub restart_accepted : (o : Observations) → refusal (restart_table o) ≡ 0 → RestartFacts o
unfolding restart_table
restart_accepted o e =
    let u = state_read o.sector in
    let a = passed 2 (ltb o.byte_count record_bytes) _ (omega arith) e in
    let b = held 13 (is_sound_record o.sector) _ (omega arith) a.1 in
    let c = passed 2 (too_short (geometry u) (disks u) o.byte_count) [] (omega arith) b.1 in
    record {
      record_room = ltb-false o.byte_count record_bytes a.0;
      is_record = b.0;
      room = long_enough (geometry u) (disks u) o.byte_count c.0;
    }

pub sector_accepted : (o : Observations) → refusal (sector_table o) ≡ 0 → (record_bytes ≤ o.byte_count) × (is_sound_record o.sector ≡ true)
sector_accepted o e =
    let a = passed 2 (ltb o.byte_count record_bytes) _ (omega arith) e in
    (ltb-false o.byte_count record_bytes a.0, (held 13 (is_sound_record o.sector) [] (omega arith) a.1).0)

-- W7's row, and none in the grow without 20
limited_row : (v : Volume) (count : ℕ) → doubling_rows true v count ≡ (20, ltb (2 * disks v) count) ∷ []
unfolding doubling_rows
limited_row v count = refl

no_row : (v : Volume) (count : ℕ) → doubling_rows false v count ≡ []
unfolding doubling_rows
no_row v count = refl

-- with the rows after it
doubling_row : (limited : Bool) (v : Volume) (count : ℕ) (rows : List (ℕ × Bool))
    → refusal (doubling_rows limited v count ++ rows) ≡ refusal ((20, limited && ltb (2 * disks v) count) ∷ rows)
unfolding refusal
doubling_row true v count rows = rw (limited_row v count)
doubling_row false v count rows = rw (no_row v count)

-- the tests before W7's, which both grows have
abbrev pub count_tests : (limited : Bool) (v : Volume) (count len : ℕ) → List (ℕ × Bool)
count_tests limited v count len = take 5 (grow_table_of limited v count len)

-- and those after it
abbrev pub last_tests : (v : Volume) (count len : ℕ) → List (ℕ × Bool)
last_tests v count len = (2, too_short (geometry v) count len) ∷ record_rows v

pub may_grow : (limited : Bool) (v : Volume) (count len : ℕ) → refusal (count_tests limited v count len) ≡ 0 → MayGrow v count
unfolding grow_table_of
may_grow limited v count len e =
    let a = held 1 (sound v) _ (omega arith) e in
    let b = held 6 (eqb v.growing 0) _ (omega arith) a.1 in
    let c = passed 9 (eqb v.growths most_growths) _ (omega arith) b.1 in
    let d = passed 8 (leb count (disks v)) _ (omega arith) c.1 in
    let f = passed 8 (ltb most_disks count) [] (omega arith) d.1 in
    record {
      is_sound = a.0;
      not_growing_law = eqb-true v.growing 0 b.0;
      one_more = omega (arith, growths_of_limits v (sound_limits v a.0), eqb-false v.growths most_growths c.0);
      more_disks = leb-false count (disks v) d.0;
      disks_most = ltb-false most_disks count f.0;
    }

-- where they pass, W7's decides and then the last ones
pub grow_decided : (limited : Bool) (v : Volume) (count len : ℕ) → refusal (count_tests limited v count len) ≡ 0
    → refusal (grow_table_of limited v count len)
    ≡ cond (limited && ltb (2 * disks v) count) 20 (cond (too_short (geometry v) count len) 2 (refusal (record_rows v)))
unfolding grow_table_of refusal
grow_decided limited v count len e =
    passed_first (count_tests limited v count len) (doubling_rows limited v count ++ last_tests v count len) refl e
    ∙ doubling_row limited v count (last_tests v count len)

pub record GrowFacts (v : Volume) (count len : ℕ) : Type 0 where
  pub may : MayGrow v count
  pub room : bytes_needed (geometry v) count ≤ len
  pub record_down : v.pending.records ≡ false
  pub blocks_down : v.pending.blocks ≡ false

-- of both grows
pub grow_accepted : (limited : Bool) (v : Volume) (count len : ℕ) → refusal (grow_table_of limited v count len) ≡ 0 → GrowFacts v count len
unfolding grow_table_of
grow_accepted limited v count len e =
    let last = last_tests v count len in
    let a = both_passed (count_tests limited v count len) (doubling_rows limited v count ++ last) refl e in
    let w = passed 20 (limited && ltb (2 * disks v) count) last (omega arith) (sym (doubling_row limited v count last) ∙ a.1) in
    let g = passed 2 (too_short (geometry v) count len) _ (omega arith) w.1 in
    let h = passed 19 v.pending.records _ (omega arith) g.1 in
    let i = passed 18 v.pending.blocks [] (omega arith) h.1 in
    record { may = may_grow limited v count len a.0; room = long_enough (geometry v) count len g.0; record_down = h.0; blocks_down = i.0 }

-- ---- read and write

pub record ReadFacts (v : Volume) (x n len : ℕ) : Type 0 where
  pub is_sound : sound v ≡ true
  pub room : bytes_needed (geometry v) (disks v) ≤ len
  pub block_open : x < open_blocks (tally_of v)
  pub piece_whole : n ≡ v.size

-- the tests of a read, whatever comes after them
read_tests : (v : Volume) (x n len : ℕ) (table : List (ℕ × Bool)) → refusal (piece_table v x n len ++ table) ≡ 0
    → ReadFacts v x n len × (refusal table ≡ 0)
read_tests v x n len table e =
    let a = held 1 (sound v) _ (omega arith) e in
    let b = passed 2 (too_short (geometry v) (disks v) len) _ (omega arith) a.1 in
    let c = passed 3 (leb (open_blocks (tally_of v)) x) _ (omega arith) b.1 in
    let d = held 4 (eqb n v.size) table (omega arith) c.1 in (
      record {
        is_sound = a.0;
        room = long_enough (geometry v) (disks v) len b.0;
        block_open = leb-false (open_blocks (tally_of v)) x c.0;
        piece_whole = eqb-true n v.size d.0;
      },
      d.1,
    )

pub read_accepted : (v : Volume) (x n len : ℕ) → refusal (read_table v x n len) ≡ 0 → ReadFacts v x n len
unfolding read_table
read_accepted v x n len e = (read_tests v x n len [] e).0

pub write_accepted : (v : Volume) (x n len : ℕ) → refusal (write_table v x n len) ≡ 0
    → ReadFacts v x n len × (waiting (tally_of v) x ≡ false) × (v.pending.records ≡ false)
unfolding write_table
write_accepted v x n len e =
    let a = read_tests v x n len ((7, waiting (tally_of v) x) ∷ (19, v.pending.records) ∷ []) e in
    let b = passed 7 (waiting (tally_of v) x) _ (omega arith) a.1 in
    (a.0, b.0, (passed 19 v.pending.records [] (omega arith) b.1).0)

-- ---- copy, checkpoint and advance

pub record AdvanceFacts (v : Volume) (len : ℕ) : Type 0 where
  pub is_sound : sound v ≡ true
  pub room : bytes_needed (geometry v) (disks v) ≤ len
  pub is_growing : v.growing ≢ 0

pub record CopyFacts (v : Volume) (x len : ℕ) : Type 0 where
  pub advances : AdvanceFacts v len
  pub block_open : x < open_blocks (tally_of v)
  pub moves : moves_now (tally_of v) x ≡ true
  pub not_copied : (tally_of v).copied x ≡ false

-- the tests that copy, checkpoint and advance share, whatever comes after them
advance_tests : (v : Volume) (len : ℕ) (table : List (ℕ × Bool)) → refusal (growth_table v len ++ table) ≡ 0 → AdvanceFacts v len × (refusal table ≡ 0)
advance_tests v len table e =
    let a = held 1 (sound v) _ (omega arith) e in
    let b = passed 2 (too_short (geometry v) (disks v) len) _ (omega arith) a.1 in
    let c = passed 5 (eqb v.growing 0) table (omega arith) b.1 in (
      record { is_sound = a.0; room = long_enough (geometry v) (disks v) len b.0; is_growing = eqb-false v.growing 0 c.0 },
      c.1,
    )

pub growth_accepted : (v : Volume) (len : ℕ) → refusal (growth_table v len) ≡ 0 → AdvanceFacts v len
growth_accepted v len e = (advance_tests v len [] e).0

-- a record store is pending, or is due with block stores pending: in neither case is it accepted
pub advance_accepted : (v : Volume) (len : ℕ) → refusal (advance_table v len) ≡ 0
    → AdvanceFacts v len × (v.pending.records ≡ false) × ((is_none (next_block (tally_of v)) && v.pending.blocks) ≡ false)
unfolding advance_table
advance_accepted v len e =
    let a = advance_tests v len _ e in
    let b = passed 19 v.pending.records _ (omega arith) a.1 in
    (a.0, b.0, (passed 18 (is_none (next_block (tally_of v)) && v.pending.blocks) [] (omega arith) b.1).0)

pub checkpoint_accepted : (v : Volume) (len : ℕ) → refusal (checkpoint_table v len) ≡ 0
    → AdvanceFacts v len × (nothing_to_record v ≡ false) × (v.pending.records ≡ false) × (v.pending.blocks ≡ false)
unfolding checkpoint_table
checkpoint_accepted v len e =
    let a = advance_tests v len _ e in
    let b = passed 12 (nothing_to_record v) _ (omega arith) a.1 in
    let c = passed 19 v.pending.records _ (omega arith) b.1 in
    (a.0, b.0, c.0, (passed 18 v.pending.blocks [] (omega arith) c.1).0)

pub copy_accepted : (v : Volume) (x len : ℕ) → refusal (copy_table v x len) ≡ 0 → CopyFacts v x len × (v.pending.records ≡ false)
unfolding copy_table
copy_accepted v x len e =
    let t = tally_of v in
    let a = advance_tests v len _ e in
    let b = passed 3 (leb (open_blocks t) x) _ (omega arith) a.1 in
    let c = held 10 (moves_now t x) _ (omega arith) b.1 in
    let d = passed 11 (t.copied x) _ (omega arith) c.1 in (
      record { advances = a.0; block_open = leb-false (open_blocks t) x b.0; moves = c.0; not_copied = d.0 },
      (passed 19 v.pending.records [] (omega arith) d.1).0,
    )

-- ---- address and holder

pub record AddressFacts (v : Volume) (x : ℕ) : Type 0 where
  pub is_sound : sound v ≡ true
  pub block_open : x < open_blocks (tally_of v)

pub address_accepted : (v : Volume) (x : ℕ) → refusal (address_table v x) ≡ 0 → AddressFacts v x
unfolding address_table
address_accepted v x e =
    let a = held 1 (sound v) _ (omega arith) e in
    let b = passed 3 (leb (open_blocks (tally_of v)) x) [] (omega arith) a.1 in
    record { is_sound = a.0; block_open = leb-false (open_blocks (tally_of v)) x b.0 }

pub record HolderFacts (v : Volume) (p : Spot) : Type 0 where
  pub is_sound : sound v ≡ true
  pub spot_within : Within v.rows (history_of v) p
  pub block_there_law : (x : ℕ) × (live_block_of (tally_of v) p ≡ some x)

some_block : (found : Option ℕ) → is_none found ≡ false → (x : ℕ) × (found ≡ some x)
some_block none e = clash refl e
some_block (some x) e = (x, refl)

pub holder_accepted : (v : Volume) (p : Spot) → refusal (holder_table v p) ≡ 0 → HolderFacts v p
unfolding holder_table disks
holder_accepted v p e =
    let a = held 1 (sound v) _ (omega arith) e in
    let b = passed 14 (leb (disks v) p.disk) _ (omega arith) a.1 in
    let c = passed 14 (leb v.rows p.row.0) _ (omega arith) b.1 in
    let d = passed 15 (is_none (live_block_of (tally_of v) p)) [] (omega arith) c.1 in
    record {
      is_sound = a.0;
      spot_within = record { disk = leb-false (disks v) p.disk b.0; row = leb-false v.rows p.row.0 c.0 };
      block_there_law = some_block (live_block_of (tally_of v) p) d.0;
    }
