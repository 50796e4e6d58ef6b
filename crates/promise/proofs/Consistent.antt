-- The invariant: state, medium and plain volume agree; and each store keeps it, whole or torn.
use Prim.Native.Nat.{ℕ, ◌*◌, ◌≤◌, ◌<◌}
use mathlib.Core.Path.{◌≡◌, refl, ◌∙◌}
use mathlib.Core.Bool.{Bool, true, false, cond, ◌&&◌}
use mathlib.Core.List.{List}
use mathlib.Core.Logic.{◌≢◌}
use mathlib.Core.Option.{Option, some}
use lib.Dec.{eqb}
use Rattle.base.specs.Refusals.{refusal}
use Rattle.base.proofs.Booleans.{cond_cases}
use Rattle.layout.specs.History.{disk_count, old_count, earlier}
use Rattle.layout.specs.Tally.{Tally, not_growing, open_blocks, live_spot_of, waiting, moves_now, source_of, target_of, window_full, last_window}
use Rattle.medium.specs.declared.Geometry.{Geometry}
use Rattle.medium.specs.Laws.{Holds, OtherThanRecord, Stored}
use Rattle.medium.specs.Medium.{bytes_needed, Observations, Store, no_store, record_store, block_store}
use Rattle.volume.specs.declared.Pending.{Pending}
use Rattle.volume.specs.declared.Volume.{Volume}
use Rattle.volume.specs.Calls.{grow_table_of, format_table}
use Rattle.volume.specs.Records.{numbers_of, record_of}
use Rattle.volume.specs.Sound.{sound}
use Rattle.volume.specs.States.{geometry, history_of, disks, tally_of, new_state, with_pending, with_growth, grown, recorded_only, with_copy, checkpointed}
use Rattle.volume.proofs.Accepted.{format_accepted, grow_accepted}
use Rattle.volume.proofs.CopyLaws.{source_spot}
use Rattle.volume.proofs.RecordLaws.{recorded_sound}
use Rattle.volume.proofs.Theorems.{volume_laws}
use Rattle.promise.specs.Model.{PlainVolume, start_plain, with_added, unset, start_tally, grown_tally, with_blocks, copied_tally, next_window_tally, finished_tally, recorded_tally, restarted_tally, checkpoint_finishes}
use Rattle.promise.proofs.Tallies.{Running, Resting, copy_unrecorded, spots_apart}
use Rattle.promise.proofs.Held.{Held, held_unset, held_written, held_target, held_unchanged, held_recorded, held_copied, held_restarted, held_part, held_next_window, held_finished, held_grown}
use Rattle.promise.proofs.StateTallies.{running_of, resting_of, stage_of, tally_new, tally_grown, tally_restarted, tally_copied, tally_checkpointed}

pub record Consistent (v : Volume) (o : Observations) (p : PlainVolume) : Type 0 where
  pub is_sound : sound v ≡ true
  pub room : bytes_needed (geometry v) (disks v) ≤ o.byte_count
  pub recorded : o.sector ≡ record_of v
  pub same_open : p.blocks ≡ open_blocks (tally_of v)
  pub held : Held (geometry v) o (tally_of v) p.bytes

-- block x with these bytes, or unset
unfoldable pub with_block : (x : ℕ) (b : Option (List ℕ)) (p : PlainVolume) → PlainVolume
with_block x b p = record { blocks = p.blocks; bytes = λ y. cond (eqb y x) b (p.bytes y) }

-- what is pending is no part of it
pub consistent_pending : (v : Volume) (o : Observations) (p : PlainVolume) (q : Pending) → Consistent v o p → Consistent (with_pending v q) o p
unfolding with_pending geometry disks history_of record_of numbers_of tally_of
consistent_pending v o p q c =
    record {
      is_sound = volume_laws.pending_sound v q ∙ c.is_sound;
      room = c.room;
      recorded = c.recorded;
      same_open = c.same_open;
      held = c.held;
    }

-- blocks become unset
pub consistent_unset : (v : Volume) (o : Observations) (p : PlainVolume) (blocks : ℕ → Bool) → Consistent v o p → Consistent v o (unset blocks p)
unfolding unset
consistent_unset v o p blocks c =
    record {
      is_sound = c.is_sound;
      room = c.room;
      recorded = c.recorded;
      same_open = c.same_open;
      held = held_unset (geometry v) o (tally_of v) p.bytes c.held blocks;
    }

-- what of it is said of a tally
record Agree (g : Geometry) (o : Observations) (t : Tally) (p : PlainVolume) : Type 0 where
  same_open : p.blocks ≡ open_blocks t
  held : Held g o t p.bytes

same_rows : (v : Volume) → (geometry v).rows ≡ (tally_of v).rows
unfolding geometry tally_of
same_rows v = refl

disks_of_tally : (v : Volume) → disks v ≡ disk_count (tally_of v).counts
unfolding disks tally_of
disks_of_tally v = refl

-- a record stored: of a state with this geometry and this tally
record_stored : (v : Volume) (before after : Observations) (p : PlainVolume) (g : Geometry) (t : Tally) → sound v ≡ true
    → geometry v ≡ g → tally_of v ≡ t → bytes_needed g (disk_count t.counts) ≤ before.byte_count → Agree g before t p
    → Stored g (record_store (record_of v)) before after → Consistent v after p
unfolding Holds
record_stored v before after p g t s same-g same-t room agree stored =
    let h : Held (geometry v) before (tally_of v) p.bytes = rw (same-g, same-t) agree.held in
    let k : Stored (geometry v) (record_store (record_of v)) before after = rw same-g stored in
    record {
      is_sound = s;
      room = rw (same-g, disks_of_tally v, same-t, stored.length_kept) room;
      recorded = stored.read_back;
      same_open = rw same-t agree.same_open;
      held = held_recorded (geometry v) before after (tally_of v) (same_rows v) p.bytes h (stage_of v s) (record_of v) k;
    }

-- ---- format and grow

agree_new : (g : Geometry) (o : Observations) (s n : ℕ) → Agree g o (start_tally s n) (start_plain s n)
unfolding start_tally start_plain open_blocks disk_count
agree_new g o s n = record { same_open = refl; held = record { stands = λ x b below e. record { at_live = cc; at_target = λ _. cc } } }

pub consistent_new : (z s n : ℕ) (before after : Observations) → refusal (format_table z s n before.byte_count) ≡ 0
    → Stored (geometry (new_state z s n)) (record_store (record_of (new_state z s n))) before after → Consistent (new_state z s n) after (start_plain s n)
unfolding new_state geometry start_tally disk_count
consistent_new z s n before after e stored =
    record_stored (new_state z s n) before after (start_plain s n) (geometry (new_state z s n)) (start_tally s n)
    (volume_laws.format_sound z s n before.byte_count e) refl (tally_new z s n) (format_accepted z s n before.byte_count e).room
    (agree_new (geometry (new_state z s n)) before s n) stored

open_grown : (t : Tally) (count : ℕ) → t.mode ≡ not_growing → open_blocks t ≡ open_blocks (grown_tally count t)
unfolding open_blocks grown_tally old_count earlier
open_grown t count e = rw e

agree_grown : (g : Geometry) (o : Observations) (t : Tally) (p : PlainVolume) → Resting t → (count : ℕ) → Agree g o t p
    → Agree g o (grown_tally count t) p
agree_grown g o t p r count a =
    record { same_open = a.same_open ∙ open_grown t count r.is_resting; held = held_grown g o t p.bytes a.held r count }

-- ---- restart, and what a cut leaves of the state

pub consistent_restarted : (v : Volume) (o : Observations) (p : PlainVolume) → Consistent v o p → Consistent (recorded_only v) o p
unfolding recorded_only with_pending with_growth geometry disks history_of record_of numbers_of restarted_tally with_blocks open_blocks
consistent_restarted v o p c =
    record {
      is_sound = recorded_sound v c.is_sound;
      room = c.room;
      recorded = c.recorded;
      same_open = rw (tally_restarted v) c.same_open;
      held = rw (tally_restarted v) (held_restarted (geometry v) o (tally_of v) p.bytes c.held);
    }

-- ---- the checkpoint, in its three cases

agree_checkpointed : (g : Geometry) (o : Observations) (t : Tally) (p : PlainVolume) → Running t → Agree g o t p
    → Agree g o (recorded_tally t) (cond (checkpoint_finishes t) (with_added (disk_count t.counts * t.rows) p) p)
unfolding recorded_tally checkpoint_finishes with_blocks next_window_tally finished_tally with_added open_blocks
agree_checkpointed g o t p r a = go (window_full t) (last_window t) refl refl
  where
    go : (full last : Bool) → window_full t ≡ full → last_window t ≡ last
        → Agree g o (cond full (cond last (finished_tally t) (next_window_tally t)) (with_blocks t t.copied t.copied))
        (cond (full && last) (with_added (disk_count t.counts * t.rows) p) p)
    go false last e f = record { same_open = a.same_open; held = held_part g o t p.bytes a.held r }
    go true false e f = record { same_open = a.same_open; held = held_next_window g o t p.bytes a.held r e }
    go true true e f = record { same_open = refl; held = rw a.same_open (held_finished g o t p.bytes a.held r e f) }

-- it changes neither the counts nor the geometry
counts_checkpointed : (t : Tally) → (recorded_tally t).counts ≡ t.counts
unfolding recorded_tally finished_tally next_window_tally with_blocks
counts_checkpointed t =
    cond_cases (λ (u : Tally). u.counts ≡ t.counts) (window_full t)
    (λ _. cond_cases (λ (u : Tally). u.counts ≡ t.counts) (last_window t) (λ _. refl) (λ _. refl)) (λ _. refl)

pub geometry_checkpointed : (v : Volume) → geometry (checkpointed v) ≡ geometry v
unfolding checkpointed with_growth geometry
geometry_checkpointed v =
    cond_cases (λ u. geometry u ≡ geometry v) (window_full (tally_of v))
    (λ _. cond_cases (λ u. geometry u ≡ geometry v) (last_window (tally_of v)) (λ _. refl) (λ _. refl)) (λ _. refl)

-- ---- stores

module _ (v : Volume) (before after : Observations) (p : PlainVolume) (c : Consistent v before p) where
  agree : Agree (geometry v) before (tally_of v) p
  agree = record { same_open = c.same_open; held = c.held }

  pub consistent_grown : (limited : Bool) (count : ℕ) → refusal (grow_table_of limited v count before.byte_count) ≡ 0
      → Stored (geometry v) (record_store (record_of (grown v count))) before after → Consistent (grown v count) after p
  unfolding grown with_growth geometry grown_tally disk_count
  consistent_grown limited count e stored =
      let f = grow_accepted limited v count before.byte_count e in
      record_stored (grown v count) before after p (geometry v) (grown_tally count (tally_of v))
      (volume_laws.grown_sound limited v count before.byte_count e) refl (tally_grown v count f.may.is_sound f.may.one_more) f.room
      (agree_grown (geometry v) before (tally_of v) p (resting_of v f.may.is_sound f.may.not_growing_law) count agree) stored

  -- a store that is not to the record
  other_stored : (store : Store) → OtherThanRecord store → (new : PlainVolume) → new.blocks ≡ p.blocks
      → Held (geometry v) after (tally_of v) new.bytes → Stored (geometry v) store before after → Consistent v after new
  other_stored store other new same h stored =
      record {
        is_sound = c.is_sound;
        room = rw stored.length_kept c.room;
        recorded = stored.record_kept other ∙ c.recorded;
        same_open = same ∙ c.same_open;
        held = h;
      }

  -- nothing
  pub consistent_unchanged : Stored (geometry v) no_store before after → Consistent v after p
  unfolding OtherThanRecord
  consistent_unchanged stored =
      other_stored no_store tt p refl
      (held_unchanged (geometry v) before after (tally_of v) (same_rows v) p.bytes c.held (stage_of v c.is_sound) stored) stored

  -- a write, whole or torn
  pub consistent_written : (x : ℕ) → x < open_blocks (tally_of v) → waiting (tally_of v) x ≡ false → (b : List ℕ) (new : Option (List ℕ))
      → ((d : List ℕ) → new ≡ some d → b ≡ d) → Stored (geometry v) (block_store (live_spot_of (tally_of v) x) b) before after
      → Consistent v after (with_block x new p)
  unfolding with_block OtherThanRecord
  consistent_written x below idle b new right stored =
      other_stored (block_store (live_spot_of (tally_of v) x) b) tt (with_block x new p) refl
      (held_written (geometry v) before after (tally_of v) (same_rows v) p.bytes c.held (stage_of v c.is_sound) x below idle b new right stored)
      stored

  -- a copy, torn
  pub consistent_torn : v.growing ≢ 0 → (x : ℕ) → moves_now (tally_of v) x ≡ true → (tally_of v).copied x ≡ false → (b : List ℕ)
      → Stored (geometry v) (block_store (target_of (tally_of v) x) b) before after → Consistent v after p
  unfolding OtherThanRecord
  consistent_torn on x moves new b stored =
      other_stored (block_store (target_of (tally_of v) x) b) tt p refl
      (held_target (geometry v) before after (tally_of v) (same_rows v) p.bytes c.held (running_of v c.is_sound on) x moves new b stored)
      stored

  -- a copy: of the bytes that the block has in the plain volume, if it is set
  pub consistent_copied : v.growing ≢ 0 → (x : ℕ) → moves_now (tally_of v) x ≡ true → (tally_of v).copied x ≡ false → (b : List ℕ)
      → ((d : List ℕ) → p.bytes x ≡ some d → b ≡ d)
      → Stored (geometry v) (block_store (target_of (tally_of v) x) b) before after → Consistent (with_copy v x) after p
  unfolding with_copy with_growth geometry disks history_of record_of numbers_of copied_tally with_blocks open_blocks Holds
  consistent_copied on x moves new b right stored =
      let torn = consistent_torn on x moves new b stored in
      let same = tally_copied v x c.is_sound on moves in
      record {
        is_sound = volume_laws.copied_sound v x c.is_sound on moves;
        room = torn.room;
        recorded = torn.recorded;
        same_open = rw same torn.same_open;
        held =
            rw same
            (held_copied (geometry v) after (tally_of v) p.bytes torn.held (running_of v c.is_sound on) x moves
            (λ d e. stored.read_back ∙ right d e));
      }

  -- what it finds at the old spot of a block that may be copied, where that block lives
  pub copy_finds : v.growing ≢ 0 → (x : ℕ) → moves_now (tally_of v) x ≡ true → (tally_of v).copied x ≡ false → (d : List ℕ) → p.bytes x ≡ some d
      → before.bytes_at (geometry v) (source_of (tally_of v) x) ≡ d
  copy_finds on x moves new d e =
      let left = copy_unrecorded (tally_of v) (running_of v c.is_sound on) x moves new in
      rw (source_spot v x c.is_sound on moves new)
      at (c.held.stands x d ((spots_apart (tally_of v) (stage_of v c.is_sound)).copies_open x left) e).at_live

  -- a checkpoint
  pub consistent_checkpointed : v.growing ≢ 0 → Stored (geometry v) (record_store (record_of (checkpointed v))) before after
      → Consistent (checkpointed v) after (cond (checkpoint_finishes (tally_of v)) (with_added (disks v * v.rows) p) p)
  unfolding disks tally_of
  consistent_checkpointed on stored =
      record_stored (checkpointed v) before after _ (geometry v) (recorded_tally (tally_of v))
      (volume_laws.checkpointed_sound v c.is_sound on) (geometry_checkpointed v) (tally_checkpointed v c.is_sound on)
      (rw (counts_checkpointed (tally_of v)) c.room)
      (agree_checkpointed (geometry v) before (tally_of v) p (running_of v c.is_sound on) agree) stored
