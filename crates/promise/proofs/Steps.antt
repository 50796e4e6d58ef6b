-- One call, whole or torn, on any medium that keeps the laws of stores: nothing of lists, of pending stores or of the places of bytes.
use Prim.Native.Nat.{ℕ, ◌*◌, ◌<◌}
use mathlib.Core.Path.{◌≡◌, refl, sym, ap, ◌∙◌, subst}
use mathlib.Core.Bool.{Bool, true, false, cond, ◌||◌, ◌&&◌, true≢false}
use mathlib.Core.List.{List, []}
use mathlib.Core.Logic.{◌≢◌}
use mathlib.Core.Option.{Option, none, some}
use lib.Dec.{eqb}
use lib.ListN.{length}
use borrow.Author.Tests.{le-ltb}
use Rattle.base.specs.Refusals.{refusal}
use Rattle.base.proofs.Booleans.{by_test, clash}
use Rattle.layout.specs.History.{Within}
use Rattle.layout.specs.Tally.{Tally, open_blocks, moved_blocks, live_spot_of, waiting, calls_left_of, moves_now, target_of, next_block}
use Rattle.layout.proofs.NextBlocks.{next_some}
use Rattle.medium.specs.declared.Geometry.{Geometry}
use Rattle.medium.specs.Laws.{Stored}
use Rattle.medium.specs.Medium.{record_bytes, bytes_needed, Observations, Store, no_store, record_store, block_store, torn_block, MayLeave, cut_store}
use Rattle.volume.specs.declared.Pending.{Pending}
use Rattle.volume.specs.declared.Volume.{Volume}
use Rattle.volume.specs.Answers.{number, accepted, reported}
use Rattle.volume.specs.Calls.{Outcome, refused, doing, reporting, telling, judged, too_short, is_none, restart_table, restart_effect, restart_outcome, grow_table_of, grow_effect, grow_outcome_of, write_table, write_effect, write_outcome, read_table, read_effect, read_outcome, copy_table, copy_store, copy_effect, copy_outcome, checkpoint_table, checkpoint_store, checkpoint_effect, checkpoint_outcome, advance_table, advancing, advance_effect, advance_outcome}
use Rattle.volume.specs.Records.{record_of, state_read, is_sound_record}
use Rattle.volume.specs.States.{geometry, disks, history_of, tally_of, pending_with, zeros, with_growth, with_pending, grown, recorded_only, with_copy, checkpointed}
use Rattle.volume.proofs.Accepted.{grow_accepted, write_accepted, copy_accepted, checkpoint_accepted, advance_accepted}
use Rattle.volume.proofs.ByteBounds.{record_room}
use Rattle.volume.proofs.Judged.{judged_cases, accepted_when}
use Rattle.volume.proofs.Theorems.{volume_laws}
use Rattle.promise.specs.Calls.{Call, grow, grow_beyond_doubling, copy, checkpoint, advance, write, read, restart, flushed, settles}
use Rattle.promise.specs.Lists.{call_outcome, later}
use Rattle.promise.specs.Model.{grown_tally, copied_tally, recorded_tally, restarted_tally, checkpoint_finishes, Step, leaving, saving, recording, advance_step, step_of, PlainVolume, with_save, with_added, unset, Model, stepped, accepting, is_saved}
use Rattle.promise.proofs.Tallies.{copy_unrecorded, spots_apart}
use Rattle.promise.proofs.Held.{none_waits}
use Rattle.promise.proofs.StateTallies.{running_of, stage_of, tally_grown, tally_restarted, tally_copied, tally_checkpointed}
use Rattle.promise.proofs.Consistent.{Consistent, with_block, consistent_pending, consistent_restarted, geometry_checkpointed, consistent_unchanged, consistent_grown, consistent_written, consistent_torn, consistent_copied, copy_finds, consistent_checkpointed}

-- ---- the invariant

-- state, medium, plain volume and tally agree, and while a growth runs the number last reported is that of its advance calls left
pub record Up (g : Geometry) (v : Volume) (o : Observations) (k : Model) (told : Option ℕ) : Type 0 where
  pub consistent : Consistent v o k.plain
  pub same_tally : k.tally ≡ tally_of v
  pub same_geometry : geometry v ≡ g
  pub calls_told : v.growing ≢ 0 → told ≡ some (calls_left_of (tally_of v))

-- after a cut: the same of the state that the record holds, and of the tally that a restart makes
pub record Down (g : Geometry) (o : Observations) (k : Model) : Type 0 where
  pub last : Volume
  pub consistent : Consistent (recorded_only last) o k.plain
  pub same_tally : restarted_tally k.tally ≡ tally_of (recorded_only last)
  pub same_geometry : geometry (recorded_only last) ≡ g

-- memory is lost
pub down_at : {g : Geometry} {o : Observations} (v : Volume) (p : PlainVolume) (t : Tally) → Consistent (recorded_only v) o p → t ≡ tally_of v
    → geometry v ≡ g → Down g o (record { plain = p; tally = t })
unfolding recorded_only with_pending with_growth geometry
down_at v p t c e same =
    record { last = v; consistent = c; same_tally = ap restarted_tally e ∙ sym (tally_restarted v); same_geometry = same }

pub up_down : {g : Geometry} {v : Volume} {o : Observations} {k : Model} {told : Option ℕ} → Up g v o k told → Down g o k
up_down {v = v} {o = o} {k = k} u =
    down_at v k.plain k.tally (consistent_restarted v o k.plain u.consistent) u.same_tally u.same_geometry

-- nothing is stored
pub up_unchanged : {g : Geometry} {v : Volume} {before after : Observations} {k : Model} {told : Option ℕ} → Up g v before k told
    → Stored (geometry v) no_store before after → Up g v after k told
up_unchanged {v = v} {before = before} {after = after} {k = k} u stored =
    record {
      consistent = consistent_unchanged v before after k.plain u.consistent stored;
      same_tally = u.same_tally;
      same_geometry = u.same_geometry;
      calls_told = u.calls_told;
    }

-- what is pending is no part of it
pub up_pending : {g : Geometry} {v : Volume} {o : Observations} {k : Model} {told : Option ℕ} → Up g v o k told → (q : Pending)
    → Up g (with_pending v q) o k told
unfolding with_pending geometry tally_of history_of
up_pending {v = v} {o = o} {k = k} u q =
    record {
      consistent = consistent_pending v o k.plain q u.consistent;
      same_tally = u.same_tally;
      same_geometry = u.same_geometry;
      calls_told = u.calls_told;
    }

-- ---- what an accepted call does to it

-- a torn block store, over any earlier medium that agrees with the record
abbrev pub Torn : (v : Volume) (step : Step) (store : Store) → Type 0
Torn v step store =
    (bytes : List ℕ) (before after : Observations) (p : PlainVolume) → Consistent (recorded_only v) before p → MayLeave store (torn_block bytes)
    → Stored (geometry v) (cut_store store (torn_block bytes)) before after → Consistent (recorded_only v) after (unset (is_saved step.save) p)

-- the record stays, and what is unset after a cut is what was unset before, and the block that was saved
pub record KeepsRecord (v : Volume) (step : Step) (u : Volume) : Type 0 where
  pub same_record_law : recorded_only u ≡ recorded_only v
  pub no_record : step.stores_record ≡ false
  pub unset_after : (f : ℕ → Bool) (o : Model)
      → unset (λ y. is_saved step.save y || f y) (stepped step o).plain ≡ unset (is_saved step.save) (unset f o.plain)

pub record StoresBlock (v : Volume) (step : Step) (u : Volume) (store : Store) : Type 0 where
  pub keeps : KeepsRecord v step u
  pub record_down : v.pending.records ≡ false
  pub still_down : u.pending.records ≡ false
  pub now_pending : u.pending.blocks ≡ true
  pub torn : Torn v step store

pub record StoresRecord (v : Volume) (step : Step) (u : Volume) : Type 0 where
  pub record_down : v.pending.records ≡ false
  pub blocks_down : v.pending.blocks ≡ false
  pub now_pending : u.pending.records ≡ true
  pub a_record : step.stores_record ≡ true
  pub no_save : step.save ≡ none

abbrev pub ByStore : (v : Volume) (step : Step) (u : Volume) (store : Store) → Type 0
ByStore v step u no_store = KeepsRecord v step u × (u.pending ≡ v.pending) × (step.save ≡ none)
ByStore v step u (record_store sector) = StoresRecord v step u
ByStore v step u (block_store q bytes) = StoresBlock v step u (block_store q bytes)

-- a block store's spot lies on the disks
unfoldable pub Lies : (v : Volume) (store : Store) → Type 0
Lies v no_store = Unit {0}
Lies v (record_store sector) = Unit {0}
Lies v (block_store q bytes) = Within v.rows (history_of v) q

-- on the medium that it saw, and on any other of its length that agrees with the state
pub record Effect (g : Geometry) (v : Volume) (o : Observations) (k : Model) (told : Option ℕ) (step : Step) (out : Outcome) : Type 0 where
  pub is_accepted_law : accepted out.reply.answer ≡ true
  pub whole : (before after : Observations) → before.byte_count ≡ o.byte_count → Consistent v before k.plain → Stored (geometry v) out.store before after
      → Up g out.reply.state after (stepped step k) (later told (reported out.reply.answer))
  pub by_store : ByStore v step out.reply.state out.store
  pub lies : Lies v out.store

-- a call that its table judges: refused, or accepted
pub data Judgement (g : Geometry) (v : Volume) (o : Observations) (k : Model) (told : Option ℕ) (step : Step) : Outcome → Type 0 where
  is_refused : (n : ℕ) (piece : List ℕ) → n ≢ 0 → Judgement g v o k told step (refused v n piece)
  has_effect : {out : Outcome} → Effect g v o k told step out → Judgement g v o k told step out

judgement : {g : Geometry} {v : Volume} {o : Observations} {k : Model} {told : Option ℕ} {step : Step} (table : List (ℕ × Bool)) (piece : List ℕ)
    (out : Outcome) → (refusal table ≡ 0 → Effect g v o k told step out) → Judgement g v o k told step (judged table (λ n. refused v n piece) out)
judgement {g = g} {v = v} {o = o} {k = k} {told = told} {step = step} table piece out effect =
    judged_cases (Judgement g v o k told step) table (λ n. refused v n piece) out (λ e. has_effect (effect e)) (λ f. is_refused (refusal table) piece f)

pub effect_of : {g : Geometry} {v : Volume} {o : Observations} {k : Model} {told : Option ℕ} {step : Step} (out : Outcome) → Judgement g v o k told step out
    → accepted out.reply.answer ≡ true → Effect g v o k told step out
effect_of out (is_refused n piece f) a = unfold refused accepted in cc
effect_of out (has_effect e) a = e

-- ---- restart: it is accepted on any medium that agrees with the state that its record holds

module _ {g : Geometry} {o : Observations} {k : Model} (d : Down g o k) where
  abbrev pub found : Volume
  found = recorded_only d.last

  pub restart_reads : (is_sound_record o.sector ≡ true) × (state_read o.sector ≡ found)
  unfolding recorded_only with_pending with_growth
  restart_reads = rw d.consistent.recorded (volume_laws.record_read found d.consistent.is_sound)

  pub restart_passes : refusal (restart_table o) ≡ 0
  unfolding refusal restart_table too_short
  restart_passes =
      let room = d.consistent.room in
      let record_long = le-ltb o.byte_count record_bytes (record_room (geometry found) (disks found) o.byte_count room) in
      let disks_long = le-ltb o.byte_count (bytes_needed (geometry found) (disks found)) room in
      rw (record_long, restart_reads.0, restart_reads.1, disks_long)

  pub restart_found : restart_outcome o ≡ reporting found no_store
  unfolding restart_outcome restart_effect
  restart_found =
      accepted_when (restart_table o) (λ n. refused zeros n []) (reporting (state_read o.sector) no_store) restart_passes
      ∙ ap (λ (w : Volume). reporting w no_store) restart_reads.1

  pub restart_up : (told : Option ℕ) → Up g found o (accepting restart k) (later told (some (calls_left_of (tally_of found))))
  unfolding accepting step_of stepped leaving with_save later
  restart_up told =
      record { consistent = d.consistent; same_tally = d.same_tally; same_geometry = d.same_geometry; calls_told = λ _. refl }

-- ---- each other call

-- an advance that is not refused is accepted
pub advance_told : (v : Volume) (o : Observations) (next : Option ℕ) → accepted (advancing v next o).reply.answer ≡ true
unfolding advancing telling accepted number
advance_told v o none = refl
advance_told v o (some x) = refl

-- a block that is saved and then unset
unset_saved : (e f : Bool) (b : List ℕ) (z : Option (List ℕ)) → cond (e || f) none (cond e (some b) z) ≡ cond e none (cond f none z)
unset_saved true f b z = refl
unset_saved false f b z = refl

-- a copy keeps the record
copy_keeps : (v : Volume) (x : ℕ) (q : Pending) (t : Tally) → KeepsRecord v (leaving t) (with_pending (with_copy v x) q)
unfolding with_copy with_pending with_growth recorded_only leaving stepped with_save unset is_saved
copy_keeps v x q t = record { same_record_law = refl; no_record = refl; unset_after = λ f o. refl }

write_keeps : (v : Volume) (x : ℕ) (piece : List ℕ) (q : Pending) (t : Tally) → KeepsRecord v (saving x piece t) (with_pending v q)
unfolding with_pending with_growth recorded_only saving stepped with_save unset is_saved
write_keeps v x piece q t =
    record {
      same_record_law = refl;
      no_record = refl;
      unset_after = λ f o i. record { blocks = o.plain.blocks; bytes = λ y. unset_saved (eqb y x) (f y) piece (o.plain.bytes y) i };
    }

-- the tally is that of the state
module _ (g : Geometry) (v : Volume) (o : Observations) (p : PlainVolume) (told : Option ℕ) (c : Consistent v o p) (same : geometry v ≡ g)
    (right : v.growing ≢ 0 → told ≡ some (calls_left_of (tally_of v))) where
  abbrev model : Model
  model = record { plain = p; tally = tally_of v }

  up_there : (before : Observations) → Consistent v before p → Up g v before model told
  up_there before there = record { consistent = there; same_tally = refl; same_geometry = same; calls_told = right }

  -- both grows
  grow_whole : (limited : Bool) (count : ℕ) → refusal (grow_table_of limited v count o.byte_count) ≡ 0 → (before after : Observations) → before.byte_count ≡ o.byte_count
      → Consistent v before p → Stored (geometry v) (record_store (record_of (grown v count))) before after
      → Up g (grown v count) after (record { plain = p; tally = grown_tally count (tally_of v) }) (some (calls_left_of (tally_of (grown v count))))
  unfolding grown with_growth geometry
  grow_whole limited count e before after long there stored =
      let f = grow_accepted limited v count o.byte_count e in
      record {
        consistent = consistent_grown v before after p there limited count (rw long e) stored;
        same_tally = sym (tally_grown v count f.may.is_sound f.may.one_more);
        same_geometry = same;
        calls_told = λ _. refl;
      }

  grow_judged : (limited : Bool) (count : ℕ)
      → Judgement g v o model told (recording (grown_tally count (tally_of v)) false) (grow_outcome_of limited v count o)
  unfolding grow_outcome_of grow_effect reporting accepted number reported later recording stepped with_save with_pending pending_with
  grow_judged limited count =
      judgement (grow_table_of limited v count o.byte_count) [] _
      (λ e.
      let f = grow_accepted limited v count o.byte_count e in
      record {
        is_accepted_law = refl;
        whole = λ before after long there stored. up_pending (grow_whole limited count e before after long there stored) _;
        by_store = record { record_down = f.record_down; blocks_down = f.blocks_down; now_pending = refl; a_record = refl; no_save = refl };
        lies = unfold Lies in tt;
      })

  -- write
  write_whole : (x : ℕ) (piece : List ℕ) → refusal (write_table v x (length piece) o.byte_count) ≡ 0 → (before after : Observations) → Consistent v before p
      → Stored (geometry v) (block_store (live_spot_of (tally_of v) x) piece) before after → Up g v after (record { plain = with_block x (some piece) p; tally = tally_of v }) told
  write_whole x piece e before after there stored =
      let f = write_accepted v x (length piece) o.byte_count e in
      record {
        consistent = consistent_written v before after p there x f.0.block_open f.1 piece (some piece) (λ b e. cc) stored;
        same_tally = refl;
        same_geometry = same;
        calls_told = right;
      }

  write_torn : (x : ℕ) (piece : List ℕ) → x < open_blocks (tally_of v) → Torn v (saving x piece (tally_of v)) (block_store (live_spot_of (tally_of v) x) piece)
  unfolding cut_store saving unset is_saved with_block recorded_only with_pending with_growth geometry history_of tally_of open_blocks live_spot_of moved_blocks waiting
  write_torn x piece below bytes before after q d may stored =
      consistent_written (recorded_only v) before after q d x below (none_waits (tally_of v).mode ((tally_of v).recorded x)) bytes none
      (λ b e. cc) stored

  write_lies : (x : ℕ) (piece : List ℕ) → x < open_blocks (tally_of v) → Lies v (block_store (live_spot_of (tally_of v) x) piece)
  unfolding Lies tally_of
  write_lies x piece below = (spots_apart (tally_of v) (stage_of v c.is_sound)).live_within x below

  write_judged : (x : ℕ) (piece : List ℕ) → Judgement g v o model told (step_of (write x piece) (tally_of v)) (write_outcome v x piece o)
  unfolding write_outcome write_effect doing accepted number reported later step_of saving stepped with_save with_block with_pending pending_with
  write_judged x piece =
      judgement (write_table v x (length piece) o.byte_count) piece _
      (λ e.
      let f = write_accepted v x (length piece) o.byte_count e in
      record {
        is_accepted_law = refl;
        whole = λ before after long there stored. up_pending (write_whole x piece e before after there stored) _;
        by_store =
            record {
              keeps = write_keeps v x piece _ (tally_of v);
              record_down = f.2;
              still_down = f.2;
              now_pending = refl;
              torn = write_torn x piece f.0.block_open;
            };
        lies = write_lies x piece f.0.block_open;
      })

  -- read
  read_judged : (x : ℕ) (piece : List ℕ) → Judgement g v o model told (step_of (read x piece) (tally_of v)) (read_outcome v x piece o)
  unfolding read_outcome read_effect doing accepted number reported later step_of leaving stepped with_save with_pending pending_with with_growth recorded_only unset is_saved
  read_judged x piece =
      judgement (read_table v x (length piece) o.byte_count) piece _
      (λ e.
      record {
        is_accepted_law = refl;
        whole = λ before after long there stored. up_pending (up_unchanged (up_there before there) stored) _;
        by_store = (record { same_record_law = refl; no_record = refl; unset_after = λ f o. refl }, refl, refl);
        lies = unfold Lies in tt;
      })

  -- copy
  copy_whole : v.growing ≢ 0 → (x : ℕ) → moves_now (tally_of v) x ≡ true → (tally_of v).copied x ≡ false → (before after : Observations) → Consistent v before p
      → Stored (geometry v) (copy_store v x o) before after
      → Up g (with_copy v x) after (record { plain = p; tally = copied_tally x (tally_of v) }) (some (calls_left_of (tally_of (with_copy v x))))
  unfolding with_copy with_growth geometry copy_store
  copy_whole on x moves new before after there stored =
      record {
        consistent = consistent_copied v before after p there on x moves new _ (copy_finds v o o p c on x moves new) stored;
        same_tally = sym (tally_copied v x c.is_sound on moves);
        same_geometry = same;
        calls_told = λ _. refl;
      }

  not_recorded : v.growing ≢ 0 → (x : ℕ) → (tally_of v).copied x ≡ false → (tally_of v).recorded x ≡ false
  not_recorded on x new =
      by_test ((tally_of v).recorded x) (λ e. clash ((running_of v c.is_sound on).recorded_copied x e) new) (λ e. e)

  copy_torn : v.growing ≢ 0 → (x : ℕ) → moves_now (tally_of v) x ≡ true → (tally_of v).copied x ≡ false → (t : Tally) → Torn v (leaving t) (copy_store v x o)
  unfolding copy_store cut_store leaving unset is_saved recorded_only with_pending with_growth geometry history_of tally_of moves_now target_of
  copy_torn on x moves new t bytes before after q e may stored =
      consistent_torn (recorded_only v) before after q e on x moves (not_recorded on x new) bytes stored

  copy_stores : v.growing ≢ 0 → v.pending.records ≡ false → (x : ℕ) → moves_now (tally_of v) x ≡ true → (tally_of v).copied x ≡ false
      → ByStore v (leaving (copied_tally x (tally_of v))) (with_pending (with_copy v x) (pending_with (with_copy v x).pending (copy_store v x o))) (copy_store v x o)
  unfolding copy_store
  copy_stores on down x moves new =
      record {
        keeps = copy_keeps v x _ _;
        record_down = down;
        still_down = unfold with_pending pending_with with_copy with_growth in down;
        now_pending = unfold with_pending pending_with in refl;
        torn = unfold copy_store in copy_torn on x moves new _;
      }

  copy_lies : v.growing ≢ 0 → (x : ℕ) → moves_now (tally_of v) x ≡ true → (tally_of v).copied x ≡ false → Lies v (copy_store v x o)
  unfolding copy_store Lies
  copy_lies on x moves new =
      let r = running_of v c.is_sound on in
      unfold tally_of in (spots_apart (tally_of v) (stage_of v c.is_sound)).target_within x (copy_unrecorded (tally_of v) r x moves new)

  copy_judged : (x : ℕ) → Judgement g v o model told (step_of (copy x) (tally_of v)) (copy_outcome v x o)
  unfolding copy_outcome copy_effect reporting accepted number reported later step_of stepped with_save
  copy_judged x =
      judgement (copy_table v x o.byte_count) [] _
      (λ e.
      let f = copy_accepted v x o.byte_count e in
      let on = f.0.advances.is_growing in
      record {
        is_accepted_law = refl;
        whole = λ before after long there stored. unfold leaving in up_pending (copy_whole on x f.0.moves f.0.not_copied before after there stored) _;
        by_store = copy_stores on f.1 x f.0.moves f.0.not_copied;
        lies = copy_lies on x f.0.moves f.0.not_copied;
      })

  -- checkpoint
  checkpoint_whole : v.growing ≢ 0 → (before after : Observations) → Consistent v before p → Stored (geometry v) (checkpoint_store v) before after
      → Up g (checkpointed v) after
      (record { plain = cond (checkpoint_finishes (tally_of v)) (with_added (disks v * v.rows) p) p; tally = recorded_tally (tally_of v) })
      (some (calls_left_of (tally_of (checkpointed v))))
  unfolding checkpoint_store
  checkpoint_whole on before after there stored =
      record {
        consistent = consistent_checkpointed v before after p there on stored;
        same_tally = sym (tally_checkpointed v c.is_sound on);
        same_geometry = geometry_checkpointed v ∙ same;
        calls_told = λ _. refl;
      }

  checkpoint_judged : Judgement g v o model told (step_of checkpoint (tally_of v)) (checkpoint_outcome v o)
  unfolding checkpoint_outcome checkpoint_effect checkpoint_store reporting accepted number reported later step_of recording stepped with_save tally_of disks with_pending pending_with
  checkpoint_judged =
      judgement (checkpoint_table v o.byte_count) [] _
      (λ e.
      let f = checkpoint_accepted v o.byte_count e in
      record {
        is_accepted_law = refl;
        whole = λ before after long there stored. up_pending (checkpoint_whole f.0.is_growing before after there stored) _;
        by_store = record { record_down = f.2; blocks_down = f.3; now_pending = refl; a_record = refl; no_save = refl };
        lies = unfold Lies in tt;
      })

  -- advance, by the block that is next
  advance_effect_law : (next : Option ℕ) → next_block (tally_of v) ≡ next → v.growing ≢ 0 → v.pending.records ≡ false
      → (is_none next && v.pending.blocks) ≡ false → Effect g v o model told (advance_step next (tally_of v)) (advancing v next o)
  unfolding advancing telling accepted number reported later advance_step stepped with_save
  advance_effect_law none e on down blocks =
      record {
        is_accepted_law = refl;
        whole = λ before after long there stored. unfold recording tally_of disks in up_pending (checkpoint_whole on before after there stored) _;
        by_store = unfold checkpoint_store recording in
            record { record_down = down; blocks_down = blocks; now_pending = unfold with_pending pending_with in refl; a_record = refl; no_save = refl };
        lies = unfold checkpoint_store Lies in tt;
      }
  advance_effect_law (some x) e on down blocks =
      let f = next_some (tally_of v) x e in
      record {
        is_accepted_law = refl;
        whole = λ before after long there stored. unfold leaving in up_pending (copy_whole on x f.0 f.1 before after there stored) _;
        by_store = copy_stores on down x f.0 f.1;
        lies = copy_lies on x f.0 f.1;
      }

  advance_judged : Judgement g v o model told (step_of advance (tally_of v)) (advance_outcome v o)
  unfolding advance_outcome advance_effect step_of
  advance_judged =
      judgement (advance_table v o.byte_count) [] (advancing v (next_block (tally_of v)) o)
      (λ e. let f = advance_accepted v o.byte_count e in advance_effect_law (next_block (tally_of v)) refl f.0.is_growing f.1 f.2)

  each_judged : (d : Call) → settles d ≡ false → Judgement g v o model told (step_of d (tally_of v)) (call_outcome d v o)
  unfolding call_outcome settles
  each_judged (grow count) s = unfold step_of in grow_judged true count
  each_judged (grow_beyond_doubling count) s = unfold step_of in grow_judged false count
  each_judged (copy x) s = copy_judged x
  each_judged checkpoint s = checkpoint_judged
  each_judged advance s = advance_judged
  each_judged (write x piece) s = write_judged x piece
  each_judged (read x piece) s = read_judged x piece
  each_judged restart s = absurd (true≢false s)
  each_judged flushed s = absurd (true≢false s)

pub call_judged : {g : Geometry} {v : Volume} {o : Observations} {k : Model} {told : Option ℕ} → Up g v o k told → (c : Call) → settles c ≡ false
    → Judgement g v o k told (step_of c k.tally) (call_outcome c v o)
call_judged {g = g} {v = v} {o = o} {k = k} {told = told} u c s =
    subst (λ (k : Model). Judgement g v o k told (step_of c k.tally) (call_outcome c v o)) (λ i. record { plain = k.plain; tally = sym u.same_tally i })
    (each_judged g v o k.plain told u.consistent u.same_geometry u.calls_told c s)
