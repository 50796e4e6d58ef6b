-- What plain volume and tally keep, apart from the text of `Model.antt`: a model that forgets more does not meet `SavesKept`.
-- `proofs/SavesKept.antt` has the proof. What is said of `model_after` holds for every model, with whatever is pending.
use Rattle.std.specs.Prelude.{ℕ, ◌*◌, ◌≤◌, ◌<◌, ◌≡◌, true, false, List}
use Rattle.std.proofs.Math.Option.{Option, none, some}
use Rattle.layout.specs.History.{disk_count}
use Rattle.layout.specs.Tally.{is_running, Tally, window_full, last_window}
use Rattle.promise.specs.Calls.{Call, checkpoint, advance, write, restart, flushed, CutLeft, same_record, record_old, record_new, ended, cut_in}
use Rattle.promise.specs.Model.{step_of, Model, start_model, CachedModel, is_saved, model_after}

-- the block that a call saves
pub data Saves : (c : Call) (x : ℕ) → Type 0 where
  a_write : {x : ℕ} {piece : List ℕ} → Saves (write x piece) x

-- the calls that may finish a growth
pub data MayFinish : (c : Call) → Type 0 where
  a_checkpoint : MayFinish checkpoint
  an_advance : MayFinish advance

-- the calls after which nothing is pending (document 02, W4: "since the last flushed or restart")
pub data Settles : (c : Call) → Type 0 where
  a_restart : Settles restart
  a_flushed : Settles flushed

-- with the call that a cut fell in, "as if it was" made
unfoldable pub made : (c : Option Call) (k : CachedModel) → CachedModel
made none k = k
made (some c) k = model_after (ended c true) k

-- the blocks written since the last flushed or restart are unset, and all else is as it was
pub record KeptButWritten (k : CachedModel) (before after : Model) : Type 0 where
  pub same_tally : after.tally ≡ before.tally
  pub same_open : after.plain.blocks ≡ before.plain.blocks
  pub others_kept : (x : ℕ) → k.written x ≡ false → after.plain.bytes x ≡ before.plain.bytes x
  pub written_unset : (x : ℕ) → k.written x ≡ true → after.plain.bytes x ≡ none

pub record SavesKept : Type 0 where
  -- "Accepted format: N[0]·s unset blocks."
  pub start_open : (s n : ℕ) → (start_model s n).plain.blocks ≡ n * s
  -- "All else, refused calls too, changes nothing in it."
  pub refused_keeps : (c : Call) (k : CachedModel) → model_after (ended c false) k ≡ k
  -- "Accepted write: the block holds the piece."
  pub write_sets : (x : ℕ) (piece : List ℕ) (k : CachedModel) → (model_after (ended (write x piece) true) k).current.plain.bytes x ≡ some piece
  -- "Nothing else but a cut changes it.": only a write saves, and no open block changes but the one that it saves
  pub only_writes_save : (c : Call) (t : Tally) (x : ℕ) → (Saves c x → ⊥) → is_saved (step_of c t).save x ≡ false
  pub accepted_keeps : (c : Call) (k : CachedModel) (x : ℕ) → x < k.current.plain.blocks → (Saves c x → ⊥)
      → (model_after (ended c true) k).current.plain.bytes x ≡ k.current.plain.bytes x
  -- "A growth finished in the tally: (m+n)·s open, the added ones unset."; while it runs no more and no fewer are open than before
  pub open_kept : (c : Call) (k : CachedModel) → (MayFinish c → ⊥) → (model_after (ended c true) k).current.plain.blocks ≡ k.current.plain.blocks
  pub open_running : (c : Call) (k : CachedModel) → is_running (model_after (ended c true) k).current.tally.mode ≡ true
      → (model_after (ended c true) k).current.plain.blocks ≡ k.current.plain.blocks
  pub open_finished : (c : Call) (k : CachedModel) → is_running k.current.tally.mode ≡ true → is_running (model_after (ended c true) k).current.tally.mode ≡ false
      → (model_after (ended c true) k).current.plain.blocks ≡ disk_count k.current.tally.counts * k.current.tally.rows
  pub added_unset : (c : Call) (k : CachedModel) → is_running k.current.tally.mode ≡ true → is_running (model_after (ended c true) k).current.tally.mode ≡ false
      → (x : ℕ) → k.current.plain.blocks ≤ x → (model_after (ended c true) k).current.plain.bytes x ≡ none
  -- "every block written since": what was saved since the last flushed or restart, and nothing else
  pub settled_none : (c : Call) (k : CachedModel) → Settles c → (x : ℕ) → (model_after (ended c true) k).written x ≡ false
  pub save_written : (c : Call) (k : CachedModel) (x : ℕ) → Saves c x → (model_after (ended c true) k).written x ≡ true
  pub written_kept : (c : Call) (k : CachedModel) (x : ℕ) → (Settles c → ⊥) → (Saves c x → ⊥) → (model_after (ended c true) k).written x ≡ k.written x
  -- "A record store leaves the old record, as if the call was never made": what is taken back is the model before that call
  pub taken_back : (c : Call) (k : CachedModel) (o : Model) → k.before_record ≡ none → (model_after (ended c true) k).before_record ≡ some o → o ≡ k.current
  -- a cut keeps every other block, as the record that it leaves has it (where no record store is pending nothing is taken back); and nothing is
  -- pending then
  pub cut_same : (c : Option Call) (k : CachedModel) → KeptButWritten (made c k) k.current (model_after (cut_in c same_record) k).current
  pub cut_new : (c : Option Call) (k : CachedModel) → KeptButWritten (made c k) (made c k).current (model_after (cut_in c record_new) k).current
  pub cut_old : (c : Option Call) (k : CachedModel) (o : Model) → (made c k).before_record ≡ some o → KeptButWritten (made c k) o (model_after (cut_in c record_old) k).current
  pub cut_old_none : (c : Option Call) (k : CachedModel) → (made c k).before_record ≡ none → KeptButWritten (made c k) k.current (model_after (cut_in c record_old) k).current
  pub cut_settles : (c : Option Call) (left : CutLeft) (k : CachedModel) (x : ℕ) → (model_after (cut_in c left) k).written x ≡ false
  pub cut_record : (c : Option Call) (left : CutLeft) (k : CachedModel) → (model_after (cut_in c left) k).before_record ≡ none
  -- the tally: "at w = R the growth is finished", so where the last window is full and not before; "only the recorded blocks are copied" after restart
  pub finished_last : (c : Call) (t : Tally) → is_running t.mode ≡ true → is_running (step_of c t).tally.mode ≡ false → (window_full t ≡ true) × (last_window t ≡ true)
  pub restart_recorded : (t : Tally) (x : ℕ) → (step_of restart t).tally.copied x ≡ t.recorded x
