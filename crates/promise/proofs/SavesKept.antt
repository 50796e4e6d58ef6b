-- What plain volume and tally keep: `saves_kept`.
use Prim.Native.Nat.{ℕ, ◌*◌, ◌≤◌, ◌<◌}
use mathlib.Core.Path.{◌≡◌, refl, sym, ap, ◌∙◌, subst}
use mathlib.Core.Bool.{Bool, true, false, cond, ◌&&◌, false≢true}
use mathlib.Core.List.{List}
use mathlib.Core.Option.{Option, none, some}
use lib.Dec.{eqb}
use borrow.Author.Tests.{lt-ltb, le-ltb, eq-eqb, eqb-true}
use Rattle.base.proofs.Booleans.{by_test, clash}
use Rattle.layout.specs.History.{disk_count}
use Rattle.layout.specs.Tally.{is_running, Tally, next_block, window_full, last_window}
use Rattle.promise.specs.Calls.{Call, grow, grow_beyond_doubling, copy, checkpoint, advance, write, read, restart, flushed, settles, CutLeft, same_record, record_old, record_new, ended, cut_in}
use Rattle.promise.specs.Model.{no_block, grown_tally, with_blocks, copied_tally, next_window_tally, finished_tally, recorded_tally, restarted_tally, checkpoint_finishes, Step, leaving, saving, recording, copying, checkpointing, advance_step, step_of, PlainVolume, start_plain, with_save, with_added, unset, Model, start_model, stepped, accepting, CachedModel, nothing_pending, is_saved, with_step, following, with_call, left_model, after_cut, model_after}
use Rattle.promise.specs.SavesKept.{Saves, a_write, MayFinish, a_checkpoint, an_advance, Settles, a_restart, a_flushed, made, KeptButWritten, SavesKept}

-- ---- the steps of calls

only_writes_save : (c : Call) (t : Tally) (x : ℕ) → (Saves c x → ⊥) → is_saved (step_of c t).save x ≡ false
unfolding step_of recording leaving saving is_saved
only_writes_save (grow count) t x other = refl
only_writes_save (grow_beyond_doubling count) t x other = refl
only_writes_save (copy y) t x other = refl
only_writes_save checkpoint t x other = refl
only_writes_save advance t x other = go (next_block t)
  where
    go : (next : Option ℕ) → is_saved (advance_step next t).save x ≡ false
    go none = unfold advance_step recording is_saved in refl
    go (some y) = unfold advance_step leaving is_saved in refl
only_writes_save (write y piece) t x other = by_test (eqb x y) (λ e. absurd (other (subst (λ (z : ℕ). Saves (write y piece) z) (sym (eqb-true x y e)) a_write))) (λ e. e)
only_writes_save (read y piece) t x other = refl
only_writes_save restart t x other = refl
only_writes_save flushed t x other = refl

-- Three kinds of steps: one that leaves the growth as it is, one that begins one, and that of a checkpoint.
pub record SameGrowth (t u : Tally) : Type 0 where
  pub same_mode : u.mode ≡ t.mode
  pub same_counts : u.counts ≡ t.counts
  pub same_rows : u.rows ≡ t.rows

pub data Kind (c : Call) (t : Tally) : Step → Type 0 where
  stays : (u : Tally) (save : Option (ℕ × List ℕ)) → SameGrowth t u → Kind c t (record { tally = u; finishes = false; save = save; stores_record = false })
  begins : (count : ℕ) → Kind c t (recording (grown_tally count t) false)
  checkpoints : MayFinish c → Kind c t (checkpointing t)

blocks_stay : (t : Tally) (copied recorded : ℕ → Bool) → SameGrowth t (with_blocks t copied recorded)
unfolding with_blocks
blocks_stay t copied recorded = record { same_mode = refl; same_counts = refl; same_rows = refl }

copy_stays : (c : Call) (x : ℕ) (t : Tally) → Kind c t (copying x t)
unfolding leaving saving copied_tally
copy_stays c x t = stays (copied_tally x t) _ (blocks_stay t _ _)

pub kind_of : (c : Call) (t : Tally) → Kind c t (step_of c t)
unfolding step_of leaving saving restarted_tally
kind_of (grow count) t = begins count
kind_of (grow_beyond_doubling count) t = begins count
kind_of (copy x) t = copy_stays (copy x) x t
kind_of checkpoint t = checkpoints a_checkpoint
kind_of advance t = by (next_block t)
  where
    by : (next : Option ℕ) → Kind advance t (advance_step next t)
    by none = unfold advance_step in checkpoints an_advance
    by (some x) = unfold advance_step in copy_stays advance x t
kind_of (write x piece) t = stays t (some (x, piece)) (record { same_mode = refl; same_counts = refl; same_rows = refl })
kind_of (read x piece) t = stays t none (record { same_mode = refl; same_counts = refl; same_rows = refl })
kind_of restart t = stays (restarted_tally t) none (blocks_stay t _ _)
kind_of flushed t = stays t none (record { same_mode = refl; same_counts = refl; same_rows = refl })

-- whether a growth runs after a checkpoint
mode_recorded : (full last : Bool) (t : Tally)
    → is_running (cond full (cond last (finished_tally t) (next_window_tally t)) (with_blocks t t.copied t.copied)).mode ≡ cond (full && last) false (is_running t.mode)
unfolding finished_tally next_window_tally with_blocks
mode_recorded true true t = refl
mode_recorded true false t = refl
mode_recorded false last t = refl

-- a step that does not finish a growth, and one that does
module _ (c : Call) (t : Tally) where
  running_on : (step : Step) → Kind c t step → is_running step.tally.mode ≡ true → step.finishes ≡ false
  unfolding recording recorded_tally checkpoint_finishes
  running_on step (stays u save same) on = refl
  running_on step (begins count) on = refl
  running_on step (checkpoints may) on =
      by_test (window_full t && last_window t)
      (λ e. absurd (false≢true (sym (mode_recorded (window_full t) (last_window t) t ∙ ap (λ (b : Bool). cond b false (is_running t.mode)) e) ∙ on))) (λ e. e)

  over_then : (step : Step) → Kind c t step → is_running t.mode ≡ true → is_running step.tally.mode ≡ false → step.finishes ≡ true
  unfolding recording recorded_tally checkpoint_finishes grown_tally
  over_then step (stays u save same) on off = absurd (false≢true (sym off ∙ (ap is_running same.same_mode ∙ on)))
  over_then step (begins count) on off = absurd (false≢true (sym off))
  over_then step (checkpoints may) on off =
      by_test (window_full t && last_window t) (λ e. e)
      (λ e. absurd (false≢true (sym off ∙ (mode_recorded (window_full t) (last_window t) t ∙ (ap (λ (b : Bool). cond b false (is_running t.mode)) e ∙ on)))))

  no_end : (step : Step) → Kind c t step → (MayFinish c → ⊥) → step.finishes ≡ false
  unfolding recording
  no_end step (stays u save same) other = refl
  no_end step (begins count) other = refl
  no_end step (checkpoints may) other = absurd (other may)

-- ---- the model after an accepted call

current_by : (settled : Bool) (o : Model) (k : CachedModel) → k.current ≡ o → (cond settled (nothing_pending o) k).current ≡ o
unfolding nothing_pending
current_by true o k e = refl
current_by false o k e = e

current_after : (c : Call) (k : CachedModel) → (model_after (ended c true) k).current ≡ stepped (step_of c k.current.tally) k.current
unfolding model_after following accepting with_step
current_after c k = current_by (settles c) _ _ refl

-- the open blocks after a step, and their bytes
blocks_kept : (step : Step) (o : Model) → step.finishes ≡ false → (stepped step o).plain.blocks ≡ o.plain.blocks
unfolding stepped
blocks_kept step o e = rw e (go step.save)
  where
    go : (save : Option (ℕ × List ℕ)) → (with_save save o.plain).blocks ≡ o.plain.blocks
    go none = unfold with_save in refl
    go (some w) = unfold with_save in refl

blocks_added : (step : Step) (o : Model) → step.finishes ≡ true
    → (stepped step o).plain ≡ with_added (disk_count o.tally.counts * o.tally.rows) o.plain
unfolding stepped
blocks_added step o e = rw e refl

saved_other : (save : Option (ℕ × List ℕ)) (p : PlainVolume) (x : ℕ) → is_saved save x ≡ false → (with_save save p).bytes x ≡ p.bytes x
unfolding with_save is_saved
saved_other none p x e = refl
saved_other (some w) p x e = rw e refl

-- ---- the laws

accepted_keeps : (c : Call) (k : CachedModel) (x : ℕ) → x < k.current.plain.blocks → (Saves c x → ⊥)
    → (model_after (ended c true) k).current.plain.bytes x ≡ k.current.plain.bytes x
unfolding stepped
accepted_keeps c k x below other = rw (current_after c k) (by step.finishes)
  where
    step : Step
    step = step_of c k.current.tally

    by : (finishes : Bool)
        → (cond finishes (with_added (disk_count k.current.tally.counts * k.current.tally.rows) k.current.plain) (with_save step.save k.current.plain)).bytes x
        ≡ k.current.plain.bytes x
    by true = unfold with_added in rw (lt-ltb x k.current.plain.blocks below) refl
    by false = saved_other step.save k.current.plain x (only_writes_save c k.current.tally x other)

write_sets : (x : ℕ) (piece : List ℕ) (k : CachedModel) → (model_after (ended (write x piece) true) k).current.plain.bytes x ≡ some piece
unfolding model_after following settles with_step stepped step_of saving with_save
write_sets x piece k = rw (eq-eqb x x refl) refl

open_kept : (c : Call) (k : CachedModel) → (MayFinish c → ⊥) → (model_after (ended c true) k).current.plain.blocks ≡ k.current.plain.blocks
open_kept c k other = rw (current_after c k) (blocks_kept (step_of c k.current.tally) k.current (no_end c k.current.tally _ (kind_of c k.current.tally) other))

pub tally_after : (c : Call) (k : CachedModel) → (model_after (ended c true) k).current.tally ≡ (step_of c k.current.tally).tally
tally_after c k = rw (current_after c k) (unfold stepped in refl)

open_running : (c : Call) (k : CachedModel) → is_running (model_after (ended c true) k).current.tally.mode ≡ true
    → (model_after (ended c true) k).current.plain.blocks ≡ k.current.plain.blocks
open_running c k on =
    rw (current_after c k)
    (blocks_kept (step_of c k.current.tally) k.current
    (running_on c k.current.tally _ (kind_of c k.current.tally) (sym (ap (λ (t : Tally). is_running t.mode) (tally_after c k)) ∙ on)))

finishes_after : (c : Call) (k : CachedModel) → is_running k.current.tally.mode ≡ true → is_running (model_after (ended c true) k).current.tally.mode ≡ false
    → (model_after (ended c true) k).current.plain ≡ with_added (disk_count k.current.tally.counts * k.current.tally.rows) k.current.plain
finishes_after c k on off =
    rw (current_after c k)
    (blocks_added (step_of c k.current.tally) k.current
    (over_then c k.current.tally _ (kind_of c k.current.tally) on (sym (ap (λ (t : Tally). is_running t.mode) (tally_after c k)) ∙ off)))

open_finished : (c : Call) (k : CachedModel) → is_running k.current.tally.mode ≡ true → is_running (model_after (ended c true) k).current.tally.mode ≡ false
    → (model_after (ended c true) k).current.plain.blocks ≡ disk_count k.current.tally.counts * k.current.tally.rows
open_finished c k on off = rw (finishes_after c k on off) (unfold with_added in refl)

added_unset : (c : Call) (k : CachedModel) → is_running k.current.tally.mode ≡ true → is_running (model_after (ended c true) k).current.tally.mode ≡ false
    → (x : ℕ) → k.current.plain.blocks ≤ x → (model_after (ended c true) k).current.plain.bytes x ≡ none
added_unset c k on off x h = rw (finishes_after c k on off) (unfold with_added in rw (le-ltb x k.current.plain.blocks h) refl)

settled_none : (c : Call) (k : CachedModel) → Settles c → (x : ℕ) → (model_after (ended c true) k).written x ≡ false
unfolding model_after following settles nothing_pending no_block
settled_none c k a_restart x = refl
settled_none c k a_flushed x = refl

save_written : (c : Call) (k : CachedModel) (x : ℕ) → Saves c x → (model_after (ended c true) k).written x ≡ true
unfolding model_after following settles with_step step_of saving is_saved
save_written c k x a_write = rw (eq-eqb x x refl) refl

not_settled : (c : Call) → (Settles c → ⊥) → settles c ≡ false
unfolding settles
not_settled (grow count) other = refl
not_settled (grow_beyond_doubling count) other = refl
not_settled (copy x) other = refl
not_settled checkpoint other = refl
not_settled advance other = refl
not_settled (write x piece) other = refl
not_settled (read x piece) other = refl
not_settled restart other = absurd (other a_restart)
not_settled flushed other = absurd (other a_flushed)

written_kept : (c : Call) (k : CachedModel) (x : ℕ) → (Settles c → ⊥) → (Saves c x → ⊥) → (model_after (ended c true) k).written x ≡ k.written x
unfolding model_after following with_step
written_kept c k x unsettled other = rw (not_settled c unsettled) (rw (only_writes_save c k.current.tally x other) refl)

before_by : (settled : Bool) (o : Model) (k : CachedModel) → (cond settled (nothing_pending o) k).before_record ≡ cond settled none k.before_record
unfolding nothing_pending
before_by true o k = refl
before_by false o k = refl

pub before_after : (c : Call) (k : CachedModel)
    → (model_after (ended c true) k).before_record ≡ cond (settles c) none (cond (step_of c k.current.tally).stores_record (some k.current) k.before_record)
unfolding model_after following with_step
before_after c k = before_by (settles c) _ _

taken_by : (settled stores : Bool) (before : Option Model) (o current : Model) → before ≡ none
    → cond settled none (cond stores (some current) before) ≡ some o → o ≡ current
taken_by true stores before o current e f = cc
taken_by false true before o current e f = cc
taken_by false false before o current e f = cc

taken_back : (c : Call) (k : CachedModel) (o : Model) → k.before_record ≡ none → (model_after (ended c true) k).before_record ≡ some o → o ≡ k.current
taken_back c k o e f = taken_by (settles c) (step_of c k.current.tally).stores_record k.before_record o k.current e (sym (before_after c k) ∙ f)

cut_keeps : (k : CachedModel) (o : Model) → KeptButWritten k o (record { plain = unset k.written o.plain; tally = o.tally })
unfolding unset
cut_keeps k o =
    record {
      same_tally = refl;
      same_open = refl;
      others_kept = λ x e. rw e refl;
      written_unset = λ x e. rw e refl;
    }

made_same : (c : Option Call) (k : CachedModel) → with_call c k ≡ made c k
unfolding made with_call model_after
made_same none k = refl
made_same (some c) k = refl

-- by the record that it leaves
cut_same : (c : Option Call) (k : CachedModel) → KeptButWritten (made c k) k.current (model_after (cut_in c same_record) k).current
unfolding model_after nothing_pending after_cut left_model
cut_same c k = rw (sym (made_same c k)) (cut_keeps (with_call c k) k.current)

cut_new : (c : Option Call) (k : CachedModel) → KeptButWritten (made c k) (made c k).current (model_after (cut_in c record_new) k).current
unfolding model_after nothing_pending after_cut left_model
cut_new c k = rw (sym (made_same c k)) (cut_keeps (with_call c k) (with_call c k).current)

cut_old : (c : Option Call) (k : CachedModel) (o : Model) → (made c k).before_record ≡ some o → KeptButWritten (made c k) o (model_after (cut_in c record_old) k).current
unfolding model_after nothing_pending after_cut left_model with_call
cut_old c k o e =
    let f : (with_call c k).before_record ≡ some o = ap (λ (l : CachedModel). l.before_record) (made_same c k) ∙ e in
    rw (sym (made_same c k)) (rw f (cut_keeps (with_call c k) o))

cut_old_none : (c : Option Call) (k : CachedModel) → (made c k).before_record ≡ none → KeptButWritten (made c k) k.current (model_after (cut_in c record_old) k).current
unfolding model_after nothing_pending after_cut left_model with_call
cut_old_none c k e =
    let f : (with_call c k).before_record ≡ none = ap (λ (l : CachedModel). l.before_record) (made_same c k) ∙ e in
    rw (sym (made_same c k)) (rw f (cut_keeps (with_call c k) k.current))

cut_settles : (c : Option Call) (left : CutLeft) (k : CachedModel) (x : ℕ) → (model_after (cut_in c left) k).written x ≡ false
unfolding model_after nothing_pending no_block
cut_settles c left k x = refl

cut_record : (c : Option Call) (left : CutLeft) (k : CachedModel) → (model_after (cut_in c left) k).before_record ≡ none
unfolding model_after nothing_pending
cut_record c left k = refl

start_open : (s n : ℕ) → (start_model s n).plain.blocks ≡ n * s
unfolding start_model start_plain
start_open s n = refl

refused_keeps : (c : Call) (k : CachedModel) → model_after (ended c false) k ≡ k
unfolding model_after
refused_keeps c k = refl

-- ---- the tally

finished_last : (c : Call) (t : Tally) → is_running t.mode ≡ true → is_running (step_of c t).tally.mode ≡ false → (window_full t ≡ true) × (last_window t ≡ true)
unfolding recording recorded_tally grown_tally next_window_tally with_blocks
finished_last c t on = by (step_of c t) (kind_of c t)
  where
    recorded : (full last : Bool)
        → is_running (cond full (cond last (finished_tally t) (next_window_tally t)) (with_blocks t t.copied t.copied)).mode ≡ false → (full ≡ true) × (last ≡ true)
    recorded true true off = (refl, refl)
    recorded true false off = clash on off
    recorded false last off = clash on off

    by : (step : Step) → Kind c t step → is_running step.tally.mode ≡ false → (window_full t ≡ true) × (last_window t ≡ true)
    by step (stays u save same) off = clash (ap is_running same.same_mode ∙ on) off
    by step (begins count) off = absurd (false≢true (sym off))
    by step (checkpoints may) off = recorded (window_full t) (last_window t) off

restart_recorded : (t : Tally) (x : ℕ) → (step_of restart t).tally.copied x ≡ t.recorded x
unfolding step_of leaving restarted_tally with_blocks
restart_recorded t x = refl

pub saves_kept : SavesKept
saves_kept =
    record {
      start_open = start_open;
      refused_keeps = refused_keeps;
      write_sets = write_sets;
      only_writes_save = only_writes_save;
      accepted_keeps = accepted_keeps;
      open_kept = open_kept;
      open_running = open_running;
      open_finished = open_finished;
      added_unset = added_unset;
      settled_none = settled_none;
      save_written = save_written;
      written_kept = written_kept;
      taken_back = taken_back;
      cut_same = cut_same;
      cut_new = cut_new;
      cut_old = cut_old;
      cut_old_none = cut_old_none;
      cut_settles = cut_settles;
      cut_record = cut_record;
      finished_last = finished_last;
      restart_recorded = restart_recorded;
    }
