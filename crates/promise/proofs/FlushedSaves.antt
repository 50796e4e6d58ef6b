-- A save that is flushed and not saved again is read back: `flushed_saves`, from `SavesKept` and demand 3.
use Prim.Native.Nat.{ℕ, ◌*◌, ◌≤◌, ◌<◌}
use mathlib.Core.Path.{◌≡◌, refl, sym, ap, ◌∙◌, subst}
use mathlib.Core.Bool.{Bool, true, false, cond, true≢false, false≢true}
use mathlib.Core.List.{List, [], ◌∷◌, ◌++◌}
use mathlib.Core.Logic.{inl}
use mathlib.Core.Option.{Option, none, some, none-ne-some, some-injective}
use native.Mathlib.Omega.{arith}
use lib.ListN.{length}
use Rattle.base.specs.Refusals.{refusal}
use Rattle.base.proofs.Booleans.{by_test}
use Rattle.layout.specs.History.{disk_count}
use Rattle.layout.specs.Tally.{is_running, Tally, open_blocks, window_full, last_window}
use Rattle.layout.proofs.Theorems.{old_among}
use Rattle.medium.specs.declared.Geometry.{Geometry}
use Rattle.medium.specs.Medium.{Observations, observe}
use Rattle.volume.specs.declared.Volume.{Volume}
use Rattle.volume.specs.Answers.{accepted}
use Rattle.volume.specs.Calls.{write_table, write_outcome}
use Rattle.volume.proofs.Accepted.{write_accepted}
use Rattle.volume.proofs.Theorems.{volume_laws}
use Rattle.promise.specs.Calls.{Call, write, read, restart, flushed, settles, CutLeft, same_record, record_old, record_new, ended, cut_in}
use Rattle.promise.specs.Lists.{call_outcome, Event, runs, cut, Drives, System, up, down, memory_of, cut_left, outcome, is_accepted, after, Allowed, Lawful, NoEarlyCut, fed, fed_all, heard, IsUp}
use Rattle.promise.specs.Model.{no_block, grown_tally, with_blocks, next_window_tally, finished_tally, recorded_tally, restarted_tally, recording, leaving, Step, step_of, Model, CachedModel, nothing_pending, with_step, following, model_after, modelled}
use Rattle.promise.specs.Promise.{Start, formatted, begin, system_after, model_of, ReadRight}
use Rattle.promise.specs.WithoutCache.{ends, flushed_after, from_format}
use Rattle.promise.specs.SavesKept.{Saves, a_write, a_flushed, made, KeptButWritten}
use Rattle.promise.specs.CoveredLists.{CallsOnly, no_call, one_more}
use Rattle.promise.specs.FlushedSaves.{Spares, AllSpare, saved_and_flushed, GivesPiece, FlushedSaves, SavesWithoutCache}
use Rattle.volume.proofs.Judged.{accepted_number}
use Rattle.promise.proofs.Tallies.{Stage, running, resting, open_growing}
use Rattle.promise.proofs.StateTallies.{stage_of}
use Rattle.promise.proofs.PendingStores.{seen, Live}
use Rattle.promise.proofs.EventSteps.{Invariant, Next, keeps, runs_keeps, flushed_keeps, settling_accepted, seen_medium}
use Rattle.promise.proofs.Theorem.{lawful_before, lawful_rest, early_before, invariant_after, modelled_append, start_geometry, start_cached, cached_after, promise}
use Rattle.promise.proofs.WithoutCache.{from_append}
use Rattle.promise.proofs.CoveredLists.{early_lists_covered, lists_covered}
use Rattle.promise.proofs.SavesKept.{Kind, stays, begins, checkpoints, kind_of, tally_after, before_after, saves_kept}

-- ---- how many blocks are open

-- a step after which no growth runs leaves the disks and the rows
disks_kept : (c : Call) (t : Tally) (step : Step) → Kind c t step → is_running step.tally.mode ≡ false
    → disk_count step.tally.counts * step.tally.rows ≡ disk_count t.counts * t.rows
unfolding recording grown_tally recorded_tally finished_tally next_window_tally with_blocks
disks_kept c t step (stays u save same) off = λ i. disk_count (same.same_counts i) * same.same_rows i
disks_kept c t step (begins count) off = absurd (false≢true (sym off))
disks_kept c t step (checkpoints may) off = by (window_full t) (last_window t)
  where
    by : (full last : Bool) → (let u = cond full (cond last (finished_tally t) (next_window_tally t)) (with_blocks t t.copied t.copied) in
        disk_count u.counts * u.rows ≡ disk_count t.counts * t.rows)
    by true true = refl
    by true false = refl
    by false last = refl

-- the open blocks are among those of all disks
open_among : (t : Tally) → Stage t → open_blocks t ≤ disk_count t.counts * t.rows
open_among t (running r) = rw (open_growing t r.is_growing) (old_among t.rows t.counts r.rise r.some_old)
open_among t (resting r) = unfold open_blocks in rw r.is_resting (omega arith)

open_resting : (t : Tally) → is_running t.mode ≡ false → open_blocks t ≡ disk_count t.counts * t.rows
unfolding open_blocks
open_resting t off = rw off refl

-- an accepted call leaves each open block open
still_open : (c : Call) (k : CachedModel) → Stage k.current.tally → k.current.plain.blocks ≡ open_blocks k.current.tally
    → (model_after (ended c true) k).current.plain.blocks ≡ open_blocks (model_after (ended c true) k).current.tally
    → (x : ℕ) → x < k.current.plain.blocks → x < (model_after (ended c true) k).current.plain.blocks
still_open c k stage before after x below =
    by_test (is_running (model_after (ended c true) k).current.tally.mode) (λ on. rw (saves_kept.open_running c k on) below)
    (λ off.
    let all : (model_after (ended c true) k).current.plain.blocks ≡ disk_count k.current.tally.counts * k.current.tally.rows =
    after ∙ open_resting _ off
    ∙ ap (λ (u : Tally). disk_count u.counts * u.rows) (tally_after c k)
    ∙ disks_kept c k.current.tally _ (kind_of c k.current.tally) (rw (tally_after c k) at off) in
    omega (arith, below, before, open_among k.current.tally stage, all))

-- ---- what the invariant says of open blocks

open_restarted : (t : Tally) → open_blocks (restarted_tally t) ≡ open_blocks t
unfolding open_blocks restarted_tally with_blocks
open_restarted t = refl

open_of : (sure : Bool) (g : Geometry) (s : System) (k : CachedModel) (told : Option ℕ) → Invariant sure g s k told
    → k.current.plain.blocks ≡ open_blocks k.current.tally
open_of sure g (up v d) k told i = i.up.consistent.same_open ∙ ap open_blocks (sym i.up.same_tally)
open_of sure g (down m) k told i =
    i.0.consistent.same_open ∙ ap open_blocks (sym i.0.same_tally) ∙ open_restarted k.current.tally

stage_up : {sure : Bool} {g : Geometry} {v : Volume} {d : Drives} {k : CachedModel} {told : Option ℕ} → Live sure g v d k told → Stage k.current.tally
stage_up {v = v} i = subst Stage (sym i.up.same_tally) (stage_of v i.up.consistent.is_sound)

-- ---- block x holds the piece, whatever a cut leaves

record Holds (x : ℕ) (piece : List ℕ) (o : Model) : Type 0 where
  held : o.plain.bytes x ≡ some piece
  below : x < o.plain.blocks

record Stands (x : ℕ) (piece : List ℕ) (k : CachedModel) : Type 0 where
  now_held : Holds x piece k.current
  not_written : k.written x ≡ false
  old_held : (o : Model) → k.before_record ≡ some o → Holds x piece o

back_by : (P : Model → Type 0) (settled stores : Bool) (before : Option Model) (current o : Model)
    → cond settled none (cond stores (some current) before) ≡ some o → P current → ((p : Model) → before ≡ some p → P p) → P o
back_by P true stores before current o e now old = absurd (none-ne-some o e)
back_by P false true before current o e now old = subst P (some-injective current o e) now
back_by P false false before current o e now old = old o e

module _ (x : ℕ) (piece : List ℕ) where
  holds_after : (c : Call) (k : CachedModel) → (Saves c x → ⊥) → Holds x piece k.current → x < (model_after (ended c true) k).current.plain.blocks
      → Holds x piece (model_after (ended c true) k).current
  holds_after c k spared h below = record { held = saves_kept.accepted_keeps c k x h.below spared ∙ h.held; below = below }

  idle_after : (c : Call) (k : CachedModel) → (Saves c x → ⊥) → k.written x ≡ false → (model_after (ended c true) k).written x ≡ false
  unfolding model_after following nothing_pending no_block with_step
  idle_after c k spared idle =
      by_test (settles c) (λ s. rw s refl) (λ s. rw (s, saves_kept.only_writes_save c k.current.tally x spared) idle)

  old_after : (c : Call) (k : CachedModel) → Stands x piece k → (o : Model) → (model_after (ended c true) k).before_record ≡ some o → Holds x piece o
  old_after c k s o e =
      back_by (Holds x piece) (settles c) (step_of c k.current.tally).stores_record k.before_record k.current o (sym (before_after c k) ∙ e) s.now_held
      s.old_held

  stands_call : (c : Call) (ok : Bool) (k : CachedModel) → (Saves c x → ⊥) → (ok ≡ true → x < (model_after (ended c true) k).current.plain.blocks) → Stands x piece k
      → Stands x piece (model_after (ended c ok) k)
  stands_call c true k spared below s =
      record { now_held = holds_after c k spared s.now_held (below refl); not_written = idle_after c k spared s.not_written; old_held = old_after c k s }
  stands_call c false k spared below s = rw (saves_kept.refused_keeps c k) s

  -- ---- a cut

  kept_holds : (k : CachedModel) (before after : Model) → KeptButWritten k before after → k.written x ≡ false → Holds x piece before → Holds x piece after
  kept_holds k before after kept idle h = record { held = kept.others_kept x idle ∙ h.held; below = rw kept.same_open h.below }

  left_holds : (c : Option Call) (left : CutLeft) (k : CachedModel) → (made c k).written x ≡ false → (left ≡ record_new → Holds x piece (made c k).current)
      → ((o : Model) → (made c k).before_record ≡ some o → Holds x piece o) → Holds x piece k.current → Holds x piece (model_after (cut_in c left) k).current
  left_holds c same_record k idle new old now = kept_holds (made c k) _ _ (saves_kept.cut_same c k) idle now
  left_holds c record_new k idle new old now = kept_holds (made c k) _ _ (saves_kept.cut_new c k) idle (new refl)
  left_holds c record_old k idle new old now = by (made c k).before_record refl
    where
      by : (before : Option Model) → (made c k).before_record ≡ before → Holds x piece (model_after (cut_in c record_old) k).current
      by none e = kept_holds (made c k) _ _ (saves_kept.cut_old_none c k e) idle now
      by (some o) e = kept_holds (made c k) _ _ (saves_kept.cut_old c k o e) idle (old o e)

  stands_cut : (c : Option Call) (left : CutLeft) (k : CachedModel) → Holds x piece (model_after (cut_in c left) k).current → Stands x piece (model_after (cut_in c left) k)
  stands_cut c left k h =
      record {
        now_held = h;
        not_written = saves_kept.cut_settles c left k x;
        old_held = λ o e. absurd (none-ne-some o (sym (saves_kept.cut_record c left k) ∙ e));
      }

  stands_between : (left : CutLeft) (k : CachedModel) → Stands x piece k → Stands x piece (model_after (cut_in none left) k)
  unfolding made
  stands_between left k s = stands_cut none left k (left_holds none left k s.not_written (λ _. s.now_held) s.old_held s.now_held)

  stands_in : (c : Call) (left : CutLeft) (k : CachedModel) → (Saves c x → ⊥) → Stage k.current.tally → k.current.plain.blocks ≡ open_blocks k.current.tally
      → (model_after (cut_in (some c) left) k).current.plain.blocks ≡ open_blocks (model_after (cut_in (some c) left) k).current.tally
      → Stands x piece k → Stands x piece (model_after (cut_in (some c) left) k)
  unfolding made
  stands_in c left k spared stage before after s =
      stands_cut (some c) left k
      (left_holds (some c) left k (idle_after c k spared s.not_written) (λ e. new (rw e at after)) (old_after c k s) s.now_held)
    where
      new : (model_after (cut_in (some c) record_new) k).current.plain.blocks ≡ open_blocks (model_after (cut_in (some c) record_new) k).current.tally
          → Holds x piece (model_after (ended c true) k).current
      new all =
          let kept : KeptButWritten (model_after (ended c true) k) (model_after (ended c true) k).current (model_after (cut_in (some c) record_new) k).current = saves_kept.cut_new (some c) k in
          holds_after c k spared s.now_held
          (still_open c k stage before (sym kept.same_open ∙ all ∙ ap open_blocks kept.same_tally) x s.now_held.below)

  -- ---- one event, and a list, from the flushed on

  next_open : (g : Geometry) (s : System) (k : CachedModel) (told : Option ℕ) (e : Event) → Invariant true g s k told → Allowed call_outcome s e
      → (model_after (fed call_outcome s e) k).current.plain.blocks ≡ open_blocks (model_after (fed call_outcome s e) k).current.tally
  next_open g s k told e i l =
      open_of true g (after call_outcome s e) (model_after (fed call_outcome s e) k) (heard call_outcome s e told) (keeps g k told s e i l)

  abbrev Accepts : (c : Call) (s : System) (k : CachedModel) → Type 0
  Accepts c s k = is_accepted call_outcome c s ≡ true → x < (model_after (ended c true) k).current.plain.blocks

  call_opens : (g : Geometry) (s : System) (k : CachedModel) (told : Option ℕ) (c : Call) → Invariant true g s k told → Allowed call_outcome s (runs c)
      → is_accepted call_outcome c s ≡ true → (model_after (ended c true) k).current.plain.blocks ≡ open_blocks (model_after (ended c true) k).current.tally
  unfolding fed
  call_opens g s k told c i l ok =
      subst (λ (b : Bool). (model_after (ended c b) k).current.plain.blocks ≡ open_blocks (model_after (ended c b) k).current.tally) ok
      (next_open g s k told (runs c) i l)

  -- restart leaves as many open
  restart_opens : (g : Geometry) (m : List ℕ) (k : CachedModel) (told : Option ℕ) → Invariant true g (down m) k told → x < k.current.plain.blocks
      → Accepts restart (down m) k
  unfolding step_of leaving Allowed
  restart_opens g m k told i below ok =
      rw (call_opens g (down m) k told restart i refl ok ∙ ap open_blocks (tally_after restart k) ∙ open_restarted k.current.tally ∙ sym (open_of true g (down m) k told i))
      below

  event_stands : (g : Geometry) (s : System) (k : CachedModel) (told : Option ℕ) (e : Event) → Invariant true g s k told → Allowed call_outcome s e → Spares x e
      → Stands x piece k → Stands x piece (model_after (fed call_outcome s e) k)
  unfolding fed Spares Allowed
  event_stands g (up v d) k told (runs c) i l spared s =
      stands_call c (is_accepted call_outcome c (up v d)) k spared
      (λ ok. still_open c k (stage_up i) (open_of true g (up v d) k told i) (call_opens g (up v d) k told c i l ok) x s.now_held.below) s
  event_stands g (up v d) k told (cut none left) i l spared s = stands_between (cut_left left) k s
  event_stands g (up v d) k told (cut (some c) left) i l spared s =
      stands_in c (cut_left left) k spared (stage_up i) (open_of true g (up v d) k told i) (next_open g (up v d) k told (cut (some c) left) i l) s
  event_stands g (down m) k told (runs c) i l spared s =
      stands_call c (is_accepted call_outcome c (down m)) k spared
      (subst (λ (d : Call). Accepts d (down m) k) (sym l) (restart_opens g m k told i s.now_held.below)) s
  event_stands g (down m) k told (cut c left) i l spared s =
      subst (λ (d : Option Call). Stands x piece (model_after (cut_in d (cut_left left)) k)) (sym l.0) (stands_between (cut_left left) k s)

  all_stand : (g : Geometry) (s : System) (k : CachedModel) (told : Option ℕ) (es : List Event) → Invariant true g s k told → Lawful call_outcome s es → AllSpare x es
      → Stands x piece k → Stands x piece (modelled (fed_all call_outcome s es) k)
  unfolding modelled fed_all Lawful AllSpare
  all_stand g s k told [] i l spared h = h
  all_stand g s k told (e ∷ es) i l spared h =
      all_stand g (after call_outcome s e) (model_after (fed call_outcome s e) k) (heard call_outcome s e told) es (keeps g k told s e i l.0) l.1 spared.1
      (event_stands g s k told e i l.0 spared.0 h)

  -- ---- from the save to the flushed

  saves_settle_nothing : (c : Call) → Saves c x → settles c ≡ false
  unfolding settles
  saves_settle_nothing c a_write = refl

  flushed_spares : Saves flushed x → ⊥
  flushed_spares s = true≢false (unfold settles in saves_settle_nothing flushed s)

  holds_call : (g : Geometry) (v : Volume) (d : Drives) (k : CachedModel) (told : Option ℕ) (sure : Bool) (c : Call) → Live false g v d k told → (Saves c x → ⊥)
      → Next g k told sure (up v d) (runs c) → Holds x piece k.current → Holds x piece (model_after (fed call_outcome (up v d) (runs c)) k).current
  unfolding fed
  holds_call g v d k told sure c i spared next h = by (is_accepted call_outcome c (up v d)) (open_of sure g (after call_outcome (up v d) (runs c)) (model_after (fed call_outcome (up v d) (runs c)) k) (heard call_outcome (up v d) (runs c) told) next)
    where
      by : (ok : Bool) → (model_after (ended c ok) k).current.plain.blocks ≡ open_blocks (model_after (ended c ok) k).current.tally → Holds x piece (model_after (ended c ok) k).current
      by true all = holds_after c k spared h (still_open c k (stage_up i) (open_of false g (up v d) k told i) all x h.below)
      by false all = rw (saves_kept.refused_keeps c k) h

  flushed_stands : (g : Geometry) (v : Volume) (d : Drives) (k : CachedModel) (told : Option ℕ) → Live false g v d k told → Holds x piece k.current
      → Stands x piece (model_after (fed call_outcome (up v d) (runs flushed)) k)
  unfolding fed settles
  flushed_stands g v d k told i h =
      by (is_accepted call_outcome flushed (up v d)) flushed_accepted (holds_call g v d k told true flushed i flushed_spares (flushed_keeps g k told false v d i) h)
    where
      flushed_accepted : is_accepted call_outcome flushed (up v d) ≡ true
      flushed_accepted = unfold outcome memory_of in rw (seen_medium g k told v d i) (settling_accepted false g v d k told i flushed refl)

      by : (ok : Bool) → ok ≡ true → Holds x piece (model_after (ended flushed ok) k).current → Stands x piece (model_after (ended flushed ok) k)
      by true e h =
          record {
            now_held = h;
            not_written = saves_kept.settled_none flushed k a_flushed x;
            old_held = λ o f. absurd (none-ne-some o (sym (before_after flushed k) ∙ f));
          }
      by false e h = absurd (false≢true e)

  stands_to_end : {es : List Event} → CallsOnly es → (rest : List Event) (g : Geometry) (v : Volume) (d : Drives) (k : CachedModel) (told : Option ℕ) → Live false g v d k told
      → Lawful call_outcome (up v d) (es ++ (runs flushed ∷ rest)) → AllSpare x es → AllSpare x rest → Holds x piece k.current
      → Stands x piece (modelled (fed_all call_outcome (up v d) (es ++ (runs flushed ∷ rest))) k)
  unfolding modelled fed_all Lawful AllSpare Spares after
  stands_to_end no_call rest g v d k told i l spared still h =
      all_stand g (after call_outcome (up v d) (runs flushed)) (model_after (fed call_outcome (up v d) (runs flushed)) k) (heard call_outcome (up v d) (runs flushed) told) rest
      (flushed_keeps g k told false v d i) l.1 still (flushed_stands g v d k told i h)
  stands_to_end (one_more {c = c} more) rest g v d k told i l spared still h =
      let next = runs_keeps g k told false v d i c l.0 in
      stands_to_end more rest g _ _ (model_after (fed call_outcome (up v d) (runs c)) k) (heard call_outcome (up v d) (runs c) told) next l.1 spared.1 still
      (holds_call g v d k told false c i spared.0 next h)

  -- ---- the save

  passes : (v : Volume) (o : Observations) → accepted (write_outcome v x piece o).reply.answer ≡ true → refusal (write_table v x (length piece) o.byte_count) ≡ 0
  passes v o ok = sym (volume_laws.write_refuses v x piece o).number_told ∙ accepted_number (write_outcome v x piece o).reply.answer ok

  saved_holds : (g : Geometry) (v : Volume) (d : Drives) (k : CachedModel) (told : Option ℕ) → Live false g v d k told → is_accepted call_outcome (write x piece) (up v d) ≡ true
      → Next g k told false (up v d) (runs (write x piece)) → Holds x piece (model_after (fed call_outcome (up v d) (runs (write x piece))) k).current
  unfolding fed
  saved_holds g v d k told i ok next =
      by (is_accepted call_outcome (write x piece) (up v d)) ok
      (open_of false g (after call_outcome (up v d) (runs (write x piece))) (model_after (fed call_outcome (up v d) (runs (write x piece))) k) (heard call_outcome (up v d) (runs (write x piece)) told) next)
    where
      here : accepted (write_outcome v x piece (observe (seen d))).reply.answer ≡ true
      here = rw (sym (seen_medium g k told v d i)) (unfold outcome memory_of call_outcome in ok)

      below : x < k.current.plain.blocks
      below = rw i.up.consistent.same_open (write_accepted v x (length piece) _ (passes v (observe (seen d)) here)).0.block_open

      by : (b : Bool) → b ≡ true → (model_after (ended (write x piece) b) k).current.plain.blocks ≡ open_blocks (model_after (ended (write x piece) b) k).current.tally
          → Holds x piece (model_after (ended (write x piece) b) k).current
      by true e all =
          record { held = saves_kept.write_sets x piece k; below = still_open (write x piece) k (stage_up i) (open_of false g (up v d) k told i) all x below }
      by false e all = absurd (false≢true e)

  saved_stands : (between rest : List Event) → CallsOnly between → AllSpare x between → AllSpare x rest → (g : Geometry) (s : System) (k : CachedModel) (told : Option ℕ)
      → Invariant false g s k told → Lawful call_outcome s (runs (write x piece) ∷ (between ++ (runs flushed ∷ rest))) → is_accepted call_outcome (write x piece) s ≡ true
      → Stands x piece (modelled (fed_all call_outcome s (runs (write x piece) ∷ (between ++ (runs flushed ∷ rest)))) k)
  unfolding modelled fed_all Lawful Allowed after
  saved_stands between rest only spared still g (up v d) k told i l ok =
      let next = runs_keeps g k told false v d i (write x piece) l.0 in
      stands_to_end only rest g _ _ (model_after (fed call_outcome (up v d) (runs (write x piece))) k) (heard call_outcome (up v d) (runs (write x piece)) told) next l.1 spared still
      (saved_holds g v d k told i ok next)
  saved_stands between rest only spared still g (down m) k told i l ok = absurd (not_restart l.0)
    where
      not_restart : write x piece ≡ restart → ⊥
      not_restart e = false≢true (unfold settles in ap settles e)

-- ---- a read at the end of a list

pub read_at_end : (a : Start) → accepted (formatted a).reply.answer ≡ true → (es : List Event) → Lawful call_outcome (begin a) es → NoEarlyCut es
    → IsUp (system_after call_outcome a es) → (x : ℕ) (piece : List ℕ) → x < (model_of call_outcome a es).plain.blocks → length piece ≡ a.size → ReadRight call_outcome a es x piece
unfolding system_after
read_at_end a ok es l early is_up x piece below whole =
    (promise a ok (es ++ (runs (read x piece) ∷ [])) ((lists_covered call_outcome).a_call (begin a) es l is_up (read x piece) not_restart)
    (early_lists_covered.a_call es early (read x piece))
    ).reads es [] x piece refl below whole
  where
    not_restart : read x piece ≡ restart → ⊥
    not_restart e = false≢true (unfold settles in ap settles e)

pub flushed_saves : FlushedSaves
unfolding saved_and_flushed system_after model_of
flushed_saves a ok before x piece between rest l early saved only spared still is_up into whole =
    let after_save = runs (write x piece) ∷ (between ++ (runs flushed ∷ rest)) in
    let i = invariant_after a ok before (lawful_before call_outcome (begin a) before after_save l) (early_before before after_save early) in
    let s = saved_stands x piece between rest only spared still (start_geometry a) (system_after call_outcome a before) (cached_after a before) _ i (lawful_rest call_outcome (begin a) before after_save l) saved in
    let joined : model_of call_outcome a (before ++ after_save) ≡ (modelled (fed_all call_outcome (system_after call_outcome a before) after_save) (cached_after a before)).current =
    ap (λ (k : CachedModel). k.current) (modelled_append call_outcome (begin a) (start_cached a) before after_save) in
    let r = read_at_end a ok (before ++ after_save) l early is_up x into (rw joined s.now_held.below) whole in
    record { is_accepted_law = r.is_accepted_law; bytes_read = r.bytes_read piece (rw joined s.now_held.held) }

-- ---- drives that keep no store

pub saves_without_cache : SavesWithoutCache
unfolding saved_and_flushed flushed_after from_format NoEarlyCut AllSpare
saves_without_cache a ok before x piece rest l saved spared is_up into whole =
    let joined = from_append before (ends (write x piece) ∷ rest) in
    subst (λ (es : List Event). GivesPiece call_outcome a es x piece into) (sym joined)
    (flushed_saves a ok (from_format before) x piece [] (flushed_after rest) (subst (Lawful call_outcome (begin a)) joined l) (inl refl) saved no_call tt spared
    (subst (λ (es : List Event). IsUp (system_after call_outcome a es)) joined is_up) into whole)
