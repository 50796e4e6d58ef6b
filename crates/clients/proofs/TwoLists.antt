-- The other's calls, and lists of events.
use Prim.Native.Nat.{ℕ}
use mathlib.Core.Path.{◌≡◌, refl, sym, ap, ◌∙◌, subst}
use mathlib.Core.Bool.{Bool, true, false, true≢false, false≢true}
use mathlib.Core.List.{List, [], ◌∷◌}
use mathlib.Core.Option.{Option}
use lib.ListN.{length}
use Rattle.medium.specs.declared.Geometry.{Geometry}
use Rattle.medium.specs.Medium.{Observations, observe, no_store, AfterCut, apply_all, also_pending}
use Rattle.volume.specs.declared.Volume.{Volume}
use Rattle.volume.specs.declared.Reply.{Reply}
use Rattle.volume.specs.declared.Told.{Told}
use Rattle.volume.specs.Answers.{accepted, number}
use Rattle.volume.specs.Calls.{Outcome, refused, doing, read_table, read_effect, read_outcome, write_table, write_effect, write_outcome, flushed_effect}
use Rattle.volume.specs.Records.{numbers_of, record_of}
use Rattle.volume.specs.States.{none_pending, pending_with, with_pending}
use Rattle.volume.proofs.Judged.{judged_cases}
use Rattle.promise.specs.Calls.{Call, write, read, restart, flushed, settles, ended}
use Rattle.promise.specs.Lists.{call_outcome, Event, runs, cut, Drives, System, up, down, drives_of, memory_of, medium_of, IsUp, cut_left, outcome, is_accepted, drives_after, after, Allowed, fed, after_all, Lawful, fed_all}
use Rattle.promise.specs.Model.{CachedModel, model_after, modelled}
use Rattle.promise.proofs.PendingStores.{seen, Live}
use Rattle.promise.proofs.EventSteps.{Invariant, flushed_found}
use Rattle.clients.proofs.VolumeRuns.{Agree, no_event, both_call, both_cut, both_flushed, first_reads, second_reads, no_write, a_write}
use Rattle.clients.proofs.Outcomes.{Same}
use Rattle.clients.proofs.Models as models
use Rattle.clients.proofs.Models.{CachedAlike}
use Rattle.clients.proofs.Systems.{Ready, ready_now, ready_cut, ready_next, Alike, same_of, seen_same, same_accepted, runs_alike, cut_alike, runs_long}

-- ---- a read changes nothing

read_state : (v : Volume) (x : ℕ) (piece : List ℕ) (o : Observations) → ((read_outcome v x piece o).reply.state ≡ v) × ((read_outcome v x piece o).store ≡ no_store)
unfolding read_outcome read_effect doing refused with_pending pending_with
read_state v x piece o =
    judged_cases (λ (out : Outcome). (out.reply.state ≡ v) × (out.store ≡ no_store)) (read_table v x (length piece) o.byte_count) (λ n. refused v n piece) _
    (λ _. (refl, refl)) (λ _. (refl, refl))

pub read_nothing : (v : Volume) (d : Drives) (x : ℕ) (piece : List ℕ) → after call_outcome (up v d) (runs (read x piece)) ≡ up v d
unfolding after drives_after outcome call_outcome memory_of drives_of settles
read_nothing v d x piece =
    let r = read_state v x piece (observe (medium_of (up v d))) in
    rw (r.0, r.1) (unfold also_pending in refl)

-- ---- a write changes only what is pending

write_state : (v : Volume) (x : ℕ) (piece : List ℕ) (o : Observations) → with_pending (write_outcome v x piece o).reply.state none_pending ≡ with_pending v none_pending
unfolding write_outcome write_effect doing refused with_pending
write_state v x piece o =
    judged_cases (λ (out : Outcome). with_pending out.reply.state none_pending ≡ with_pending v none_pending) (write_table v x (length piece) o.byte_count)
    (λ n. refused v n piece) _ (λ _. refl) (λ _. refl)

-- alike but for what is pending
pub record Near (s t : System) : Type 0 where
  pub memory : with_pending (memory_of s) none_pending ≡ with_pending (memory_of t) none_pending
  pub long : length (medium_of s) ≡ length (medium_of t)

near_flip : (s t : System) → Near s t → Near t s
near_flip s t a = record { memory = sym a.memory; long = sym a.long }

near_join : (s t u : System) → Near s t → Near t u → Near s u
near_join s t u a b = record { memory = a.memory ∙ b.memory; long = a.long ∙ b.long }

near_alike : (s t : System) → Alike s t → Near s t
near_alike s t a = record { memory = ap (λ (v : Volume). with_pending v none_pending) a.memory; long = a.long }

near_write : (s : System) (x : ℕ) (piece : List ℕ) → Near (after call_outcome s (runs (write x piece))) s
near_write s x piece =
    record {
      memory = unfold after memory_of outcome call_outcome in write_state (memory_of s) x piece (observe (medium_of s));
      long = runs_long (write x piece) s;
    }

-- ---- and flushed makes them alike

flushed_is : (g : Geometry) (v : Volume) (d : Drives) (k : CachedModel) (told : Option ℕ) → Live false g v d k told
    → (after call_outcome (up v d) (runs flushed) ≡ up (with_pending v none_pending) (record { landed = seen d; pending = [] }))
    × (is_accepted call_outcome flushed (up v d) ≡ true)
unfolding after drives_after outcome call_outcome memory_of drives_of medium_of settles
flushed_is g v d k told i =
    rw (flushed_found false g v d k told i) (unfold flushed_effect doing with_pending pending_with accepted number in (refl, refl))

both_flush : (v w : Volume) (m n : List ℕ) → with_pending v none_pending ≡ with_pending w none_pending → Same (observe m) (observe n)
    → Alike (up (with_pending v none_pending) (record { landed = m; pending = [] })) (up (with_pending w none_pending) (record { landed = n; pending = [] }))
both_flush v w m n e a =
    unfold memory_of drives_of medium_of apply_all IsUp observe in
    record { memory = e; landed = a; long = a.byte_count; up_too = λ _. tt; up_first = λ _. tt }

same_record_law : (v w : Volume) → with_pending v none_pending ≡ with_pending w none_pending → record_of v ≡ record_of w
unfolding record_of numbers_of with_pending
same_record_law v w e = ap record_of e

not_down : (m : List ℕ) (c : Call) → settles c ≡ false → Allowed call_outcome (down m) (runs c) → ⊥
unfolding Allowed settles
not_down m c s l = false≢true (sym s ∙ ap settles l)

flushed_up : (s : System) → Allowed call_outcome s (runs flushed) → IsUp s
unfolding IsUp Allowed
flushed_up (up v d) l = tt
flushed_up (down m) l = let z : flushed ≡ restart = l in absurd (true≢false cc)

flush_alike : (g : Geometry) (s t : System) (h k : CachedModel) (told told1 : Option ℕ) → Invariant false g s h told → Invariant false g t k told1 → IsUp s → IsUp t
    → Near s t → Alike (after call_outcome s (runs flushed)) (after call_outcome t (runs flushed))
    × (is_accepted call_outcome flushed s ≡ true) × (is_accepted call_outcome flushed t ≡ true)
unfolding IsUp memory_of medium_of drives_of
flush_alike g (up v d) (up w e) h k told told1 i j u u1 a =
    let x = flushed_is g v d h told i in
    let y = flushed_is g w e k told1 j in (
      rw (x.0, y.0)
          (both_flush v w (seen d) (seen e) a.memory
          (same_of (seen d) (seen e) a.long (i.up.consistent.recorded ∙ same_record_law v w a.memory ∙ sym j.up.consistent.recorded))),
      x.1,
      y.1,
    )
flush_alike g (up v d) (down n) h k told told1 i j u u1 a = absurd u1
flush_alike g (down m) t h k told told1 i j u u1 a = absurd u

-- ---- one event

module _ (g : Geometry) (mine : ℕ → Bool) where
  then_flushed : (s t : System) (h k : CachedModel) (es fs : List Event) → Ready g s h es → Ready g t k fs → Near s t → CachedAlike mine h k
      → Allowed call_outcome s (runs flushed) → Allowed call_outcome t (runs flushed)
      → Alike (after call_outcome s (runs flushed)) (after call_outcome t (runs flushed))
      × CachedAlike mine (model_after (fed call_outcome s (runs flushed)) h) (model_after (fed call_outcome t (runs flushed)) k)
  unfolding fed
  then_flushed s t h k es fs i j n a l l1 =
      let i1 = ready_now i in
      let j1 = ready_now j in
      let f = flush_alike g s t h k i1.0 j1.0 i1.1 j1.1 (flushed_up s l) (flushed_up t l1) n in
      (f.0, rw (f.1, f.2) (models.ended_alike mine flushed true h k a))

  then_call : (c : Call) (s t : System) (h k : CachedModel) (es fs : List Event) → Ready g s h es → Ready g t k fs → Alike s t → CachedAlike mine h k
      → Alike (after call_outcome s (runs c)) (after call_outcome t (runs c))
      × CachedAlike mine (model_after (fed call_outcome s (runs c)) h) (model_after (fed call_outcome t (runs c)) k)
  unfolding fed
  then_call c s t h k es fs i j r a =
      let i1 = ready_now i in
      let j1 = ready_now j in
      let m = seen_same g s t h k i1.0 j1.0 i1.1 j1.1 r in
      let q : is_accepted call_outcome c s ≡ is_accepted call_outcome c t = ap (λ (p : Reply Told). accepted p.answer) (same_accepted c s t r.memory m) in (
        runs_alike c s t r m,
        subst (λ (b : Bool). CachedAlike mine (model_after (ended c (is_accepted call_outcome c s)) h) (model_after (ended c b) k)) q
            (models.ended_alike mine c (is_accepted call_outcome c s) h k a),
      )

  then_cut : (c : Option Call) (left other : List AfterCut) → cut_left left ≡ cut_left other → (s t : System) (h k : CachedModel) (es fs : List Event)
      → Ready g s h (cut c left ∷ es) → Ready g t k (cut c other ∷ fs) → Alike s t → CachedAlike mine h k → Allowed call_outcome s (cut c left)
      → Allowed call_outcome t (cut c other)
      → Alike (after call_outcome s (cut c left)) (after call_outcome t (cut c other))
      × CachedAlike mine (model_after (fed call_outcome s (cut c left)) h) (model_after (fed call_outcome t (cut c other)) k)
  unfolding fed
  then_cut c left other q s t h k es fs i j r a l l1 =
      let i1 = ready_cut i in
      let j1 = ready_cut j in (
        cut_alike g c s t h k i1.0 j1.0 i1.1 j1.1 r left other q l l1,
        rw (sym q) (models.cut_alike mine c (cut_left left) h k a),
      )

  -- the other's
  then_write : (x : ℕ) (piece : List ℕ) → mine x ≡ false → (s : System) (h : CachedModel)
      → CachedAlike mine (model_after (fed call_outcome s (runs (write x piece))) h) h
  unfolding fed
  then_write x piece e s h = models.write_alike mine x piece e (is_accepted call_outcome (write x piece) s) h

  read_same : (s : System) (x : ℕ) (piece : List ℕ) → Allowed call_outcome s (runs (read x piece)) → after call_outcome s (runs (read x piece)) ≡ s
  read_same (up v d) x piece l = read_nothing v d x piece
  read_same (down m) x piece l = absurd (not_down m (read x piece) (unfold settles in refl) l)

  then_read : (x : ℕ) (piece : List ℕ) (s : System) (h : CachedModel) → CachedAlike mine (model_after (fed call_outcome s (runs (read x piece))) h) h
  unfolding fed
  then_read x piece s h = models.read_alike mine x piece (is_accepted call_outcome (read x piece) s) h

  -- ---- lists

  abbrev pub EndAlike : (s t : System) (h k : CachedModel) (es fs : List Event) → Type 0
  EndAlike s t h k es fs =
      Alike (after_all call_outcome s es) (after_all call_outcome t fs) × CachedAlike mine (modelled (fed_all call_outcome s es) h) (modelled (fed_all call_outcome t fs) k)

  pub agree_all : (es fs : List Event) → Agree mine es fs → (s t : System) (h k : CachedModel) → Ready g s h es → Ready g t k fs → Alike s t → CachedAlike mine h k
      → Lawful call_outcome s es → Lawful call_outcome t fs → EndAlike s t h k es fs
  unfolding after_all modelled fed_all Lawful
  agree_all es fs no_event s t h k i j r a l l1 = (r, a)
  agree_all es fs (both_call {es = es1} {fs = fs1} c o n) s t h k i j r a l l1 =
      let x = then_call c s t h k _ _ i j r a in
      agree_all es1 fs1 n _ _ _ _ (ready_next (runs c) i l.0) (ready_next (runs c) j l1.0) x.0 x.1 l.1 l1.1
  agree_all es fs (both_cut {es = es1} {fs = fs1} c left other q n) s t h k i j r a l l1 =
      let x = then_cut c left other q s t h k es1 fs1 i j r a l.0 l1.0 in
      agree_all es1 fs1 n _ _ _ _ (ready_next (cut c left) i l.0) (ready_next (cut c other) j l1.0) x.0 x.1 l.1 l1.1
  agree_all es fs (first_reads {es = es1} {fs = fs1} b piece o n) s t h k i j r a l l1 =
      agree_all es1 fs n _ _ _ _ (ready_next (runs (read b piece)) i l.0) j (subst (λ (s : System). Alike s t) (sym (read_same s b piece l.0)) r)
      (models.alike_join mine (then_read b piece s h) a) l.1 l1
  agree_all es fs (second_reads {es = es1} {fs = fs1} b piece o n) s t h k i j r a l l1 =
      agree_all es fs1 n _ _ _ _ i (ready_next (runs (read b piece)) j l1.0) (subst (λ (t : System). Alike s t) (sym (read_same t b piece l1.0)) r)
      (models.alike_join mine a (models.alike_flip mine (then_read b piece t k))) l l1.1
  agree_all es fs (both_flushed {es = es1} {fs = fs1} ws us no_write no_write n) s t h k i j r a l l1 =
      let x = then_flushed s t h k _ _ i j (near_alike s t r) a l.0 l1.0 in
      agree_all es1 fs1 n _ _ _ _ (ready_next (runs flushed) i l.0) (ready_next (runs flushed) j l1.0) x.0 x.1 l.1 l1.1
  agree_all es fs (both_flushed {es = es1} {fs = fs1} ws us (a_write {x = b} {piece = piece} o) no_write n) s t h k i j r a l l1 =
      let i1 = ready_next (runs (write b piece)) i l.0 in
      let near = near_join _ _ _ (near_write s b piece) (near_alike s t r) in
      let x = then_flushed _ t _ k _ _ i1 j near (models.alike_join mine (then_write b piece o s h) a) l.1.0 l1.0 in
      agree_all es1 fs1 n _ _ _ _ (ready_next (runs flushed) i1 l.1.0) (ready_next (runs flushed) j l1.0) x.0 x.1 l.1.1 l1.1
  agree_all es fs (both_flushed {es = es1} {fs = fs1} ws us no_write (a_write {x = b} {piece = piece} o) n) s t h k i j r a l l1 =
      let j1 = ready_next (runs (write b piece)) j l1.0 in
      let near = near_join _ _ _ (near_alike s t r) (near_flip _ _ (near_write t b piece)) in
      let x = then_flushed s _ h _ _ _ i j1 near (models.alike_join mine a (models.alike_flip mine (then_write b piece o t k))) l.0 l1.1.0 in
      agree_all es1 fs1 n _ _ _ _ (ready_next (runs flushed) i l.0) (ready_next (runs flushed) j1 l1.1.0) x.0 x.1 l.1 l1.1.1
  agree_all es fs (both_flushed {es = es1} {fs = fs1} ws us (a_write {x = b} {piece = piece} o) (a_write {x = c} {piece = other} p) n) s t h k i j r a l l1 =
      let i1 = ready_next (runs (write b piece)) i l.0 in
      let j1 = ready_next (runs (write c other)) j l1.0 in
      let near = near_join _ _ _ (near_write s b piece) (near_join _ _ _ (near_alike s t r) (near_flip _ _ (near_write t c other))) in
      let x = then_flushed _ _ _ _ _ _ i1 j1 near
      (models.alike_join mine (then_write b piece o s h) (models.alike_join mine a (models.alike_flip mine (then_write c other p t k)))) l.1.0 l1.1.0 in
      agree_all es1 fs1 n _ _ _ _ (ready_next (runs flushed) i1 l.1.0) (ready_next (runs flushed) j1 l1.1.0) x.0 x.1 l.1.1 l1.1.1
