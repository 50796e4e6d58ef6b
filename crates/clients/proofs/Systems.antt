-- Two systems alike: one state, one record, one length; and what each event that both runs have does to that.
use Prim.Native.Nat.{ℕ}
use mathlib.Core.Path.{◌≡◌, refl, sym, ap, ◌∙◌, subst}
use mathlib.Core.Bool.{Bool, true, false, cond, ◌&&◌, true≢false}
use mathlib.Core.List.{List, [], ◌∷◌}
use mathlib.Core.Logic.{◌⊎◌, inl, inr}
use mathlib.Core.Option.{Option, none, some}
use lib.ListN.{length}
use Rattle.base.proofs.Booleans.{by_test}
use Rattle.medium.specs.declared.Geometry.{Geometry}
use Rattle.medium.specs.Medium.{observe, Store, no_store, record_store, block_store, apply, AfterCut, torn_block, old_record, new_record, MayLeave, cut_store, apply_cut, Placed, placed, apply_all, also_pending, EachMayLeave, apply_cuts}
use Rattle.medium.proofs.Theorems.{medium_laws}
use Rattle.volume.specs.declared.Volume.{Volume}
use Rattle.volume.specs.declared.Reply.{Reply}
use Rattle.volume.specs.declared.Told.{Told}
use Rattle.volume.specs.Answers.{accepted}
use Rattle.volume.specs.Records.{record_of}
use Rattle.volume.specs.States.{geometry, recorded_only}
use Rattle.volume.proofs.StoresFit.{sized}
use Rattle.promise.specs.Calls.{Call, flushed, settles, same_record, record_old, record_new}
use Rattle.promise.specs.Lists.{call_outcome, Event, runs, cut, Drives, System, up, down, drives_of, memory_of, medium_of, IsUp, cut_left, NoEarlyCut, outcome, is_accepted, drives_after, stores_at, after, Allowed, fed}
use Rattle.promise.specs.Model.{CachedModel, model_after}
use Rattle.promise.proofs.PendingStores.{seen, Live, Safe, not_yet, record_pending, blocks_pending}
use Rattle.promise.proofs.EventSteps.{Invariant, call_fits, settling_stores, none_left, flushed_keeps, other_keeps, runs_keeps, keeps}
use Rattle.promise.proofs.Theorem.{weaker_all}
use Rattle.clients.proofs.Outcomes.{Same, same_reply}

-- ---- the invariant, before and after the first flushed

pub data Ready (g : Geometry) (s : System) (k : CachedModel) (es : List Event) : Type 0 where
  sure : (told : Option ℕ) → Invariant true g s k told → Ready g s k es
  early : (v : Volume) (d : Drives) (told : Option ℕ) → s ≡ up v d → Live false g v d k told → NoEarlyCut es → Ready g s k es

pub ready_now : {g : Geometry} {s : System} {k : CachedModel} {es : List Event} → Ready g s k es → (told : Option ℕ) × Invariant false g s k told
ready_now {g = g} {s = s} {k = k} (sure told i) = (told, weaker_all g s k told i)
ready_now {g = g} {s = s} {k = k} (early v d told e i n) = (told, subst (λ (s : System). Invariant false g s k told) (sym e) i)

pub ready_cut : {g : Geometry} {s : System} {k : CachedModel} {es : List Event} {c : Option Call} {left : List AfterCut} → Ready g s k (cut c left ∷ es)
    → (told : Option ℕ) × Invariant true g s k told
unfolding NoEarlyCut
ready_cut (sure told i) = (told, i)
ready_cut (early v d told e i n) = absurd n

pub ready_next : {g : Geometry} {s : System} {k : CachedModel} {es : List Event} (e : Event) → Ready g s k (e ∷ es) → Allowed call_outcome s e
    → Ready g (after call_outcome s e) (model_after (fed call_outcome s e) k) es
ready_next {g = g} {s = s} {k = k} e (sure told i) l = sure _ (keeps g k told s e i l)
ready_next {g = g} {s = s} {k = k} {es = es} e (early v d told q i n) l =
    subst (λ (s : System). Ready g (after call_outcome s e) (model_after (fed call_outcome s e) k) es) (sym q)
    (go e n (subst (λ (s : System). Allowed call_outcome s e) q l))
  where
    by : (c : Call) → (c ≡ flushed) ⊎ NoEarlyCut es → Allowed call_outcome (up v d) (runs c)
        → Ready g (after call_outcome (up v d) (runs c)) (model_after (fed call_outcome (up v d) (runs c)) k) es
    by c (inl f) l =
        subst (λ (c : Call). Ready g (after call_outcome (up v d) (runs c)) (model_after (fed call_outcome (up v d) (runs c)) k) es) (sym f)
        (sure _ (flushed_keeps g k told false v d i))
    by c (inr n) l = unfold after in early _ _ _ refl (unfold after in runs_keeps g k told false v d i c l) n

    go : (e : Event) → NoEarlyCut (e ∷ es) → Allowed call_outcome (up v d) e
        → Ready g (after call_outcome (up v d) e) (model_after (fed call_outcome (up v d) e) k) es
    go (runs c) n l = by c (unfold NoEarlyCut in n) l
    go (cut c left) n l = absurd (unfold NoEarlyCut in n)

-- ---- two systems alike

pub record Alike (s t : System) : Type 0 where
  pub memory : memory_of s ≡ memory_of t
  pub landed : Same (observe (drives_of s).landed) (observe (drives_of t).landed)
  pub long : length (medium_of s) ≡ length (medium_of t)
  pub up_too : IsUp s → IsUp t
  pub up_first : IsUp t → IsUp s

pub same_of : (m n : List ℕ) → length m ≡ length n → (observe m).sector ≡ (observe n).sector → Same (observe m) (observe n)
same_of m n e f = record { byte_count = unfold observe in e; sector = f }

-- the record is that of the state
pub seen_same : (g : Geometry) (s t : System) (h k : CachedModel) (told told1 : Option ℕ) → Invariant false g s h told → Invariant false g t k told1
    → Alike s t → Same (observe (medium_of s)) (observe (medium_of t))
unfolding IsUp medium_of drives_of memory_of apply_all
seen_same g (up v d) (up w e) h k told told1 i j a =
    same_of _ _ a.long (i.up.consistent.recorded ∙ ap record_of a.memory ∙ sym j.up.consistent.recorded)
seen_same g (up v d) (down n) h k told told1 i j a = absurd (a.up_too tt)
seen_same g (down m) (up w e) h k told told1 i j a = absurd (a.up_first tt)
seen_same g (down m) (down n) h k told told1 i j a = a.landed

-- ---- a call in both

also_seen : (g : Geometry) (store : Store) (stores : List Placed) (m : List ℕ) → apply_all (also_pending g store stores) m ≡ apply g store (apply_all stores m)
unfolding apply_all also_pending apply
also_seen g no_store stores m = refl
also_seen g (record_store sector) stores m = refl
also_seen g (block_store q bytes) stores m = refl

call_long : (c : Call) (v : Volume) (m : List ℕ) → length (apply (geometry v) (call_outcome c v (observe m)).store m) ≡ length m
call_long c v m = unfold observe in (medium_laws.stored (geometry v) (call_outcome c v (observe m)).store m (call_fits c v (observe m) (sized (geometry v) m)).1).length_kept

-- drives after a call, by whether it settles
unfoldable drives_by : (settled : Bool) (c : Call) (s : System) → Drives
drives_by settled c s =
    cond settled (record { landed = medium_of s; pending = [] })
    (record { landed = (drives_of s).landed; pending = also_pending (geometry (memory_of s)) (outcome call_outcome c s).store (drives_of s).pending })

seen_by : (settled : Bool) (c : Call) (s : System) → length (seen (drives_by settled c s)) ≡ length (medium_of s)
seen_by true c s = unfold drives_by apply_all in refl
seen_by false c s =
    unfold drives_by in
    ap length (also_seen (geometry (memory_of s)) (outcome call_outcome c s).store (drives_of s).pending (drives_of s).landed)
    ∙ unfold outcome medium_of in call_long c (memory_of s) (apply_all (drives_of s).pending (drives_of s).landed)

pub runs_long : (c : Call) (s : System) → length (medium_of (after call_outcome s (runs c))) ≡ length (medium_of s)
unfolding after drives_after drives_by medium_of drives_of memory_of outcome
runs_long c s = seen_by (settles c && is_accepted call_outcome c s) c s

pub same_accepted : (c : Call) (s t : System) → memory_of s ≡ memory_of t → Same (observe (medium_of s)) (observe (medium_of t))
    → (outcome call_outcome c s).reply ≡ (outcome call_outcome c t).reply
unfolding outcome
same_accepted c s t e m =
    subst (λ (w : Volume). (call_outcome c (memory_of s) (observe (medium_of s))).reply ≡ (call_outcome c w (observe (medium_of t))).reply) e
    (same_reply c (memory_of s) (observe (medium_of s)) (observe (medium_of t)) m)

landed_alike : (c : Call) (s t : System) → Alike s t → Same (observe (medium_of s)) (observe (medium_of t))
    → (b : Bool) → Same (observe (drives_by b c s).landed) (observe (drives_by b c t).landed)
unfolding drives_by medium_of drives_of
landed_alike c s t a m true = m
landed_alike c s t a m false = a.landed

pub runs_alike : (c : Call) (s t : System) → Alike s t → Same (observe (medium_of s)) (observe (medium_of t))
    → Alike (after call_outcome s (runs c)) (after call_outcome t (runs c))
unfolding after drives_after drives_by medium_of drives_of memory_of outcome
runs_alike c s t a m =
    let r = same_accepted c s t a.memory m in
    subst (λ (q : Reply Told). Alike (up (outcome call_outcome c s).reply.state (drives_by (settles c && accepted (outcome call_outcome c s).reply.answer) c s))
    (up q.state (drives_by (settles c && accepted q.answer) c t))) r
    (go (settles c && accepted (outcome call_outcome c s).reply.answer) (outcome call_outcome c s).reply.state)
  where
    go : (b : Bool) (v : Volume) → Alike (up v (drives_by b c s)) (up v (drives_by b c t))
    go b v =
        record {
          memory = refl;
          landed = unfold drives_of in landed_alike c s t a m b;
          long = unfold medium_of drives_of in seen_by b c s ∙ a.long ∙ sym (seen_by b c t);
          up_too = λ u. unfold IsUp in tt;
          up_first = λ u. unfold IsUp in tt;
        }

-- ---- a cut in both

-- what it leaves in one of them
data CutMedium (v : Volume) (d : Drives) (left : List AfterCut) (m : List ℕ) : Type 0 where
  left_old : cut_left left ≡ record_old → m ≡ d.landed → CutMedium v d left m
  left_new : cut_left left ≡ record_new → m ≡ seen d → CutMedium v d left m
  left_same : cut_left left ≡ same_record → length m ≡ length (seen d) → (observe m).sector ≡ record_of (recorded_only v) → CutMedium v d left m

cut_medium : (g : Geometry) (v : Volume) (d : Drives) (k : CachedModel) (told : Option ℕ) → Live true g v d k told → (left : List AfterCut)
    → EachMayLeave d.pending left → CutMedium v d left (apply_cuts d.pending left d.landed)
cut_medium g v d k told i left may = go i.safe
  where
    alone : (sector : List ℕ) (left : List AfterCut) → EachMayLeave (placed g (record_store sector) ∷ []) left
        → CutMedium v (record { landed = d.landed; pending = placed g (record_store sector) ∷ [] }) left (apply_cuts (placed g (record_store sector) ∷ []) left d.landed)
    alone sector [] may = unfold EachMayLeave in absurd may
    alone sector (torn_block bytes ∷ left) may = unfold EachMayLeave MayLeave in absurd may.0
    alone sector (old_record ∷ (l ∷ left)) may = unfold EachMayLeave in absurd may.1
    alone sector (new_record ∷ (l ∷ left)) may = unfold EachMayLeave in absurd may.1
    alone sector (old_record ∷ []) may = left_old (unfold cut_left in refl) (unfold apply_cuts apply_cut cut_store apply in refl)
    alone sector (new_record ∷ []) may = left_new (unfold cut_left in refl) (unfold apply_cuts apply_cut cut_store apply_all in refl)

    go : Safe true g v d k → CutMedium v d left (apply_cuts d.pending left d.landed)
    go (not_yet s r) = absurd (true≢false s)
    go (record_pending sector o e r b w n) =
        subst (λ (stores : List Placed). EachMayLeave stores left → CutMedium v (record { landed = d.landed; pending = stores }) left (apply_cuts stores left d.landed))
        (sym e) (alone sector left) may
    go (blocks_pending r leaves settled) =
        let l = leaves left may in
        left_same l.same_record_law l.same_length l.consistent.recorded

same_media : (v w : Volume) (d e : Drives) (left other : List AfterCut) (m n : List ℕ) → v ≡ w → Same (observe d.landed) (observe e.landed)
    → Same (observe (seen d)) (observe (seen e)) → cut_left left ≡ cut_left other → CutMedium v d left m → CutMedium w e other n → Same (observe m) (observe n)
same_media v w d e left other m n same landed seen q (left_old a b) (left_old a1 b1) = rw (b, b1) landed
same_media v w d e left other m n same landed seen q (left_old a b) (left_new a1 b1) = let z : record_old ≡ record_new = sym a ∙ q ∙ a1 in absurd (true≢false cc)
same_media v w d e left other m n same landed seen q (left_old a b) (left_same a1 b1 c1) = let z : record_old ≡ same_record = sym a ∙ q ∙ a1 in absurd (true≢false cc)
same_media v w d e left other m n same landed seen q (left_new a b) (left_old a1 b1) = let z : record_new ≡ record_old = sym a ∙ q ∙ a1 in absurd (true≢false cc)
same_media v w d e left other m n same landed seen q (left_new a b) (left_new a1 b1) = rw (b, b1) seen
same_media v w d e left other m n same landed seen q (left_new a b) (left_same a1 b1 c1) = let z : record_new ≡ same_record = sym a ∙ q ∙ a1 in absurd (true≢false cc)
same_media v w d e left other m n same landed seen q (left_same a b c) (left_old a1 b1) = let z : same_record ≡ record_old = sym a ∙ q ∙ a1 in absurd (true≢false cc)
same_media v w d e left other m n same landed seen q (left_same a b c) (left_new a1 b1) = let z : same_record ≡ record_new = sym a ∙ q ∙ a1 in absurd (true≢false cc)
same_media v w d e left other m n same landed seen q (left_same a b c) (left_same a1 b1 c1) =
    same_of m n (b ∙ unfold observe in seen.byte_count ∙ sym b1) (c ∙ ap (λ (u : Volume). record_of (recorded_only u)) same ∙ sym c1)

down_alike : (m n : List ℕ) → Same (observe m) (observe n) → Alike (down m) (down n)
unfolding memory_of drives_of medium_of apply_all IsUp
down_alike m n e = record { memory = refl; landed = e; long = unfold observe in e.byte_count; up_too = λ u. u; up_first = λ u. u }

between_alike : {g : Geometry} (v w : Volume) (d e : Drives) (h k : CachedModel) (told told1 : Option ℕ) → Live true g v d h told → Live true g w e k told1
    → Alike (up v d) (up w e) → Same (observe (medium_of (up v d))) (observe (medium_of (up w e))) → (left other : List AfterCut) → cut_left left ≡ cut_left other
    → Allowed call_outcome (up v d) (cut none left) → Allowed call_outcome (up w e) (cut none other)
    → Alike (after call_outcome (up v d) (cut none left)) (after call_outcome (up w e) (cut none other))
unfolding after Allowed stores_at drives_of memory_of medium_of
between_alike {g = g} v w d e h k told told1 i j a m left other q l l1 =
    down_alike _ _
    (same_media v w d e left other _ _ a.memory a.landed m q (cut_medium g v d h told i left l) (cut_medium g w e k told1 j other l1))

-- a cut in a call's store is one directly after the call
also_placed : (g : Geometry) (store : Store) (stores : List Placed) (left : List AfterCut) → EachMayLeave (placed g store ∷ stores) left
    → placed g store ∷ stores ≡ also_pending g store stores
also_placed g store stores [] may = unfold EachMayLeave in absurd may
also_placed g no_store stores (l ∷ left) may = unfold EachMayLeave MayLeave in absurd may.0
also_placed g (record_store sector) stores (l ∷ left) may = unfold also_pending in refl
also_placed g (block_store q bytes) stores (l ∷ left) may = unfold also_pending in refl

not_settling : (c : Call) (v : Volume) (d : Drives) (left : List AfterCut) → Allowed call_outcome (up v d) (cut (some c) left) → settles c ≡ false
unfolding Allowed stores_at outcome memory_of drives_of medium_of
not_settling c v d left l =
    by_test (settles c) (λ s. absurd (none_left (geometry v) _ d.pending left (settling_stores c v (observe (seen d)) s) l)) (λ s. s)

cut_after : (c : Call) (v : Volume) (d : Drives) (left : List AfterCut) → Allowed call_outcome (up v d) (cut (some c) left)
    → (after call_outcome (up v d) (cut (some c) left) ≡ after call_outcome (after call_outcome (up v d) (runs c)) (cut none left))
    × Allowed call_outcome (after call_outcome (up v d) (runs c)) (cut none left)
unfolding Allowed after stores_at drives_after drives_of memory_of
cut_after c v d left l =
    let s = not_settling c v d left l in
    let e = also_placed (geometry v) (outcome call_outcome c (up v d)).store d.pending left l in
    rw s (ap (λ (stores : List Placed). down (apply_cuts stores left d.landed)) e, subst (λ (stores : List Placed). EachMayLeave stores left) e l)

between_systems : (g : Geometry) (s t : System) (h k : CachedModel) (told told1 : Option ℕ) → IsUp s → Invariant true g s h told → Invariant true g t k told1
    → Alike s t → (left other : List AfterCut) → cut_left left ≡ cut_left other → Allowed call_outcome s (cut none left) → Allowed call_outcome t (cut none other)
    → Alike (after call_outcome s (cut none left)) (after call_outcome t (cut none other))
unfolding IsUp
between_systems g (up v d) (up w e) h k told told1 u i j a left other q l l1 =
    between_alike v w d e h k told told1 i j a
    (seen_same g (up v d) (up w e) h k told told1 (weaker_all g (up v d) h told i) (weaker_all g (up w e) k told1 j) a) left other q l l1
between_systems g (up v d) (down n) h k told told1 u i j a left other q l l1 = absurd (a.up_too tt)
between_systems g (down m) t h k told told1 u i j a left other q l l1 = absurd u

pub up_after : (s : System) (c : Call) → IsUp (after call_outcome s (runs c))
unfolding after IsUp
up_after s c = tt

pub cut_alike : (g : Geometry) (c : Option Call) (s t : System) (h k : CachedModel) (told told1 : Option ℕ) → Invariant true g s h told
    → Invariant true g t k told1 → Alike s t → (left other : List AfterCut) → cut_left left ≡ cut_left other → Allowed call_outcome s (cut c left)
    → Allowed call_outcome t (cut c other) → Alike (after call_outcome s (cut c left)) (after call_outcome t (cut c other))
unfolding IsUp
cut_alike g none (up v d) (up w e) h k told told1 i j a left other q l l1 = between_systems g (up v d) (up w e) h k told told1 tt i j a left other q l l1
cut_alike g (some c) (up v d) (up w e) h k told told1 i j a left other q l l1 =
    let s = not_settling c v d left l in
    let x = cut_after c v d left l in
    let y = cut_after c w e other l1 in
    let m = seen_same g (up v d) (up w e) h k told told1 (weaker_all g (up v d) h told i) (weaker_all g (up w e) k told1 j) a in
    rw (x.0, y.0)
    (between_systems g (after call_outcome (up v d) (runs c)) (after call_outcome (up w e) (runs c)) _ _ _ _ (up_after (up v d) c) (other_keeps g h told true v d i c s)
    (other_keeps g k told1 true w e j c s) (runs_alike c (up v d) (up w e) a m) left other q x.1 y.1)
cut_alike g c (up v d) (down n) h k told told1 i j a left other q l l1 = absurd (a.up_too tt)
cut_alike g c (down m) (up w e) h k told told1 i j a left other q l l1 = absurd (a.up_first tt)
cut_alike g c (down m) (down n) h k told told1 i j a left other q l l1 =
    unfold Allowed in rw (l.0, l.1, l1.1) (unfold after stores_at drives_of apply_cuts in a)
