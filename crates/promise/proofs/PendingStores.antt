-- Stores that may not be down: what a cut may leave of them, after each call. Nothing of lists.
use Prim.Native.Nat.{ℕ}
use mathlib.Core.Path.{◌≡◌, refl, sym, ap, ◌∙◌, subst}
use mathlib.Core.Bool.{Bool, true, false, cond, ◌||◌, true≢false}
use mathlib.Core.List.{List, [], ◌∷◌}
use mathlib.Core.Option.{Option, none, some}
use lib.ListN.{length}
use Rattle.base.proofs.Booleans.{clash}
use Rattle.medium.specs.declared.Geometry.{Geometry}
use Rattle.layout.specs.declared.Spot.{Spot}
use Rattle.medium.specs.Laws.{Stored}
use Rattle.medium.specs.Medium.{observe, Store, no_store, record_store, block_store, apply, StoreFits, AfterCut, torn_block, old_record, new_record, MayLeave, cut_store, apply_cut, Placed, placed, apply_all, also_pending, EachMayLeave, apply_cuts}
use Rattle.medium.proofs.Theorems.{medium_laws}
use Rattle.volume.specs.declared.Pending.{Pending}
use Rattle.volume.specs.declared.Volume.{Volume}
use Rattle.volume.specs.States.{recorded_only}
use Rattle.promise.specs.Calls.{CutLeft, same_record, record_old, record_new}
use Rattle.promise.specs.Lists.{Drives, cut_left}
use Rattle.promise.specs.Model.{no_block, Step, PlainVolume, unset, Model, stepped, CachedModel, nothing_pending, is_saved, with_step, model_or, with_call, left_model, after_cut}
use Rattle.promise.proofs.Consistent.{Consistent, consistent_restarted, consistent_unset}
use Rattle.promise.proofs.Steps.{Up, Down, down_at, up_down, StoresBlock, StoresRecord, ByStore}

-- the medium as calls see it
abbrev pub seen : (d : Drives) → List ℕ
seen d = apply_all d.pending d.landed

-- ---- the invariant

-- what a cut leaves of block stores
pub record Leaves (v : Volume) (n : ℕ) (p : PlainVolume) (left : List AfterCut) (m : List ℕ) : Type 0 where
  pub same_record_law : cut_left left ≡ same_record
  pub same_length : length m ≡ n
  pub consistent : Consistent (recorded_only v) (observe m) p

pub record Settled (d : Drives) (k : CachedModel) : Type 0 where
  pub nothing_pending_law : d.pending ≡ []
  pub none_written : k.written ≡ no_block

-- before the first flushed, when no cut comes; a record store is pending, alone; or block stores are, or nothing
pub data Safe (sure : Bool) (g : Geometry) (v : Volume) (d : Drives) (k : CachedModel) : Type 0 where
  not_yet : sure ≡ false → v.pending.records ≡ true → Safe sure g v d k
  record_pending : (sector : List ℕ) (o : Model) → d.pending ≡ placed g (record_store sector) ∷ [] → v.pending.records ≡ true → k.before_record ≡ some o
      → k.written ≡ no_block → Down g (observe d.landed) o → Safe sure g v d k
  blocks_pending : v.pending.records ≡ false
      → ((left : List AfterCut) → EachMayLeave d.pending left
      → Leaves v (length (seen d)) (unset k.written k.current.plain) left (apply_cuts d.pending left d.landed))
      → (v.pending.blocks ≡ false → Settled d k) → Safe sure g v d k

pub record Live (sure : Bool) (g : Geometry) (v : Volume) (d : Drives) (k : CachedModel) (told : Option ℕ) : Type 0 where
  pub up : Up g v (observe (seen d)) k.current told
  pub safe : Safe sure g v d k

-- ---- blocks that become unset

or_unset : (a b : Bool) (z : Option (List ℕ)) → cond (a || b) none z ≡ cond a none (cond b none z)
or_unset true b z = refl
or_unset false b z = refl

unset_both : (a b : ℕ → Bool) (p : PlainVolume) → unset (λ y. a y || b y) p ≡ unset a (unset b p)
unfolding unset
unset_both a b p i = record { blocks = p.blocks; bytes = λ y. or_unset (a y) (b y) (p.bytes y) i }

unset_none : (p : PlainVolume) → unset no_block p ≡ p
unfolding unset no_block
unset_none p = refl

-- a call that saves nothing leaves the blocks written as they were
written_same : (save : Option (ℕ × List ℕ)) (f : ℕ → Bool) → save ≡ none → (λ (y : ℕ). is_saved save y || f y) ≡ f
unfolding is_saved
written_same save f e = rw e refl

-- the model that a cut in a call leaves, by the record
unfoldable pub left_after : (step : Step) (k : CachedModel) (left : CutLeft) → Model
left_after step k same_record = k.current
left_after step k record_old = model_or (with_step step k).before_record k.current
left_after step k record_new = stepped step k.current

byte_count : (g : Geometry) (t : Store) (before after : List ℕ) → Stored g t (observe before) (observe after) → length after ≡ length before
unfolding observe
byte_count g t before after w = w.length_kept

-- ---- nothing is pending

pub live_settled : {g : Geometry} {v : Volume} {o : Model} {told : Option ℕ} (m : List ℕ) → v.pending.records ≡ false → Up g v (observe m) o told
    → Live true g v (record { landed = m; pending = [] }) (nothing_pending o) told
unfolding apply_all nothing_pending
live_settled {g = g} {v = v} {o = o} m down u = record { up = u; safe = blocks_pending down leaves (λ _. record { nothing_pending_law = refl; none_written = refl }) }
  where
    leaves : (left : List AfterCut) → EachMayLeave [] left → Leaves v (length m) (unset no_block o.plain) left (apply_cuts [] left m)
    leaves [] may =
        unfold apply_cuts cut_left in
        record {
          same_record_law = refl;
          same_length = refl;
          consistent = consistent_unset (recorded_only v) (observe m) o.plain no_block (consistent_restarted v (observe m) o.plain u.consistent);
        }
    leaves (l ∷ left) may = unfold EachMayLeave in absurd may

-- ---- a call

module _ (sure : Bool) (g : Geometry) (v : Volume) (d : Drives) (k : CachedModel) (told : Option ℕ) (i : Live sure g v d k told) where
  -- with no record store pending, only block stores are
  only_blocks : {X : Type 0} → v.pending.records ≡ false
      → (((left : List AfterCut) → EachMayLeave d.pending left
      → Leaves v (length (seen d)) (unset k.written k.current.plain) left (apply_cuts d.pending left d.landed))
      → (v.pending.blocks ≡ false → Settled d k) → X) → X
  only_blocks {X = X} down f = go i.safe
    where
      go : Safe sure g v d k → X
      go (not_yet s r) = clash r down
      go (record_pending sector o e r b w n) = clash r down
      go (blocks_pending r leaves settled) = f leaves settled

  -- all that is seen is down
  seen_landed : Settled d k → seen d ≡ d.landed
  unfolding apply_all
  seen_landed s = ap (λ (stores : List Placed). apply_all stores d.landed) s.nothing_pending_law

  landed_down : Settled d k → Down g (observe d.landed) k.current
  landed_down s = subst (λ (m : List ℕ). Down g (observe m) k.current) (seen_landed s) (up_down i.up)

  module _ (step : Step) (u : Volume) where
    torn_record : (b : List ℕ) (left : List AfterCut) (before m : List ℕ)
        → Leaves v (length (seen d)) (unset k.written k.current.plain) left before → length m ≡ length before
        → Consistent (recorded_only v) (observe m) (unset (is_saved step.save) (unset k.written k.current.plain))
        → Leaves v (length (seen d)) (unset (is_saved step.save) (unset k.written k.current.plain)) (torn_block b ∷ left) m
    unfolding cut_left
    torn_record b left before m l long c = record { same_record_law = l.same_record_law; same_length = long ∙ l.same_length; consistent = c }

    -- a block store more
    torn_more : (q : Spot) (bytes : List ℕ) → StoresBlock v step u (block_store q bytes) → StoreFits g (length (seen d)) (block_store q bytes)
        → (left : List AfterCut) → EachMayLeave (placed g (block_store q bytes) ∷ d.pending) left
        → Leaves v (length (seen d)) (unset (is_saved step.save) (unset k.written k.current.plain)) left
        (apply_cuts (placed g (block_store q bytes) ∷ d.pending) left d.landed)
    torn_more q bytes s fits [] may = unfold EachMayLeave in absurd may
    torn_more q bytes s fits (old_record ∷ left) may = unfold EachMayLeave MayLeave in absurd may.0
    torn_more q bytes s fits (new_record ∷ left) may = unfold EachMayLeave MayLeave in absurd may.0
    torn_more q bytes s fits (torn_block b ∷ left) may =
        only_blocks s.record_down (λ leaves settled. unfold apply_cuts in more (leaves left (unfold EachMayLeave in may.1)))
      where
        before : List ℕ
        before = apply_cuts d.pending left d.landed

        may_leave_law : MayLeave (block_store q bytes) (torn_block b)
        may_leave_law = unfold EachMayLeave in may.0

        more : Leaves v (length (seen d)) (unset k.written k.current.plain) left before
            → Leaves v (length (seen d)) (unset (is_saved step.save) (unset k.written k.current.plain)) (torn_block b ∷ left)
            (apply_cut g (block_store q bytes) (torn_block b) before)
        more l =
            let fit : StoreFits g (length before) (block_store q bytes) = rw l.same_length fits in
            let cut : Stored g (cut_store (block_store q bytes) (torn_block b)) (observe before) (observe (apply_cut g (block_store q bytes) (torn_block b) before)) =
            medium_laws.cut_stored g (block_store q bytes) (torn_block b) before fit may_leave_law in
            torn_record b left before _ l (byte_count g _ before _ cut) (s.torn b (observe before) _ _ l.consistent may_leave_law (rw i.up.same_geometry cut))

    -- what is pending after a call that is accepted
    pub after_call : (store : Store) → ByStore v step u store → StoreFits g (length (seen d)) store → (heard : Option ℕ)
        → Up g u (observe (apply g store (seen d))) (stepped step k.current) heard
        → Live sure g u (record { landed = d.landed; pending = also_pending g store d.pending }) (with_step step k) heard
    unfolding also_pending apply_all with_step
    after_call no_store s fits heard up = record { up = unfold apply in up; safe = go i.safe }
      where
        go : Safe sure g v d k → Safe sure g u d (with_step step k)
        go (not_yet f r) = not_yet f (ap (λ (p : Pending). p.records) s.1 ∙ r)
        go (record_pending sector o e r b w n) =
            record_pending sector o e (ap (λ (p : Pending). p.records) s.1 ∙ r) (rw s.0.no_record b) (written_same step.save k.written s.2 ∙ w) n
        go (blocks_pending r leaves settled) =
            blocks_pending (ap (λ (p : Pending). p.records) s.1 ∙ r)
            (λ left may.
            let l = leaves left may in
            record {
              same_record_law = l.same_record_law;
              same_length = l.same_length;
              consistent =
                  rw (s.0.same_record_law, s.0.unset_after k.written k.current)
                  (consistent_unset (recorded_only v) _ _ (is_saved step.save) l.consistent);
            })
            (λ down.
            let t = settled (sym (ap (λ (p : Pending). p.blocks) s.1) ∙ down) in
            record { nothing_pending_law = t.nothing_pending_law; none_written = written_same step.save k.written s.2 ∙ t.none_written })
    after_call (record_store sector) s fits heard up =
        record {
          up = up;
          safe =
              only_blocks s.record_down
              (λ leaves settled.
              let t = settled s.blocks_down in
              record_pending sector k.current (ap (λ (stores : List Placed). placed g (record_store sector) ∷ stores) t.nothing_pending_law) s.now_pending
              (rw s.a_record refl) (written_same step.save k.written s.no_save ∙ t.none_written) (landed_down t));
        }
    after_call (block_store q bytes) s fits heard up =
        record {
          up = up;
          safe =
              blocks_pending s.still_down
              (λ left may.
              let l = torn_more q bytes s fits left may in
              record {
                same_record_law = l.same_record_law;
                same_length = l.same_length ∙ sym (unfold observe in (medium_laws.stored g (block_store q bytes) (seen d) fits).length_kept);
                consistent = rw (s.keeps.same_record_law, s.keeps.unset_after k.written k.current) l.consistent;
              })
              (λ down. clash s.now_pending down);
        }

    -- ---- a cut in the call's store

    old_record_law : StoresRecord v step u → Settled d k → Down g (observe d.landed)
        (record { plain = unset no_block (left_after step k record_old).plain; tally = (left_after step k record_old).tally })
    unfolding left_after with_step
    old_record_law s t = rw (s.a_record, unset_none k.current.plain) (landed_down t)

    new_record_law : (sector : List ℕ) → Settled d k → (heard : Option ℕ)
        → Up g u (observe (apply g (record_store sector) (seen d))) (stepped step k.current) heard
        → Down g (observe (apply g (record_store sector) d.landed))
        (record { plain = unset no_block (left_after step k record_new).plain; tally = (left_after step k record_new).tally })
    unfolding left_after
    new_record_law sector t heard up =
        rw (unset_none (stepped step k.current).plain)
        (subst (λ (m : List ℕ). Down g (observe (apply g (record_store sector) m)) (stepped step k.current)) (seen_landed t) (up_down up))

    record_cut : (sector : List ℕ) → StoresRecord v step u → Settled d k → (heard : Option ℕ)
        → Up g u (observe (apply g (record_store sector) (seen d))) (stepped step k.current) heard
        → (left : List AfterCut) → EachMayLeave (placed g (record_store sector) ∷ d.pending) left
        → Down g (observe (apply_cuts (placed g (record_store sector) ∷ d.pending) left d.landed))
        (record { plain = unset (λ y. is_saved step.save y || k.written y) (left_after step k (cut_left left)).plain; tally = (left_after step k (cut_left left)).tally })
    record_cut sector s t heard up left =
        let same_written : (λ (y : ℕ). is_saved step.save y || k.written y) ≡ no_block = written_same step.save k.written s.no_save ∙ t.none_written in
        rw (same_written, t.nothing_pending_law) (alone left)
      where
        alone : (left : List AfterCut) → EachMayLeave (placed g (record_store sector) ∷ []) left
            → Down g (observe (apply_cuts (placed g (record_store sector) ∷ []) left d.landed))
            (record { plain = unset no_block (left_after step k (cut_left left)).plain; tally = (left_after step k (cut_left left)).tally })
        alone [] may = unfold EachMayLeave in absurd may
        alone (torn_block b ∷ left) may = unfold EachMayLeave MayLeave in absurd may.0
        alone (old_record ∷ (l ∷ left)) may = unfold EachMayLeave in absurd may.1
        alone (new_record ∷ (l ∷ left)) may = unfold EachMayLeave in absurd may.1
        alone (old_record ∷ []) may = unfold cut_left apply_cuts apply_cut cut_store apply in old_record_law s t
        alone (new_record ∷ []) may = unfold cut_left apply_cuts apply_cut cut_store in new_record_law sector t heard up

    pub cut_in : (store : Store) → ByStore v step u store → StoreFits g (length (seen d)) store → (heard : Option ℕ)
        → Up g u (observe (apply g store (seen d))) (stepped step k.current) heard
        → (left : List AfterCut) → EachMayLeave (placed g store ∷ d.pending) left
        → Down g (observe (apply_cuts (placed g store ∷ d.pending) left d.landed))
        (record { plain = unset (with_step step k).written (left_after step k (cut_left left)).plain; tally = (left_after step k (cut_left left)).tally })
    unfolding with_step left_after
    cut_in no_store s fits heard up left may = absurd (none_left left may)
      where
        none_left : (left : List AfterCut) → EachMayLeave (placed g no_store ∷ d.pending) left → ⊥
        none_left [] may = unfold EachMayLeave in may
        none_left (l ∷ left) may = unfold EachMayLeave MayLeave in may.0
    cut_in (block_store q bytes) s fits heard up left may =
        let l = torn_more q bytes s fits left may in
        rw (l.same_record_law, unset_both (is_saved step.save) k.written k.current.plain)
        (down_at v _ k.current.tally l.consistent i.up.same_tally i.up.same_geometry)
    cut_in (record_store sector) s fits heard up left may =
        only_blocks s.record_down (λ leaves settled. record_cut sector s (settled s.blocks_down) heard up left may)

-- ---- a cut between calls

pub cut_between : (g : Geometry) (v : Volume) (d : Drives) (k : CachedModel) (told : Option ℕ) → Live true g v d k told → (left : List AfterCut)
    → EachMayLeave d.pending left → Down g (observe (apply_cuts d.pending left d.landed)) (after_cut none (cut_left left) k)
unfolding after_cut with_call left_model apply_all
cut_between g v d k told i left may = go i.safe
  where
    alone : (sector : List ℕ) (o : Model) → k.before_record ≡ some o → k.written ≡ no_block → Down g (observe d.landed) o
        → Down g (observe (apply g (record_store sector) d.landed)) k.current → (left : List AfterCut) → EachMayLeave (placed g (record_store sector) ∷ []) left
        → Down g (observe (apply_cuts (placed g (record_store sector) ∷ []) left d.landed)) (after_cut none (cut_left left) k)
    alone sector o b w old new [] may = unfold EachMayLeave in absurd may
    alone sector o b w old new (torn_block bytes ∷ left) may = unfold EachMayLeave MayLeave in absurd may.0
    alone sector o b w old new (old_record ∷ (l ∷ left)) may = unfold EachMayLeave in absurd may.1
    alone sector o b w old new (new_record ∷ (l ∷ left)) may = unfold EachMayLeave in absurd may.1
    alone sector o b w old new (old_record ∷ []) may =
        unfold cut_left apply_cuts apply_cut cut_store apply after_cut with_call left_model in rw (w, b, unset_none o.plain) old
    alone sector o b w old new (new_record ∷ []) may =
        unfold cut_left apply_cuts apply_cut cut_store after_cut with_call left_model in rw (w, unset_none k.current.plain) new

    go : Safe true g v d k → Down g (observe (apply_cuts d.pending left d.landed)) (after_cut none (cut_left left) k)
    go (not_yet s r) = absurd (true≢false s)
    go (record_pending sector o e r b w n) =
        let all : Down g (observe (apply_all (placed g (record_store sector) ∷ []) d.landed)) k.current =
        subst (λ (stores : List Placed). Down g (observe (apply_all stores d.landed)) k.current) e (up_down i.up) in
        subst (λ (stores : List Placed). EachMayLeave stores left → Down g (observe (apply_cuts stores left d.landed)) (after_cut none (cut_left left) k))
        (sym e) (alone sector o b w n all left) may
    go (blocks_pending r leaves settled) =
        let l = leaves left may in
        rw l.same_record_law (down_at v _ k.current.tally l.consistent i.up.same_tally i.up.same_geometry)
