-- The bytes of set blocks stand at their live spots, and what each store and each step of the tally does to that.
use Prim.Native.Nat.{ℕ, suc, ◌≤◌, ◌<◌}
use mathlib.Core.Path.{◌≡◌, refl, sym, ◌∙◌, ap, subst}
use mathlib.Core.Bool.{Bool, true, false, cond, not, ◌&&◌, ◌||◌, true≢false, false≢true, and-false}
use mathlib.Core.List.{List, ◌∷◌}
use mathlib.Core.Option.{Option, none, some}
use native.Mathlib.Omega.{arith}
use lib.Dec.{eqb, ltb}
use borrow.Author.Tests.{ltb-true, ltb-false, eqb-true, eqb-false, lt-ltb, eq-eqb}
use Rattle.base.proofs.Booleans.{and_left, and_right, and_both, clash, by_test}
use Rattle.layout.specs.History.{earlier, old_count, spot_of}
use Rattle.layout.specs.Live.{at_new_spot, live_spot}
use Rattle.layout.specs.declared.Spot.{Spot}
use Rattle.layout.specs.Tally.{Tally, Mode, not_growing, growing, is_running, open_blocks, recorded_by, moved_blocks, live_spot_of, waiting, moves_now, target_of, window_full, last_window}
use Rattle.layout.specs.Windows.{old_spot, moving, window_of, moving_in}
use Rattle.layout.proofs.NextBlocks.{full_copied}
use Rattle.layout.proofs.Theorems.{layout_laws}
use Rattle.medium.specs.declared.Geometry.{Geometry}
use Rattle.medium.specs.Laws.{OtherThanSpot, Holds, Stored}
use Rattle.medium.specs.Medium.{Observations, Store, no_store, record_store, block_store}
use Rattle.promise.specs.Model.{no_block, grown_tally, with_blocks, copied_tally, next_window_tally, finished_tally, restarted_tally}
use Rattle.promise.proofs.Tallies.{Running, Resting, Stage, running, unrecorded, SpotsApart, spots_apart, copy_unrecorded, open_growing, live_growing, waiting_growing}

-- block x's bytes stand at its live spot and, while it is copied but not recorded, at its target too
pub record Stands (g : Geometry) (o : Observations) (t : Tally) (x : ℕ) (b : List ℕ) : Type 0 where
  pub at_live : o.bytes_at g (live_spot_of t x) ≡ b
  pub at_target : waiting t x ≡ true → o.bytes_at g (target_of t x) ≡ b

-- those of all open blocks that are set
pub record Held (g : Geometry) (o : Observations) (t : Tally) (bytes : ℕ → Option (List ℕ)) : Type 0 where
  pub stands : (x : ℕ) (b : List ℕ) → x < open_blocks t → bytes x ≡ some b → Stands g o t x b

-- ---- stores: the geometry has the tally's rows

module _ (g : Geometry) (before after : Observations) (t : Tally) (same : g.rows ≡ t.rows) (bytes : ℕ → Option (List ℕ))
    (h : Held g before t bytes) where
  -- a store to other spots than a block's own
  stands_kept : Stage t → (store : Store) → Stored g store before after → (x : ℕ) (b : List ℕ) → x < open_blocks t
      → OtherThanSpot store (live_spot_of t x) → (waiting t x ≡ true → OtherThanSpot store (target_of t x))
      → Stands g before t x b → Stands g after t x b
  stands_kept s store stored x b below live target there =
      let a = spots_apart t s in
      record {
        at_live = stored.spots_kept (live_spot_of t x) (rw same (a.live_within x below).row) live ∙ there.at_live;
        at_target = λ e.
            stored.spots_kept (target_of t x) (rw same (a.target_within x (a.waiting_unrecorded x e)).row) (target e)
            ∙ there.at_target e;
      }

  -- a write, whole or torn: what the block then has in the plain volume, if anything, is what was stored
  pub held_written : Stage t → (x : ℕ) → x < open_blocks t → waiting t x ≡ false → (b : List ℕ) (new : Option (List ℕ))
      → ((c : List ℕ) → new ≡ some c → b ≡ c)
      → Stored g (block_store (live_spot_of t x) b) before after → Held g after t (λ y. cond (eqb y x) new (bytes y))
  unfolding Holds OtherThanSpot
  held_written s x below idle b new right stored =
      record {
        stands = λ y c k e.
            by_test (eqb y x) (λ f. itself y c (eqb-true y x f) (rw f at e)) (λ f. other y c k (eqb-false y x f) (rw f at e));
      }
    where
      a : SpotsApart t
      a = spots_apart t s

      itself : (y : ℕ) (c : List ℕ) → y ≡ x → new ≡ some c → Stands g after t y c
      itself y c f e =
          subst (λ (z : ℕ). Stands g after t z c) (sym f)
          (record { at_live = stored.read_back ∙ right c e; at_target = λ k. clash k idle })

      other : (y : ℕ) (c : List ℕ) → y < open_blocks t → (y ≡ x → ⊥) → bytes y ≡ some c → Stands g after t y c
      other y c k f e =
          stands_kept s _ stored y c k (λ q. f (sym (a.live_distinct x y below k q)))
          (λ w q. a.target_free y x (a.waiting_unrecorded y w) below (sym q)) (h.stands y c k e)

  -- a copy, whole or torn
  pub held_target : Running t → (x : ℕ) → moves_now t x ≡ true → t.copied x ≡ false → (b : List ℕ)
      → Stored g (block_store (target_of t x) b) before after → Held g after t bytes
  unfolding OtherThanSpot
  held_target r x moves new b stored =
      record {
        stands = λ y c k e. stands_kept (running r) _ stored y c k (a.target_free x y not_yet k) (apart y) (h.stands y c k e);
      }
    where
      a : SpotsApart t
      a = spots_apart t (running r)

      not_yet : unrecorded t x ≡ true
      not_yet = copy_unrecorded t r x moves new

      apart : (y : ℕ) → waiting t y ≡ true → target_of t x ≡ target_of t y → ⊥
      apart y w q =
          let same_block : x ≡ y = a.target_distinct x y not_yet (a.waiting_unrecorded y w) q in
          clash (a.waiting_copied y w) (ap t.copied (sym same_block) ∙ new)

  -- a store to no spot: nothing, and a record
  held_elsewhere : Stage t → (store : Store) → ((q : Spot) → OtherThanSpot store q) → Stored g store before after → Held g after t bytes
  held_elsewhere s store other stored =
      record { stands = λ x b k e. stands_kept s store stored x b k (other _) (λ _. other _) (h.stands x b k e) }

  pub held_unchanged : Stage t → Stored g no_store before after → Held g after t bytes
  unfolding OtherThanSpot
  held_unchanged s = held_elsewhere s no_store (λ q. tt)

  pub held_recorded : Stage t → (sector : List ℕ) → Stored g (record_store sector) before after → Held g after t bytes
  unfolding OtherThanSpot
  held_recorded s sector = held_elsewhere s (record_store sector) (λ q. tt)

-- ---- the live spot while a growth runs, by whether the block has been moved

module _ (t : Tally) (on : t.mode ≡ growing) (x : ℕ) where
  live_new : moving t.rows t.counts x ≡ true → moved_blocks t x ≡ true → live_spot_of t x ≡ target_of t x
  unfolding live_spot at_new_spot target_of
  live_new e f = live_growing t on x ∙ rw (e, f)

  live_old : moved_blocks t x ≡ false → live_spot_of t x ≡ old_spot t.rows t.counts x
  unfolding live_spot at_new_spot
  live_old e = live_growing t on x ∙ rw (e, and-false (moving t.rows t.counts x))

  live_still : moving t.rows t.counts x ≡ false → live_spot_of t x ≡ old_spot t.rows t.counts x
  unfolding live_spot at_new_spot
  live_still e = live_growing t on x ∙ rw e

-- ---- which blocks have been moved

-- a is that the window is below w, c that it is w, p that the block is copied, q that it is recorded
only_copied : (a c p q : Bool) → (a || (c && p)) ≡ true → (a || (c && q)) ≡ false → (p && not q) ≡ true
only_copied true c p q e f = absurd (true≢false f)
only_copied false true p q e f = and_both e (ap not f)
only_copied false false p q e f = absurd (false≢true e)

copied_too : (a c p q : Bool) → (q ≡ true → p ≡ true) → (a || (c && q)) ≡ true → (a || (c && p)) ≡ true
copied_too true c p q f e = refl
copied_too false true p q f e = f e
copied_too false false p q f e = e

module _ (s : ℕ) (k : List ℕ) (w x : ℕ) where
  window_reached : (blocks : ℕ → Bool) → recorded_by s k w blocks x ≡ true → window_of s k x ≤ w
  unfolding recorded_by
  window_reached blocks e =
      by_test (ltb (window_of s k x) w) (λ f. omega (arith, ltb-true (window_of s k x) w f))
      (λ f.
      let i : window_of s k x ≡ w = eqb-true (window_of s k x) w (and_left (eqb (window_of s k x) w) (blocks x) (rw f at e)) in
      omega (arith, i))

  window_passed : recorded_by s k w no_block x ≡ true → window_of s k x < w
  unfolding recorded_by no_block
  window_passed e =
      by_test (ltb (window_of s k x) w) (λ f. ltb-true (window_of s k x) w f)
      (λ f. absurd (false≢true (and_right (eqb (window_of s k x) w) false (rw f at e))))

module _ (t : Tally) (x : ℕ) where
  abbrev window : ℕ
  window = window_of t.rows t.counts x

  -- the block would have been moved if all copied ones were recorded
  abbrev copied_by : Bool
  copied_by = recorded_by t.rows t.counts t.window t.copied x

  copied_waits : copied_by ≡ true → moved_blocks t x ≡ false → (t.copied x && not (t.recorded x)) ≡ true
  unfolding moved_blocks recorded_by
  copied_waits = only_copied (ltb window t.window) (eqb window t.window) (t.copied x) (t.recorded x)

  moved_copied : Running t → moved_blocks t x ≡ true → copied_by ≡ true
  unfolding moved_blocks recorded_by
  moved_copied r = copied_too (ltb window t.window) (eqb window t.window) (t.copied x) (t.recorded x) (r.recorded_copied x)

  -- a moving block of a full window or of one below it
  full_moved : window_full t ≡ true → moving t.rows t.counts x ≡ true → window ≤ t.window → copied_by ≡ true
  unfolding recorded_by moves_now moving_in
  full_moved full e k =
      by_test (ltb window t.window) (λ f. rw f)
      (λ f.
      let i : window ≡ t.window = omega (arith, ltb-false window t.window f) in
      let c : t.copied x ≡ true = full_copied t full x (and_both e (eq-eqb _ _ i)) in
      simp (f, eq-eqb _ _ i, c))

-- where all copied blocks are recorded, none waits
pub none_waits : (mode : Mode) (b : Bool) → (is_running mode && (b && not b)) ≡ false
none_waits not_growing b = refl
none_waits growing true = refl
none_waits growing false = refl

-- ---- steps of the tally

module _ (g : Geometry) (o : Observations) (t : Tally) (bytes : ℕ → Option (List ℕ)) (h : Held g o t bytes) where
  pub held_copied : Running t → (x : ℕ) → moves_now t x ≡ true → ((b : List ℕ) → bytes x ≡ some b → o.bytes_at g (target_of t x) ≡ b)
      → Held g o (copied_tally x t) bytes
  unfolding copied_tally with_blocks open_blocks live_spot_of moved_blocks waiting target_of
  held_copied r x moves copy = record { stands = λ y c k e. also y c e (h.stands y c k e) }
    where
      also : (y : ℕ) (c : List ℕ) → bytes y ≡ some c → Stands g o t y c → Stands g o (copied_tally x t) y c
      also y c e there = record {
        at_live = there.at_live;
        at_target = λ k.
            by_test (eqb y x)
            (λ f. rw (eqb-true y x f) (copy c (rw (eqb-true y x f) at e)))
            (λ f. there.at_target (rw f at k));
      }

  pub held_unset : (blocks : ℕ → Bool) → Held g o t (λ y. cond (blocks y) none (bytes y))
  held_unset blocks =
      record {
        stands = λ x b k e.
            by_test (blocks x) (λ f. let z : ◌≡◌ {A = Option (List ℕ)} none (some b) = rw f at e in absurd (true≢false cc))
            (λ f. h.stands x b k (rw f at e));
      }

  pub held_restarted : Held g o (restarted_tally t) bytes
  unfolding restarted_tally with_blocks open_blocks live_spot_of moved_blocks waiting
  held_restarted =
      record {
        stands = λ x b k e.
            record { at_live = (h.stands x b k e).at_live; at_target = λ w. clash w (none_waits t.mode (t.recorded x)) };
      }

  -- where a copied block stands
  stands_at_target : Running t → (x : ℕ) (b : List ℕ) → moving t.rows t.counts x ≡ true → copied_by t x ≡ true
      → Stands g o t x b → o.bytes_at g (target_of t x) ≡ b
  stands_at_target r x b e k there =
      by_test (moved_blocks t x) (λ f. ap (o.bytes_at g) (sym (live_new t r.is_growing x e f)) ∙ there.at_live)
      (λ f. there.at_target (waiting_growing t r.is_growing x ∙ copied_waits t x k f))

  -- a checkpoint that leaves the growth running: some copied blocks are moved, and none waits
  module _ (r : Running t) (w : ℕ) (blocks : ℕ → Bool) where
    abbrev next : Tally
    next = record { rows = t.rows; counts = t.counts; mode = t.mode; window = w; copied = blocks; recorded = blocks }

    held_moved : ((x : ℕ) → moving t.rows t.counts x ≡ true → moved_blocks next x ≡ true → copied_by t x ≡ true)
        → ((x : ℕ) → moved_blocks t x ≡ true → moved_blocks next x ≡ true) → Held g o next bytes
    unfolding open_blocks waiting target_of
    held_moved copied kept =
        record {
          stands = λ x b k e.
              record { at_live = lives x b (h.stands x b k e); at_target = λ f. clash f (none_waits t.mode (blocks x)) };
        }
      where
        lives : (x : ℕ) (b : List ℕ) → Stands g o t x b → o.bytes_at g (live_spot_of next x) ≡ b
        lives x b there =
            by_test (moving t.rows t.counts x)
            (λ e. by_test (moved_blocks next x)
            (λ f. ap (o.bytes_at g) (live_new next r.is_growing x e f) ∙ stands_at_target r x b e (copied x e f) there)
            (λ f. same (live_old next r.is_growing x f ∙ sym (live_old t r.is_growing x (not_before f)))))
            (λ e. same (live_still next r.is_growing x e ∙ sym (live_still t r.is_growing x e)))
          where
            same : live_spot_of next x ≡ live_spot_of t x → o.bytes_at g (live_spot_of next x) ≡ b
            same e = ap (o.bytes_at g) e ∙ there.at_live

            not_before : moved_blocks next x ≡ false → moved_blocks t x ≡ false
            not_before f = by_test (moved_blocks t x) (λ k. clash (kept x k) f) (λ k. k)

  -- a checkpoint in its three cases
  pub held_part : Running t → Held g o (with_blocks t t.copied t.copied) bytes
  unfolding with_blocks moved_blocks
  held_part r = held_moved r t.window t.copied (λ x e f. f) (λ x. moved_copied t x r)

  pub held_next_window : Running t → window_full t ≡ true → Held g o (next_window_tally t) bytes
  unfolding next_window_tally moved_blocks recorded_by no_block
  held_next_window r full =
      held_moved r (suc t.window) no_block
      (λ x e f. full_moved t x full e (omega (arith, window_passed t.rows t.counts (suc t.window) x f)))
      (λ x f.
      let reached = window_reached t.rows t.counts t.window x t.recorded f in
      rw (lt-ltb (window_of t.rows t.counts x) (suc t.window) (omega (arith, reached))))

  pub held_finished : Running t → window_full t ≡ true → last_window t ≡ true
      → Held g o (finished_tally t) (λ x. cond (ltb x (open_blocks t)) (bytes x) none)
  unfolding finished_tally live_spot_of waiting target_of last_window
  held_finished r full last =
      record {
        stands = λ x b k e.
            record {
              at_live =
                  by_test (ltb x (open_blocks t)) (λ f. set x b (ltb-true _ _ f) (h.stands x b (ltb-true _ _ f) (rw f at e)))
                  (λ f. let z : ◌≡◌ {A = Option (List ℕ)} none (some b) = rw f at e in absurd (true≢false cc));
              at_target = λ f. absurd (false≢true f);
            };
      }
    where
      reached : (x : ℕ) → moving t.rows t.counts x ≡ true → window_of t.rows t.counts x ≤ t.window
      reached x e =
          let below = (layout_laws.marks_and_blocks t.rows t.counts r.rise r.some_old).in_windows x e in
          omega (arith, below, eqb-true (suc t.window) _ last)

      set : (x : ℕ) (b : List ℕ) → x < open_blocks t → Stands g o t x b → o.bytes_at g (spot_of t.rows t.counts x) ≡ b
      set x b k there =
          by_test (moving t.rows t.counts x)
          (λ e. stands_at_target r x b e (full_moved t x full e (reached x e)) there)
          (λ e.
          let stays = (layout_laws.moving_blocks t.rows t.counts r.rise r.some_old).stays x in
          ap (o.bytes_at g) (stays (rw (open_growing t r.is_growing) at k) e ∙ sym (live_still t r.is_growing x e)) ∙ there.at_live)

  pub held_grown : Resting t → (count : ℕ) → Held g o (grown_tally count t) bytes
  unfolding grown_tally open_blocks old_count earlier live_spot_of moved_blocks old_spot waiting no_block
  held_grown r count =
      record {
        stands = λ x b k e.
            record {
              at_live =
                  ap (o.bytes_at g) (live_old (grown_tally count t) refl x (not_yet x) ∙ rest x)
                  ∙ (h.stands x b (rw r.is_resting k) e).at_live;
              at_target = λ f. absurd (false≢true f);
            };
      }
    where
      not_yet : (x : ℕ) → recorded_by t.rows (count ∷ t.counts) 0 no_block x ≡ false
      not_yet x =
          by_test (recorded_by t.rows (count ∷ t.counts) 0 no_block x)
          (λ e. absurd (omega (arith, window_passed t.rows (count ∷ t.counts) 0 x e))) (λ e. e)

      rest : (x : ℕ) → spot_of t.rows t.counts x ≡ live_spot_of t x
      rest x = rw r.is_resting
