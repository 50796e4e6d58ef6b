-- The tally of the state that a call hands back is the tally's own step.
use Prim.Native.Nat.{ℕ, zero, suc, ◌<◌}
use mathlib.Core.Path.{◌≡◌, refl, sym, ap, ◌∙◌, fun_ext}
use mathlib.Core.Bool.{Bool, true, false, cond, ◌&&◌, ◌||◌}
use mathlib.Core.List.{List, [], ◌∷◌}
use mathlib.Core.Logic.{◌≢◌}
use native.Mathlib.Decide.{ℕ_discrete}
use native.Mathlib.Omega.{arith}
use lib.Dec.{eqb}
use lib.ListN.{length, get_or, set, replicate, length-replicate}
use lib.Seq.{get_or-set_same, get_or-set_other}
use borrow.Author.Tests.{eqb-true, eq-eqb, ne_eqb}
use Rattle.base.proofs.Booleans.{and_left, and_right, by_test, clash}
use Rattle.layout.specs.History.{history, old_count}
use Rattle.layout.specs.Limits.{Limits, most_growths}
use Rattle.layout.specs.Tally.{Mode, not_growing, growing, Tally, moves_now, window_full, last_window}
use Rattle.layout.specs.Windows.{moving, window_of, moving_in, mark_of, block_of_mark, marked_blocks}
use Rattle.layout.proofs.Theorems.{layout_laws}
use Rattle.marks.specs.Marks.{mark_count, no_marks}
use Rattle.marks.proofs.MarkSets.{its_mark, marked_within}
use Rattle.volume.specs.declared.Volume.{Volume}
use Rattle.volume.specs.Sound.{sound}
use Rattle.volume.specs.States.{history_of, mode_of, tally_of, new_state, with_pending, with_growth, grown, recorded_only, with_copy, checkpointed}
use Rattle.volume.proofs.SoundLaws.{some_old}
use Rattle.volume.proofs.StatesSound.{history_same, copied_marks}
use Rattle.volume.proofs.Theorems.{volume_laws}
use Rattle.promise.specs.Model.{no_block, start_tally, grown_tally, with_blocks, copied_tally, next_window_tally, finished_tally, recorded_tally, restarted_tally}
use Rattle.promise.proofs.Tallies.{Running, Resting, Stage, running, resting}
use Rattle.marks.specs.Words.{marks_of}
use Rattle.base.proofs.Bits.{bits_length}
use Rattle.marks.proofs.MarkWords.{no_marks_law}

-- ---- marks, read as blocks

unmarked : (n j : ℕ) → get_or (replicate n false) j false ≡ false
unmarked zero j = refl
unmarked (suc n) zero = refl
unmarked (suc n) (suc j) = unmarked n j

none_marked : (s : ℕ) (h : List ℕ) (w : ℕ) → marked_blocks s h w no_marks ≡ no_block
unfolding marked_blocks no_marks no_block
none_marked s h w = fun_ext (λ x. rw (unmarked mark_count (mark_of s h x)) (neither (moving_in s h w x)))
  where
    neither : (a : Bool) → (a && false) ≡ false
    neither true = refl
    neither false = refl

module _ (s : ℕ) (h : List ℕ) (l : Limits s h) (old : 0 < old_count h) (w : ℕ) where
  -- two moving blocks of the window that have one mark are one
  same_mark : (x y : ℕ) → moving_in s h w x ≡ true → moving_in s h w y ≡ true → mark_of s h y ≡ mark_of s h x → y ≡ x
  unfolding moving_in
  same_mark x y f g e = sym (back y g) ∙ ap (block_of_mark s h w) e ∙ back x f
    where
      back : (z : ℕ) → (moving s h z && eqb (window_of s h z) w) ≡ true → block_of_mark s h w (mark_of s h z) ≡ z
      back z k =
          let own = (layout_laws.marks_and_blocks s h l.rise old).block_of_mark_law z (and_left (moving s h z) (eqb (window_of s h z) w) k) in
          rw (eqb-true (window_of s h z) w (and_right (moving s h z) (eqb (window_of s h z) w) k)) at own

  -- one mark more is one block more
  marked_one : (x : ℕ) → moving_in s h w x ≡ true → (marks : List Bool) → length marks ≡ mark_count → (y : ℕ)
      → marked_blocks s h w (set marks (mark_of s h x) true) y ≡ (eqb y x || marked_blocks s h w marks y)
  unfolding marked_blocks
  marked_one x m marks long y =
      by_test (moving_in s h w y)
      (λ e. elim (ℕ_discrete y x) [
        | yes q ↦ simp (e, eq-eqb y x q) (rw q (get_or-set_same marks (mark_of s h x) true false (omega (arith, (its_mark s h l old w x m).0, long))))
        | no q ↦ simp (e, ne_eqb y x q) (get_or-set_other marks (mark_of s h x) (mark_of s h y) true false (λ z. q (same_mark x y m e z)))
      ])
      (λ e. simp (e, ne_eqb y x (λ q. clash m (rw q at e))))

-- ---- the stage that a sound state is in

pub running_of : (v : Volume) → sound v ≡ true → v.growing ≢ 0 → Running (tally_of v)
unfolding tally_of mode_of moves_now marked_blocks
running_of v s on =
    let f = volume_laws.sound_facts v s in
    let g = f.while_growing on in
    let old = some_old v s on in
    record {
      is_growing = rw (ne_eqb v.growing 0 on);
      rise = f.limits.rise;
      some_old = old;
      window_below = g.window_below;
      recorded_copied = marked_within v.rows (history_of v) f.limits old v.window (marks_of v.recorded) (marks_of v.copied) g.recorded_copied;
      copied_moving = λ x e. and_left (moving_in v.rows (history_of v) v.window x) _ e;
    }

pub resting_of : (v : Volume) → sound v ≡ true → v.growing ≡ 0 → Resting (tally_of v)
unfolding tally_of mode_of
resting_of v s off = record { is_resting = rw (eq-eqb v.growing 0 off); rise = (volume_laws.sound_facts v s).limits.rise }

pub stage_of : (v : Volume) → sound v ≡ true → Stage (tally_of v)
stage_of v s =
    elim (ℕ_discrete v.growing 0) [ yes off ↦ resting (resting_of v s off) | no on ↦ running (running_of v s on) ]

-- ---- a state without marks

unmarked_tally : (s : ℕ) (h : List ℕ) (mode : Mode) (w : ℕ) → Tally
unmarked_tally s h mode w = record { rows = s; counts = h; mode = mode; window = w; copied = no_block; recorded = no_block }

tally_unmarked : (v : Volume) (t : ℕ) (counts : List ℕ) (stage w : ℕ)
    → tally_of (with_growth v t counts stage w 0 0) ≡ unmarked_tally v.rows (history t counts) (mode_of stage) w
unfolding with_growth tally_of history_of unmarked_tally
tally_unmarked v t counts stage w = rw (no_marks_law, none_marked v.rows (history t counts) w)

pub tally_new : (z s n : ℕ) → tally_of (new_state z s n) ≡ start_tally s n
unfolding new_state with_growth history mode_of unmarked_tally start_tally
tally_new z s n =
    tally_unmarked (new_state z s n) 0 (set (replicate 8 0) 0 n) 0 0
    ∙ ap (λ (c : ℕ). unmarked_tally s (c ∷ []) not_growing 0) (get_or-set_same (replicate 8 0) 0 n 0 (omega (arith, length-replicate {A = ℕ} 8 0)))

-- the new count is the first of the history
history_grown : (t : ℕ) (l : List ℕ) (count : ℕ) → suc t < length l → history (suc t) (set l (suc t) count) ≡ count ∷ history t l
unfolding history
history_grown t l count k =
    rw (get_or-set_same l (suc t) count 0 k, history_same t (set l (suc t) count) l (λ i h. get_or-set_other l (suc t) i count 0 (λ e. omega arith)))

pub tally_grown : (v : Volume) (count : ℕ) → sound v ≡ true → v.growths < most_growths → tally_of (grown v count) ≡ grown_tally count (tally_of v)
unfolding grown tally_of history_of mode_of unmarked_tally grown_tally
tally_grown v count s few =
    tally_unmarked v (suc v.growths) (set v.counts (suc v.growths) count) 1 0
    ∙ ap (λ (h : List ℕ). unmarked_tally v.rows h growing 0)
    (history_grown v.growths v.counts count (omega (arith, few, (volume_laws.sound_facts v s).counts_length)))

-- ---- restart and copy

pub tally_restarted : (v : Volume) → tally_of (recorded_only v) ≡ restarted_tally (tally_of v)
unfolding tally_of history_of recorded_only with_pending with_growth restarted_tally with_blocks
tally_restarted v = refl

pub tally_copied : (v : Volume) (x : ℕ) → sound v ≡ true → v.growing ≢ 0 → moves_now (tally_of v) x ≡ true
    → tally_of (with_copy v x) ≡ copied_tally x (tally_of v)
unfolding tally_of with_copy with_growth history_of copied_tally with_blocks moves_now
tally_copied v x s on moves =
    let f = volume_laws.sound_facts v s in
    ap (λ (copied : ℕ → Bool). with_blocks (tally_of v) copied (tally_of v).recorded)
    (ap (marked_blocks v.rows (history_of v) v.window) (copied_marks v x)
    ∙ fun_ext
    (marked_one v.rows (history_of v) f.limits (some_old v s on) v.window x moves (marks_of v.copied) (bits_length 64 v.copied)))

-- ---- checkpoint, in its three cases

tally_cond : (test : Bool) (u v : Volume) {a b : Tally} → tally_of u ≡ a → tally_of v ≡ b → tally_of (cond test u v) ≡ cond test a b
tally_cond true u v p q = p
tally_cond false u v p q = q

pub tally_checkpointed : (v : Volume) → sound v ≡ true → v.growing ≢ 0 → tally_of (checkpointed v) ≡ recorded_tally (tally_of v)
unfolding checkpointed with_growth tally_of history_of mode_of unmarked_tally recorded_tally finished_tally next_window_tally with_blocks
tally_checkpointed v s on =
    tally_cond (window_full (tally_of v)) _ _
    (tally_cond (last_window (tally_of v)) _ _
    (tally_unmarked v v.growths v.counts 0 0)
    (tally_unmarked v v.growths v.counts v.growing (suc v.window)))
    refl
