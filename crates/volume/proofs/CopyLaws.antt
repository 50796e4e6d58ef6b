-- Blocks that may be copied, and marks that are to be recorded.
use Prim.Native.Nat.{ℕ, ◌<◌}
use mathlib.Core.Path.{◌≡◌, refl, sym, ap}
use mathlib.Core.Bool.{Bool, true, false, not, ◌&&◌}
use mathlib.Core.Logic.{◌≢◌}
use mathlib.Core.Option.{some}
use native.Mathlib.Omega.{arith}
use lib.Dec.{eqb}
use borrow.Author.Tests.{eqb-true, eq-eqb, ne_eqb, le-ltb}
use Rattle.base.specs.Refusals.{refusal}
use Rattle.base.proofs.Booleans.{and_left, and_right, clash, by_test}
use Rattle.layout.specs.Live.{at_new_spot, live_spot}
use Rattle.layout.specs.Tally.{open_blocks, recorded_by, moved_blocks, live_spot_of, waiting, moves_now, source_of, next_block}
use Rattle.layout.specs.Windows.{moving, window_of, moving_in, marked_blocks}
use Rattle.layout.proofs.NextBlocks.{moving_in_old, next_some}
use Rattle.marks.proofs.MarkSets.{marked_within, within_marked}
use Rattle.marks.proofs.MarkWords.{words_both}
use Rattle.volume.specs.declared.Volume.{Volume}
use Rattle.volume.specs.Calls.{copy_table, nothing_to_record, advance_table}
use Rattle.volume.specs.Sound.{moving_of, sound}
use Rattle.volume.specs.States.{history_of, mode_of, tally_of}
use Rattle.volume.proofs.Accepted.{AdvanceFacts, CopyFacts, copy_accepted, advance_accepted}
use Rattle.volume.proofs.SoundLaws.{sound_facts, some_old}
use Rattle.marks.specs.Words.{marks_of}

-- ---- a moving block of window w

module _ (v : Volume) (x : ℕ) (runs : v.growing ≢ 0) (moves : moves_now (tally_of v) x ≡ true) where
  pub moves_open : x < open_blocks (tally_of v)
  unfolding open_blocks moves_now tally_of mode_of
  moves_open = rw (ne_eqb v.growing 0 runs) (moving_in_old v.rows (history_of v) v.window x moves)

  -- it is at its old spot until it is recorded
  at_old_spot : (tally_of v).recorded x ≡ false → live_spot_of (tally_of v) x ≡ source_of (tally_of v) x
  unfolding source_of live_spot_of live_spot at_new_spot moved_blocks recorded_by moves_now moving_in tally_of mode_of
  at_old_spot e =
      let s = v.rows in
      let h = history_of v in
      let m = and_left (moving s h x) (eqb (window_of s h x) v.window) moves in
      let w = and_right (moving s h x) (eqb (window_of s h x) v.window) moves in
      let k = eqb-true (window_of s h x) v.window w in
      rw (ne_eqb v.growing 0 runs, m, le-ltb (window_of s h x) v.window (omega (arith, k)), w, e)

-- in a sound state what is recorded is copied, so that it is there until it is copied
pub recorded_copied : (v : Volume) → sound v ≡ true → v.growing ≢ 0 → (x : ℕ) → (tally_of v).recorded x ≡ true → (tally_of v).copied x ≡ true
unfolding tally_of
recorded_copied v e runs =
    let f = sound_facts v e in
    marked_within v.rows (history_of v) f.limits (some_old v e runs) v.window (marks_of v.recorded) (marks_of v.copied)
    (f.while_growing runs).recorded_copied

pub source_spot : (v : Volume) (x : ℕ) → sound v ≡ true → v.growing ≢ 0 → moves_now (tally_of v) x ≡ true → (tally_of v).copied x ≡ false
    → live_spot_of (tally_of v) x ≡ source_of (tally_of v) x
source_spot v x e runs moves new =
    at_old_spot v x runs moves (by_test ((tally_of v).recorded x) (λ t. clash (recorded_copied v e runs x t) new) (λ t. t))

-- ---- the block that is copied

-- an advance copies a block that copy accepts
pub next_facts : (v : Volume) (x len : ℕ) → AdvanceFacts v len → next_block (tally_of v) ≡ some x → CopyFacts v x len
next_facts v x len f e =
    let k = next_some (tally_of v) x e in
    record { advances = f; block_open = moves_open v x f.is_growing k.0; moves = k.0; not_copied = k.1 }

pub lives_at_source : (v : Volume) (x len : ℕ) → CopyFacts v x len → live_spot_of (tally_of v) x ≡ source_of (tally_of v) x
lives_at_source v x len f = source_spot v x f.advances.is_sound f.advances.is_growing f.moves f.not_copied

pub copy_source : (v : Volume) (x byte_count : ℕ) → refusal (copy_table v x byte_count) ≡ 0
    → live_spot_of (tally_of v) x ≡ source_of (tally_of v) x
copy_source v x byte_count e = lives_at_source v x byte_count (copy_accepted v x byte_count e).0

pub advance_source : (v : Volume) (x byte_count : ℕ) → refusal (advance_table v byte_count) ≡ 0 → next_block (tally_of v) ≡ some x
    → live_spot_of (tally_of v) x ≡ source_of (tally_of v) x
advance_source v x byte_count e n = lives_at_source v x byte_count (next_facts v x byte_count (advance_accepted v byte_count e).0 n)

-- ---- no copy waits to be recorded

both_or_neither : (a b : Bool) → a ≡ b → (a && not b) ≡ false
both_or_neither true b e = rw (sym e)
both_or_neither false b e = refl

implied : (a b : Bool) → (a && not b) ≡ false → a ≡ true → b ≡ true
implied true true e f = refl
implied true false e f = clash refl e
implied false b e f = clash f refl

pub no_copy_waiting : (v : Volume) → sound v ≡ true → v.growing ≢ 0
    → (nothing_to_record v ≡ true → (x : ℕ) → waiting (tally_of v) x ≡ false) × (((x : ℕ) → waiting (tally_of v) x ≡ false) → nothing_to_record v ≡ true)
unfolding waiting tally_of mode_of moving_of
no_copy_waiting v e runs =
    let f = sound_facts v e in
    let g = f.while_growing runs in
    let copied = v.copied in
    let recorded = v.recorded in (
      (λ t x. rw (ne_eqb v.growing 0 runs) (both_or_neither _ _ (ap (λ (marks : ℕ). marked_blocks v.rows (history_of v) v.window (marks_of marks) x) (eqb-true copied recorded t)))),
      (λ w.
          eq-eqb copied recorded
          (words_both copied recorded f.copied_fits f.recorded_fits
          (within_marked v.rows (history_of v) f.limits (some_old v e runs) v.window (marks_of copied) (marks_of recorded) g.copied_moving
          (λ x. implied _ _ (rw (ne_eqb v.growing 0 runs) at (w x))))
          g.recorded_copied)),
    )
