-- The states that accepted calls hand back are sound.
use Prim.Native.Nat.{ℕ, zero, suc, ◌≤◌, ◌<◌, ◌^◌}
use mathlib.Core.Path.{◌≡◌, refl, ◌∙◌}
use mathlib.Core.Bool.{Bool, true, false}
use mathlib.Core.List.{List}
use mathlib.Core.Logic.{◌≢◌}
use native.Mathlib.Nat.{zero-div}
use native.Mathlib.Numerals.{add-one}
use native.Mathlib.Omega.{arith}
use lib.ListN.{length, get_or, set, replicate, get_or-replicate, length-replicate, length-set}
use lib.Seq.{get_or-set_same, get_or-set_other}
use borrow.Author.Tests.{eqb-false}
use Rattle.base.specs.Refusals.{refusal}
use Rattle.base.proofs.Booleans.{cond_cases}
use Rattle.layout.specs.History.{history, rising, old_count, added_count}
use Rattle.layout.specs.Limits.{Limits, most_disks, most_growths, most_rows}
use Rattle.layout.specs.Tally.{moves_now, window_full, last_window}
use Rattle.layout.specs.Windows.{windows, moving_in, mark_of, marked_blocks, all_copied}
use Rattle.layout.proofs.HistoryCode.{history_disks, rising_first, rising_more, limits_made, newest_old}
use Rattle.layout.proofs.MarkSpots.{row_window}
use Rattle.layout.proofs.Theorems.{some_added}
use Rattle.marks.specs.Marks.{mark_count, within}
use Rattle.marks.proofs.MarkSets.{within_self, none_within, set_within, within_set, its_mark, one_unmarked, all_by_marks, some_moving}
use Rattle.medium.specs.Medium.{Observations}
use Rattle.volume.specs.declared.Pending.{Pending}
use Rattle.volume.specs.declared.Volume.{Volume}
use Rattle.volume.specs.Calls.{format_table, restart_table, sector_table, grow_table_of}
use Rattle.volume.specs.Laws.{RestFacts, GrowthFacts, SoundFacts}
use Rattle.volume.specs.Records.{state_read}
use Rattle.volume.specs.Sound.{rows_hold, disks_hold, limits_hold, stage_holds, types_hold, moving_of, sound}
use Rattle.volume.specs.States.{history_of, disks, tally_of, new_state, with_pending, with_growth, grown, in_stage, with_copy, checkpointed}
use Rattle.volume.proofs.Accepted.{GrowFacts, format_accepted, restart_accepted, sector_accepted, grow_accepted}
use Rattle.volume.proofs.RecordLaws.{read_sound}
use Rattle.volume.proofs.SoundLaws.{SizeFacts, size_facts, from_one, sound_facts, some_old, facts_sound}
use Rattle.base.specs.Bits.{word_of}
use Rattle.marks.specs.Words.{marks_of}
use Rattle.base.proofs.Bits.{bits_length}
use Rattle.marks.proofs.MarkWords.{no_marks_law, marks_of_word, word_of_fits}

-- ---- what is pending

pub pending_sound : (v : Volume) (p : Pending) → sound (with_pending v p) ≡ sound v
unfolding sound with_pending types_hold limits_hold stage_holds history_of
pending_sound v p = refl

-- ---- format

abbrev first_counts : (n : ℕ) → List ℕ
first_counts n = set (replicate 8 0) 0 n

new_facts : (z s n : ℕ) → SizeFacts z → (0 < s) × (s ≤ most_rows) → (0 < n) × (n ≤ most_disks) → SoundFacts (new_state z s n)
unfolding new_state history_of
new_facts z s n size rows count =
    let first : get_or (first_counts n) 0 0 ≡ n = get_or-set_same (replicate 8 0) 0 n 0 (omega (arith, length-replicate {A = ℕ} 8 0)) in
    record {
      counts_length = length-set (replicate 8 0) 0 n ∙ length-replicate {A = ℕ} 8 0;
      recorded_fits = omega arith;
      copied_fits = omega arith;
      size_least = size.least;
      size_most = size.most;
      size_steps = size.steps;
      limits =
          limits_made s 0 0 (first_counts n) rows.0 rows.1 (omega arith) (omega arith) (omega arith)
          (rising_first (first_counts n) (omega (arith, first))) (omega (arith, first));
      zeros_after_law = λ i h k. get_or-set_other (replicate 8 0) 0 i n 0 (λ e. omega arith) ∙ get_or-replicate {A = ℕ} 8 i 0 0 h;
      at_rest_law = λ e. record { window_zero = refl; none_recorded = refl; none_copied = refl };
      while_growing = λ f. absurd (f refl);
    }

pub format_sound : (z s n byte_count : ℕ) → refusal (format_table z s n byte_count) ≡ 0 → sound (new_state z s n) ≡ true
unfolding rows_hold disks_hold
format_sound z s n byte_count e =
    let f = format_accepted z s n byte_count e in
    facts_sound (new_state z s n)
    (new_facts z s n (size_facts z f.size_holds_law) (from_one s most_rows f.rows_hold_law) (from_one n most_disks f.disks_hold_law))

-- ---- restart

pub restart_sound : (o : Observations) → refusal (restart_table o) ≡ 0 → sound (state_read o.sector) ≡ true
restart_sound o e = read_sound o.sector (restart_accepted o e).is_record

pub sector_sound : (o : Observations) → refusal (sector_table o) ≡ 0 → sound (state_read o.sector) ≡ true
sector_sound o e = read_sound o.sector (sector_accepted o e).1

-- ---- grow

-- a history is that of the counts up to the newest
pub history_same : (t : ℕ) (a b : List ℕ) → ((i : ℕ) → i ≤ t → get_or a i 0 ≡ get_or b i 0) → history t a ≡ history t b
unfolding history
history_same zero a b f = rw (f 0 (omega arith))
history_same (suc t) a b f = rw (f (suc t) (omega arith), history_same t a b (λ i h. f i (omega arith)))

module _ (s t : ℕ) (l : List ℕ) (count : ℕ) (a : Limits s (history t l)) (long : length l ≡ 8) (few : t < most_growths)
    (up : get_or l t 0 < count) (most : count ≤ most_disks) where
  abbrev more_counts : List ℕ
  more_counts = set l (suc t) count

  new_count : get_or more_counts (suc t) 0 ≡ count
  new_count = get_or-set_same l (suc t) count 0 (omega arith)

  old_count_law : (i : ℕ) → (i ≡ suc t → ⊥) → get_or more_counts i 0 ≡ get_or l i 0
  old_count_law i h = get_or-set_other l (suc t) i count 0 h

  rises_on : rising (history (suc t) more_counts) ≡ true
  rises_on =
      let r : rising (history t more_counts) ≡ true =
      rw (history_same t more_counts l (λ i h. old_count_law i (λ e. omega arith))) a.rise in
      let up_on : get_or more_counts t 0 < get_or more_counts (suc t) 0 = rw (old_count_law t (λ e. omega arith), new_count) up in
      rw add-one at (rising_more t more_counts r (rw add-one up_on))

  more_limits : Limits s (history (suc t) more_counts)
  more_limits =
      limits_made s (suc t) (suc t) more_counts a.rows_least a.rows_most few (omega arith) (omega arith) rises_on (omega (arith, new_count))

-- a window that nothing has been copied in yet
window_starts : (v : Volume) (t : ℕ) (l : List ℕ) (stage w : ℕ) → Limits v.rows (history t l) → stage ≡ 1 → 0 < t
    → w < windows (old_count (history t l)) (added_count (history t l)) v.rows → GrowthFacts (with_growth v t l stage w 0 0)
unfolding with_growth history_of tally_of
window_starts v t l stage w a one some below =
    let old = newest_old v.rows t l some a in
    record {
      growing_one = one;
      has_growth = some;
      window_below = below;
      recorded_copied = within_self (marks_of 0);
      copied_moving = rw no_marks_law (none_within _);
      one_unrecorded = one_unmarked v.rows (history t l) a old w (marks_of 0) (rw no_marks_law (some_moving v.rows (history t l) a old w below));
    }

first_window : (s t : ℕ) (l : List ℕ) → Limits s (history t l) → 0 < t → 0 < windows (old_count (history t l)) (added_count (history t l)) s
first_window s t l a some =
    let m = old_count (history t l) in
    let n = added_count (history t l) in
    let old : 0 < old_count (history t l) = newest_old s t l some a in
    rw zero-div at (row_window m n old (some_added s (history t l) a.rise old) s 0 a.rows_least)

grown_facts : (v : Volume) (count len : ℕ) → GrowFacts v count len → SoundFacts (grown v count)
unfolding grown with_growth history_of disks tally_of
grown_facts v count len f =
    let t = v.growths in
    let more : List ℕ = set v.counts (suc t) count in
    let m = f.may in
    let g = sound_facts v m.is_sound in
    let up : get_or v.counts t 0 < count = omega (arith, m.more_disks, history_disks t v.counts) in
    let l = more_limits v.rows t v.counts count g.limits g.counts_length m.one_more up m.disks_most in
    record {
      counts_length = length-set v.counts (suc t) count ∙ g.counts_length;
      recorded_fits = omega arith;
      copied_fits = omega arith;
      size_least = g.size_least;
      size_most = g.size_most;
      size_steps = g.size_steps;
      limits = l;
      zeros_after_law = λ i h k. get_or-set_other v.counts (suc t) i count 0 (λ e. omega arith) ∙ g.zeros_after_law i h (omega arith);
      at_rest_law = λ e. absurd (omega arith);
      while_growing = λ e. window_starts v (suc t) more 1 0 l refl (omega arith) (first_window v.rows (suc t) more l (omega arith));
    }

pub grown_sound : (limited : Bool) (v : Volume) (count byte_count : ℕ) → refusal (grow_table_of limited v count byte_count) ≡ 0
    → sound (grown v count) ≡ true
grown_sound limited v count byte_count e =
    facts_sound (grown v count) (grown_facts v count byte_count (grow_accepted limited v count byte_count e))

-- ---- copy and checkpoint

-- the same history, in a stage that is sound
staged_sound : (v : Volume) (stage w : ℕ) (recorded copied : ℕ) → SoundFacts v → recorded < 2 ^ mark_count → copied < 2 ^ mark_count
    → (stage ≡ 0 → RestFacts (in_stage v stage w recorded copied)) → (stage ≢ 0 → GrowthFacts (in_stage v stage w recorded copied))
    → sound (in_stage v stage w recorded copied) ≡ true
unfolding with_growth history_of
staged_sound v stage w recorded copied f a b rest growth =
    facts_sound (in_stage v stage w recorded copied)
    (record {
      counts_length = f.counts_length;
      recorded_fits = a;
      copied_fits = b;
      size_least = f.size_least;
      size_most = f.size_most;
      size_steps = f.size_steps;
      limits = f.limits;
      zeros_after_law = f.zeros_after_law;
      at_rest_law = rest;
      while_growing = growth;
    })

-- the copied marks with that of block x set
module _ (v : Volume) (x : ℕ) where
  abbrev more_marks : List Bool
  more_marks = set (marks_of v.copied) (mark_of v.rows (history_of v) x) true

  more_length : length more_marks ≡ mark_count
  more_length = length-set (marks_of v.copied) (mark_of v.rows (history_of v) x) true ∙ bits_length 64 v.copied

  pub copied_marks : marks_of (with_copy v x).copied ≡ set (marks_of v.copied) (mark_of v.rows (history_of v) x) true
  unfolding with_copy with_growth
  copied_marks = marks_of_word more_marks more_length

module _ (v : Volume) (e : sound v ≡ true) (runs : v.growing ≢ 0) where
  facts : SoundFacts v
  facts = sound_facts v e

  growth : GrowthFacts v
  growth = facts.while_growing runs

  old : 0 < old_count (history_of v)
  old = some_old v e runs

  -- the same window with other marks
  with_marks : (recorded copied : ℕ) → recorded < 2 ^ mark_count → copied < 2 ^ mark_count → within (marks_of recorded) (marks_of copied) ≡ true
      → within (marks_of copied) (moving_of v) ≡ true
      → (x : ℕ) × (moving_in v.rows (history_of v) v.window x ≡ true) × (marked_blocks v.rows (history_of v) v.window (marks_of recorded) x ≡ false)
      → sound (in_stage v v.growing v.window recorded copied) ≡ true
  unfolding with_growth tally_of history_of moving_of
  with_marks recorded copied a b inside moving left =
      staged_sound v v.growing v.window recorded copied facts a b (λ z. absurd (runs z))
      (λ _.
      record {
        growing_one = growth.growing_one;
        has_growth = growth.has_growth;
        window_below = growth.window_below;
        recorded_copied = inside;
        copied_moving = moving;
        one_unrecorded = left;
      })

  with_copy_law : (x : ℕ) → moves_now (tally_of v) x ≡ true → sound (with_copy v x) ≡ true
  unfolding with_copy with_growth tally_of moves_now moving_of
  with_copy_law x m =
      let j = mark_of v.rows (history_of v) x in
      let mark = its_mark v.rows (history_of v) facts.limits old v.window x m in
      let back = copied_marks v x in
      with_marks v.recorded (word_of (more_marks v x)) facts.recorded_fits (word_of_fits (more_marks v x) (more_length v x))
      (rw back (within_set (marks_of v.recorded) (marks_of v.copied) j (omega (arith, mark.0, bits_length 64 v.copied)) growth.recorded_copied))
      (rw back (set_within (marks_of v.copied) (moving_of v) j growth.copied_moving mark.1)) growth.one_unrecorded

  -- a window that is not full has a block to copy
  one_uncopied : window_full (tally_of v) ≡ false
      → (x : ℕ) × (moving_in v.rows (history_of v) v.window x ≡ true) × ((tally_of v).copied x ≡ false)
  unfolding tally_of window_full all_copied moves_now history_of
  one_uncopied not_full =
      let full = all_by_marks v.rows (history_of v) facts.limits old v.window (marks_of v.copied) in
      one_unmarked v.rows (history_of v) facts.limits old v.window (marks_of v.copied) (full ∙ not_full)

  -- the three states that a checkpoint may hand back
  recorded_on : window_full (tally_of v) ≡ false → sound (in_stage v v.growing v.window v.copied v.copied) ≡ true
  unfolding tally_of
  recorded_on not_full =
      with_marks v.copied v.copied facts.copied_fits facts.copied_fits (within_self (marks_of v.copied)) growth.copied_moving
      (one_uncopied not_full)

  next_window : last_window (tally_of v) ≡ false → sound (in_stage v v.growing (suc v.window) 0 0) ≡ true
  unfolding last_window tally_of history_of
  next_window not_last =
      let end = windows (old_count (history_of v)) (added_count (history_of v)) v.rows in
      staged_sound v v.growing (suc v.window) 0 0 facts (omega arith) (omega arith) (λ z. absurd (runs z))
      (λ _.
      window_starts v v.growths v.counts v.growing (suc v.window) facts.limits growth.growing_one growth.has_growth
      (omega (arith, growth.window_below, eqb-false (suc v.window) end not_last)))

  finished : sound (in_stage v 0 0 0 0) ≡ true
  unfolding with_growth
  finished =
      staged_sound v 0 0 0 0 facts (omega arith) (omega arith)
      (λ _. record { window_zero = refl; none_recorded = refl; none_copied = refl })
      (λ f. absurd (f refl))

  pub checkpointed_sound : sound (checkpointed v) ≡ true
  unfolding checkpointed
  checkpointed_sound =
      cond_cases (λ u. sound u ≡ true) (window_full (tally_of v))
      (λ _. cond_cases (λ u. sound u ≡ true) (last_window (tally_of v)) (λ _. finished) next_window)
      recorded_on

pub copied_sound : (v : Volume) (x : ℕ) → sound v ≡ true → v.growing ≢ 0 → moves_now (tally_of v) x ≡ true → sound (with_copy v x) ≡ true
copied_sound v x e runs = with_copy_law v e runs x
