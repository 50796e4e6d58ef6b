-- The record of a sound state reads back as that state with copied set to recorded, and what is read as a sound state is that
-- state's record.
use Prim.Native.Nat.{ℕ, ◌+◌, ◌^◌, ◌≤◌, ◌<◌}
use mathlib.Core.Path.{◌≡◌, refl, sym, ap, ◌∙◌}
use mathlib.Core.Bool.{Bool, true, false, false≢true}
use mathlib.Core.List.{List}
use mathlib.Core.Logic.{◌≢◌}
use native.Mathlib.Decide.{ℕ_discrete}
use native.Mathlib.Omega.{arith}
use lib.Dec.{ltb, leb}
use lib.ListN.{length, get_or}
use borrow.Author.Tests.{ltb-true, leb-true, leb-false}
use Rattle.base.proofs.Booleans.{and_left, and_right, by_test, clash}
use Rattle.layout.specs.History.{old_count, added_count}
use Rattle.layout.proofs.HistoryCode.{history_disks, growths_most, limits_at, newest_old}
use Rattle.layout.proofs.Theorems.{some_added}
use Rattle.layout.proofs.WindowsCode.{windows_most}
use Rattle.marks.specs.Marks.{within}
use Rattle.marks.proofs.MarkSets.{within_use, within_make, within_self}
use Rattle.medium.specs.Medium.{record_bytes}
use Rattle.std.specs.Prelude.{Result, Ok, Err, is_ok}
use Rattle.base.specs.declared.Refusal.{Refusal}
use Rattle.record.specs.declared.Record.{Record}
use Rattle.record.specs.Decimal.{column_width}
use Rattle.record.specs.Laws.{Writable}
use Rattle.record.specs.Sector.{is_blank, sector, read_record}
use Rattle.record.proofs.Theorems.{record_laws}
use Rattle.volume.specs.declared.Volume.{Volume}
use Rattle.volume.specs.Laws.{SoundFacts, RestFacts, GrowthFacts}
use Rattle.volume.specs.Records.{numbers_of, record_of, state_of, state_found, state_read, is_sound_record}
use Rattle.volume.specs.Sound.{moving_of, sound}
use Rattle.volume.specs.States.{history_of, tally_of, with_growth, recorded_only, with_pending, none_pending, new_state}
use Rattle.volume.proofs.NumberLists.{numbers_each, state_back, numbers_back}
use Rattle.volume.proofs.RecordCode.{numbers_listed}
use Rattle.volume.proofs.SoundLaws.{sound_facts, facts_sound}
use Rattle.marks.specs.Words.{marks_of}
use Rattle.base.proofs.Bits.{bits_length}
use Rattle.marks.proofs.MarkWords.{word_of_marks, marks_of_word}

-- ---- a record can hold a sound state

blank_between : (t i : ℕ) → is_blank t i ≡ true → (3 + t < i) × (i < 11)
unfolding is_blank
blank_between t i e = (ltb-true _ _ (and_left (ltb (3 + t) i) (ltb i 11) e), ltb-true _ _ (and_right (ltb (3 + t) i) (ltb i 11) e))

-- fits in ten digits
abbrev fits : (n : ℕ) → Type 0
fits n = n < 10 ^ column_width

module _ (v : Volume) (f : SoundFacts v) where
  growths_small : v.growths ≤ 7
  unfolding history_of
  growths_small = growths_most v.rows v.growths v.counts f.limits

  count_small : (k : ℕ) → k < 8 → fits (get_or v.counts k 0)
  unfolding history_of
  count_small k h =
      by_test (leb k v.growths)
      (λ e. omega (arith, history_disks k v.counts, (limits_at v.rows v.growths k v.counts f.limits (leb-true _ _ e)).disks_most))
      (λ e. omega (arith, f.zeros_after_law k h (leb-false _ _ e)))

  growing_small : fits v.growing
  growing_small = elim (ℕ_discrete v.growing 0) [ yes e ↦ omega (arith, e) | no e ↦ omega (arith, (f.while_growing e).growing_one) ]

  window_rows : GrowthFacts v → v.window < v.rows
  unfolding history_of
  window_rows g =
      let o = newest_old v.rows v.growths v.counts g.has_growth f.limits in
      omega (arith, g.window_below, windows_most (old_count (history_of v)) (added_count (history_of v)) v.rows (some_added v.rows (history_of v) f.limits.rise o))

  window_small : fits v.window
  window_small =
      elim (ℕ_discrete v.growing 0) [
        | yes e ↦ omega (arith, (f.at_rest_law e).window_zero)
        | no e ↦ omega (arith, window_rows (f.while_growing e), f.limits.rows_most)
      ]

  -- a column after N[t] holds 0
  blank_is_zero : (i : ℕ) → i < 13 → is_blank (get_or (numbers_of v) 2 0) i ≡ true → get_or (numbers_of v) i 0 ≡ 0
  unfolding numbers_of
  blank_is_zero i h =
      numbers_each v f.counts_length (λ j n. is_blank v.growths j ≡ true → n ≡ 0)
      (λ e. omega (arith, (blank_between _ _ e).0))
      (λ e. omega (arith, (blank_between _ _ e).0))
      (λ e. omega (arith, (blank_between _ _ e).0))
      (λ k l e. f.zeros_after_law k l (omega (arith, (blank_between _ _ e).0)))
      (λ e. omega (arith, (blank_between _ _ e).1))
      (λ e. omega (arith, (blank_between _ _ e).1))
      i h

  writable : Writable (numbers_of v) (marks_of v.recorded)
  writable =
      record {
        numbers_length = ap length (numbers_listed v f.counts_length);
        marks_length = bits_length 64 v.recorded;
        small = numbers_each v f.counts_length (λ i n. fits n) (omega (arith, f.size_most)) (omega (arith, f.limits.rows_most))
            (omega (arith, growths_small)) count_small growing_small window_small;
        blank_zero = blank_is_zero;
      }

-- ---- the recorded marks alone

within_within : (a b c : List Bool) → within a b ≡ true → within b c ≡ true → within a c ≡ true
within_within a b c e f = within_make a c (λ j h t. within_use b c f j h (within_use a b e j h t))

recorded_rest : (v : Volume) → RestFacts v → RestFacts (recorded_only v)
unfolding recorded_only with_pending with_growth
recorded_rest v r = record { window_zero = r.window_zero; none_recorded = r.none_recorded; none_copied = r.none_recorded }

recorded_growth : (v : Volume) → GrowthFacts v → GrowthFacts (recorded_only v)
unfolding recorded_only with_pending with_growth history_of tally_of moving_of
recorded_growth v g =
    record {
      growing_one = g.growing_one;
      has_growth = g.has_growth;
      window_below = g.window_below;
      recorded_copied = within_self (marks_of v.recorded);
      copied_moving = within_within (marks_of v.recorded) (marks_of v.copied) _ g.recorded_copied g.copied_moving;
      one_unrecorded = g.one_unrecorded;
    }

recorded_facts : (v : Volume) → SoundFacts v → SoundFacts (recorded_only v)
unfolding recorded_only with_pending with_growth history_of
recorded_facts v f =
    record {
      counts_length = f.counts_length;
      recorded_fits = f.recorded_fits;
      copied_fits = f.recorded_fits;
      size_least = f.size_least;
      size_most = f.size_most;
      size_steps = f.size_steps;
      limits = f.limits;
      zeros_after_law = f.zeros_after_law;
      at_rest_law = λ e. recorded_rest v (f.at_rest_law e);
      while_growing = λ e. recorded_growth v (f.while_growing e);
    }

pub recorded_sound : (v : Volume) → sound v ≡ true → sound (recorded_only v) ≡ true
recorded_sound v e = facts_sound (recorded_only v) (recorded_facts v (sound_facts v e))

-- ---- the laws of records

pub record_length : (v : Volume) → length (record_of v) ≡ record_bytes
unfolding record_of
record_length v = record_laws.sector_length (numbers_of v) (marks_of v.recorded)

state_read_law : (v : Volume) → sound v ≡ true
    → (is_ok (read_record (record_of v)) ≡ true) × (state_read (record_of v) ≡ recorded_only v)
unfolding record_of state_read state_found recorded_only
state_read_law v e =
    let f = sound_facts v e in
    let r = record_laws.written_is_read (numbers_of v) (marks_of v.recorded) (writable v f) in
    (rw r, rw r (rw (word_of_marks v.recorded f.recorded_fits) at (state_back v f.counts_length (marks_of v.recorded))))

pub record_read : (v : Volume) → sound v ≡ true → (is_sound_record (record_of v) ≡ true) × (state_read (record_of v) ≡ recorded_only v)
unfolding is_sound_record
record_read v e = let r = state_read_law v e in (rw (r.0, r.1) (recorded_sound v e), r.1)

pub read_sound : (bytes : List ℕ) → is_sound_record bytes ≡ true → sound (state_read bytes) ≡ true
unfolding is_sound_record
read_sound bytes e = and_right (is_ok (read_record bytes)) (sound (state_read bytes)) e

record_found : (r : Result Record Refusal) → is_ok r ≡ true → (found : Record) × (r ≡ Ok found)
record_found (Ok found) e = (found, refl)
record_found (Err refusal) e = absurd (false≢true e)

pub read_recorded : (bytes : List ℕ) → is_sound_record bytes ≡ true → record_of (state_read bytes) ≡ bytes
unfolding is_sound_record record_of state_read state_found state_of with_growth
read_recorded bytes e =
    let (found, is) = record_found (read_record bytes) (and_left (is_ok (read_record bytes)) (sound (state_read bytes)) e) in
    let r = record_laws.read_is_written bytes found is in
    rw is
    (ap (λ (l : List Bool). sector (numbers_of (state_of found.numbers found.marks)) l) (marks_of_word found.marks r.0.marks_length)
    ∙ ap (λ (l : List ℕ). sector l found.marks) (numbers_back found.numbers found.marks r.0.numbers_length) ∙ sym r.1)

pub read_no_copies : (bytes : List ℕ) → recorded_only (state_read bytes) ≡ state_read bytes
unfolding recorded_only with_pending state_read state_found state_of with_growth new_state none_pending
read_no_copies bytes = by (read_record bytes)
  where
    by : (r : Result Record Refusal) → recorded_only (state_found r) ≡ state_found r
    by (Ok found) = refl
    by (Err refusal) = refl

pub not_a_record : (bytes : List ℕ) → is_sound_record bytes ≡ false → (v : Volume) → sound v ≡ true → record_of v ≢ bytes
not_a_record bytes f v e q = clash (record_read v e).0 (rw q f)
