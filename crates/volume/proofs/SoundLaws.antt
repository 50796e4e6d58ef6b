-- What the test of soundness says: the facts of a sound state, and that they are enough.
use Prim.Native.Nat.{ℕ, ◌%◌, ◌≤◌, ◌<◌, ◌^◌}
use mathlib.Core.Path.{◌≡◌, refl, ap}
use mathlib.Core.Bool.{Bool, true, false, not, ◌&&◌, ◌||◌}
use mathlib.Core.List.{List}
use mathlib.Core.Logic.{◌≢◌}
use native.Mathlib.Omega.{arith}
use lib.Dec.{eqb, leb, ltb}
use lib.ListN.{length, get_or}
use borrow.Author.Tests.{leb-true, leb-false, le-leb, lt-leb, ltb-true, lt-ltb, eqb-true, eqb-false, eq-eqb, ne_eqb, not-true}
use Rattle.base.proofs.Booleans.{cond_cases, and_left, and_right, and_both, clash, by_test}
use Rattle.base.proofs.Counting.{every_use, every_make}
use Rattle.layout.specs.History.{disk_count, old_count, added_count, rising}
use Rattle.layout.specs.Limits.{Limits, most_disks, most_growths, most_rows}
use Rattle.layout.specs.Windows.{windows}
use Rattle.layout.proofs.HistoryCode.{history_length, growths_most, newest_old}
use Rattle.marks.specs.Marks.{mark_count, no_marks, within, zeros_after, at_rest, in_growth}
use Rattle.marks.proofs.MarkSets.{within_self, all_marked, one_unmarked}
use Rattle.marks.proofs.MarkWords.{no_marks_law, none_word}
use Rattle.medium.specs.Medium.{most_size}
use Rattle.volume.specs.declared.Volume.{Volume}
use Rattle.volume.specs.Laws.{RestFacts, GrowthFacts, SoundFacts}
use Rattle.volume.specs.Sound.{size_step, least_size, size_holds, rows_hold, limits_hold, rest_holds, moving_of, growth_holds, stage_holds, types_hold, sound}
use Rattle.volume.specs.States.{history_of, tally_of}
use Rattle.marks.specs.Words.{marks_of}

-- ---- the limits

pub record SizeFacts (z : ℕ) : Type 0 where
  pub least : least_size ≤ z
  pub most : z ≤ most_size
  pub steps : z % size_step ≡ 0

pub size_facts : (z : ℕ) → size_holds z ≡ true → SizeFacts z
unfolding size_holds
size_facts z e =
    let f = and_right (leb least_size z) (leb z most_size && eqb (z % size_step) 0) e in
    record {
      least = leb-true least_size z (and_left (leb least_size z) (leb z most_size && eqb (z % size_step) 0) e);
      most = leb-true z most_size (and_left (leb z most_size) (eqb (z % size_step) 0) f);
      steps = eqb-true (z % size_step) 0 (and_right (leb z most_size) (eqb (z % size_step) 0) f);
    }

pub facts_size : (z : ℕ) → SizeFacts z → size_holds z ≡ true
unfolding size_holds
facts_size z f = and_both (le-leb least_size z f.least) (and_both (le-leb z most_size f.most) (eq-eqb (z % size_step) 0 f.steps))

-- a number from 1 to the most that it may be
pub from_one : (n most : ℕ) → (leb 1 n && leb n most) ≡ true → (0 < n) × (n ≤ most)
from_one n most e = (leb-true 1 n (and_left (leb 1 n) (leb n most) e), leb-true n most (and_right (leb 1 n) (leb n most) e))

pub to_most : (n most : ℕ) → 0 < n → n ≤ most → (leb 1 n && leb n most) ≡ true
to_most n most h k = and_both (le-leb 1 n h) (le-leb n most k)

module _ (v : Volume) (e : limits_hold v ≡ true) where
  abbrev after_size : Bool
  after_size = rows_hold v.rows && (leb v.growths most_growths && (rising (history_of v) && leb (disk_count (history_of v)) most_disks))

  abbrev after_rows : Bool
  after_rows = leb v.growths most_growths && (rising (history_of v) && leb (disk_count (history_of v)) most_disks)

  abbrev counts : Bool
  counts = rising (history_of v) && leb (disk_count (history_of v)) most_disks

  pub size_of_limits : SizeFacts v.size
  unfolding limits_hold
  size_of_limits = size_facts v.size (and_left (size_holds v.size) after_size e)

  after_size_law : after_size ≡ true
  unfolding limits_hold
  after_size_law = and_right (size_holds v.size) after_size e

  after_rows_law : after_rows ≡ true
  after_rows_law = and_right (rows_hold v.rows) after_rows after_size_law

  pub growths_of_limits : v.growths ≤ most_growths
  growths_of_limits = leb-true v.growths most_growths (and_left (leb v.growths most_growths) counts after_rows_law)

  pub limits_of : Limits v.rows (history_of v)
  unfolding rows_hold history_of
  limits_of =
      let rows = from_one v.rows most_rows (and_left (rows_hold v.rows) after_rows after_size_law) in
      let c = and_right (leb v.growths most_growths) counts after_rows_law in
      record {
        rise = and_left (rising (history_of v)) (leb (disk_count (history_of v)) most_disks) c;
        disks_most = leb-true (disk_count (history_of v)) most_disks (and_right (rising (history_of v)) (leb (disk_count (history_of v)) most_disks) c);
        growths_most = omega (arith, history_length v.growths v.counts, growths_of_limits);
        rows_least = rows.0;
        rows_most = rows.1;
      }

pub limits_make : (v : Volume) → SizeFacts v.size → Limits v.rows (history_of v) → limits_hold v ≡ true
unfolding limits_hold rows_hold history_of
limits_make v z l =
    and_both (facts_size v.size z)
    (and_both (to_most v.rows most_rows l.rows_least l.rows_most)
    (and_both (le-leb v.growths most_growths (growths_most v.rows v.growths v.counts l))
    (and_both l.rise (le-leb (disk_count (history_of v)) most_disks l.disks_most))))

-- ---- the counts after N[t]

or_second : (a b : Bool) → a ≡ false → (a || b) ≡ true → b ≡ true
or_second true b f e = clash refl f
or_second false b f e = e

or_make : (a b : Bool) → (a ≡ false → b ≡ true) → (a || b) ≡ true
or_make true b f = refl
or_make false b f = f refl

abbrev zero_at : (counts : List ℕ) (t i : ℕ) → Bool
zero_at counts t i = leb i t || eqb (get_or counts i 0) 0

pub zeros_use : (l : List ℕ) (t : ℕ) → zeros_after l t ≡ true → (i : ℕ) → i < 8 → t < i → get_or l i 0 ≡ 0
unfolding zeros_after
zeros_use l t e i h k =
    eqb-true (get_or l i 0) 0 (or_second (leb i t) (eqb (get_or l i 0) 0) (lt-leb i t k) (every_use (zero_at l t) 8 e i h))

pub zeros_make : (l : List ℕ) (t : ℕ) → ((i : ℕ) → i < 8 → t < i → get_or l i 0 ≡ 0) → zeros_after l t ≡ true
unfolding zeros_after
zeros_make l t f =
    every_make (zero_at l t) 8
    (λ i h. or_make (leb i t) (eqb (get_or l i 0) 0) (λ e. eq-eqb (get_or l i 0) 0 (f i h (leb-false i t e))))

-- ---- the stages

rest_use : (v : Volume) → v.recorded < 2 ^ mark_count → v.copied < 2 ^ mark_count → rest_holds v ≡ true → RestFacts v
unfolding at_rest
rest_use v a b e =
    let f = and_right (eqb v.window 0) (within (marks_of v.recorded) no_marks && within (marks_of v.copied) no_marks) e in
    record {
      window_zero = eqb-true v.window 0 (and_left (eqb v.window 0) (within (marks_of v.recorded) no_marks && within (marks_of v.copied) no_marks) e);
      none_recorded = none_word v.recorded a (and_left (within (marks_of v.recorded) no_marks) (within (marks_of v.copied) no_marks) f);
      none_copied = none_word v.copied b (and_right (within (marks_of v.recorded) no_marks) (within (marks_of v.copied) no_marks) f);
    }

rest_make : (v : Volume) → RestFacts v → rest_holds v ≡ true
unfolding at_rest
rest_make v f =
    let recorded : within (marks_of v.recorded) no_marks ≡ true = rw (f.none_recorded, no_marks_law) (within_self no_marks) in
    let copied : within (marks_of v.copied) no_marks ≡ true = rw (f.none_copied, no_marks_law) (within_self no_marks) in
    and_both (eq-eqb v.window 0 f.window_zero) (and_both recorded copied)

growth_use : (v : Volume) → Limits v.rows (history_of v) → v.growing ≡ 1 → growth_holds v ≡ true → GrowthFacts v
unfolding in_growth moving_of tally_of history_of
growth_use v l g e =
    let last = windows (old_count (history_of v)) (added_count (history_of v)) v.rows in
    let some_left : Bool = not (within (moving_of v) (marks_of v.recorded)) in
    let from_copied : Bool = within (marks_of v.copied) (moving_of v) && some_left in
    let from_recorded : Bool = within (marks_of v.recorded) (marks_of v.copied) && from_copied in
    let from_window : Bool = ltb v.window last && from_recorded in
    let some = ltb-true 0 v.growths (and_left (ltb 0 v.growths) from_window e) in
    let from_window_law = and_right (ltb 0 v.growths) from_window e in
    let from_recorded_law = and_right (ltb v.window last) from_recorded from_window_law in
    let from_copied_law = and_right (within (marks_of v.recorded) (marks_of v.copied)) from_copied from_recorded_law in
    record {
      growing_one = g;
      has_growth = some;
      window_below = ltb-true v.window last (and_left (ltb v.window last) from_recorded from_window_law);
      recorded_copied = and_left (within (marks_of v.recorded) (marks_of v.copied)) from_copied from_recorded_law;
      copied_moving = and_left (within (marks_of v.copied) (moving_of v)) some_left from_copied_law;
      one_unrecorded =
          one_unmarked v.rows (history_of v) l (newest_old v.rows v.growths v.counts some l) v.window (marks_of v.recorded)
          (not-true (within (moving_of v) (marks_of v.recorded)) (and_right (within (marks_of v.copied) (moving_of v)) some_left from_copied_law));
    }

growth_make : (v : Volume) → Limits v.rows (history_of v) → GrowthFacts v → growth_holds v ≡ true
unfolding in_growth moving_of tally_of history_of
growth_make v l f =
    let o = newest_old v.rows v.growths v.counts f.has_growth l in
    let x = f.one_unrecorded in
    let left : within (moving_of v) (marks_of v.recorded) ≡ false =
    by_test (within (moving_of v) (marks_of v.recorded))
    (λ t. clash (all_marked v.rows (history_of v) l o v.window (marks_of v.recorded) t x.0 x.1) x.2) (λ t. t) in
    and_both (lt-ltb 0 v.growths f.has_growth)
    (and_both (lt-ltb v.window (windows (old_count (history_of v)) (added_count (history_of v)) v.rows) f.window_below)
    (and_both f.recorded_copied
    (and_both f.copied_moving (ap not left))))

-- ---- the whole

module _ (v : Volume) (e : sound v ≡ true) where
  abbrev after_types : Bool
  after_types = limits_hold v && (zeros_after v.counts v.growths && stage_holds v)

  abbrev after_limits : Bool
  after_limits = zeros_after v.counts v.growths && stage_holds v

  after_types_law : after_types ≡ true
  unfolding sound
  after_types_law = and_right (types_hold v) after_types e

  types_hold_law : types_hold v ≡ true
  unfolding sound
  types_hold_law = and_left (types_hold v) after_types e

  pub sound_limits : limits_hold v ≡ true
  sound_limits = and_left (limits_hold v) after_limits after_types_law

  after_limits_law : after_limits ≡ true
  after_limits_law = and_right (limits_hold v) after_limits after_types_law

  stage : stage_holds v ≡ true
  stage = and_right (zeros_after v.counts v.growths) (stage_holds v) after_limits_law

  pub sound_facts : SoundFacts v
  unfolding types_hold stage_holds
  sound_facts =
      let marks : Bool = ltb v.recorded (2 ^ mark_count) && ltb v.copied (2 ^ mark_count) in
      let em = and_right (eqb (length v.counts) 8) marks types_hold_law in
      let recorded = ltb-true v.recorded (2 ^ mark_count) (and_left (ltb v.recorded (2 ^ mark_count)) (ltb v.copied (2 ^ mark_count)) em) in
      let copied = ltb-true v.copied (2 ^ mark_count) (and_right (ltb v.recorded (2 ^ mark_count)) (ltb v.copied (2 ^ mark_count)) em) in
      let z = size_of_limits v sound_limits in
      let l = limits_of v sound_limits in
      record {
        counts_length = eqb-true (length v.counts) 8 (and_left (eqb (length v.counts) 8) marks types_hold_law);
        recorded_fits = recorded;
        copied_fits = copied;
        size_least = z.least;
        size_most = z.most;
        size_steps = z.steps;
        limits = l;
        zeros_after_law = zeros_use v.counts v.growths (and_left (zeros_after v.counts v.growths) (stage_holds v) after_limits_law);
        at_rest_law = λ g. rest_use v recorded copied (simp (eq-eqb v.growing 0 g) at stage);
        while_growing = λ g.
            let s : (eqb v.growing 1 && growth_holds v) ≡ true = simp (ne_eqb v.growing 0 g) at stage in
            growth_use v l (eqb-true v.growing 1 (and_left (eqb v.growing 1) (growth_holds v) s))
            (and_right (eqb v.growing 1) (growth_holds v) s);
      }

  -- a growth that runs has old disks
  pub some_old : v.growing ≢ 0 → 0 < old_count (history_of v)
  unfolding history_of
  some_old runs = newest_old v.rows v.growths v.counts (sound_facts.while_growing runs).has_growth sound_facts.limits

pub facts_sound : (v : Volume) → SoundFacts v → sound v ≡ true
unfolding sound types_hold stage_holds
facts_sound v f =
    let z : SizeFacts v.size = record { least = f.size_least; most = f.size_most; steps = f.size_steps } in
    let stage : stage_holds v ≡ true =
    cond_cases (λ t. t ≡ true) (eqb v.growing 0)
    (λ e. rest_make v (f.at_rest_law (eqb-true v.growing 0 e)))
    (λ e.
    let g = f.while_growing (eqb-false v.growing 0 e) in
    and_both (eq-eqb v.growing 1 g.growing_one) (growth_make v f.limits g)) in
    and_both
    (and_both (eq-eqb (length v.counts) 8 f.counts_length)
    (and_both (lt-ltb v.recorded (2 ^ mark_count) f.recorded_fits) (lt-ltb v.copied (2 ^ mark_count) f.copied_fits)))
    (and_both (limits_make v z f.limits) (and_both (zeros_make v.counts v.growths f.zeros_after_law) stage))
