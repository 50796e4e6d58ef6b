-- `check_grow` meets its contract.
use mathlib.Core.Path.{◌≡◌, sym, ◌∙◌}
use mathlib.Core.Bool.{true, false}
use lib.Dec.{eqb, leb}
use borrow.Author.Tests.{le-ltb, lt-ltb, le-leb, lt-leb, eq-eqb, ne_eqb}
use Rattle.base.specs.declared.Refusal.TheVariants.{NotSound, MediumTooShort, Growing, OutsideLimits, NoMoreGrowths, BeyondDoubling}
use Rattle.base.specs.Refusals.{refusal, refusal_number}
use Rattle.layout.specs.Limits.{most_growths}
use Rattle.volume.specs.Calls.{grow_table_of}
use Rattle.volume.specs.Sound.{sound}
use Rattle.volume.specs.States.{disks}
use Rattle.volume.proofs.Accepted.{count_tests, grow_decided}
use Rattle.volume.proofs.Judged.{tells, err_checked}
use Rattle.volume.proofs.Volume.check_grow.Goals as goal
use Rattle.volume.proofs.Volume.check_grow.Goals.{Else-count-disk_count, Else-count-gt-MOST_DISKS, Else-not-is_sound, Else-self-eq-MOST_GROWTHS, Else-self-ne0}

-- the tests that let the code go on
passes : (c : Else-not-is_sound) → sound c.args.self.now ≡ true
passes c = sym c.is_sound.ensures ∙ c.if-not-is_sound.false

at_rest_law : (c : Else-self-ne0) → eqb c.args.self.now.growing 0 ≡ true
at_rest_law c = eq-eqb _ _ c.if-self-ne0.false

room_left : (c : Else-self-eq-MOST_GROWTHS) → eqb c.args.self.now.growths most_growths ≡ false
room_left c = ne_eqb _ _ c.if-self-eq-MOST_GROWTHS.false

rises : (c : Else-count-disk_count)
    → let a = c.args in leb a.count (disks a.self.now) ≡ false
rises c = lt-leb _ _ (rw c.disk_count.ensures at c.if-count-disk_count.false)

pub returns-then-not-is_sound : goal.returns-then-not-is_sound
unfolding refusal refusal_number grow_table_of
returns-then-not-is_sound c =
    let e : sound c.args.self.now ≡ false = sym c.is_sound.ensures ∙ c.if-not-is_sound.true in
    err_checked _ NotSound (tells _ _ (simp e))

pub returns-then-self-ne0 : goal.returns-then-self-ne0
unfolding refusal refusal_number grow_table_of
returns-then-self-ne0 c = err_checked _ Growing (tells _ _ (simp (passes (goal.at.returns-then-self-ne0 c).Else-not-is_sound, ne_eqb _ _ c.if-self-ne0.true)))

pub returns-then-self-eq-MOST_GROWTHS : goal.returns-then-self-eq-MOST_GROWTHS
unfolding refusal refusal_number grow_table_of
returns-then-self-eq-MOST_GROWTHS c =
    err_checked _ NoMoreGrowths (tells _ _ (simp (passes (goal.at.returns-then-self-eq-MOST_GROWTHS c).Else-not-is_sound, at_rest_law (goal.at.returns-then-self-eq-MOST_GROWTHS c).Else-self-ne0, eq-eqb _ _ c.if-self-eq-MOST_GROWTHS.true)))

pub returns-then-count-disk_count : goal.returns-then-count-disk_count
unfolding refusal refusal_number grow_table_of
returns-then-count-disk_count c =
    err_checked _ OutsideLimits (tells _ _ (simp (
      passes (goal.at.returns-then-count-disk_count c).Else-not-is_sound,
      at_rest_law (goal.at.returns-then-count-disk_count c).Else-self-ne0,
      room_left (goal.at.returns-then-count-disk_count c).Else-self-eq-MOST_GROWTHS,
      le-leb _ _ (rw c.disk_count.ensures at c.if-count-disk_count.true),
    )))

pub returns-then-count-gt-MOST_DISKS : goal.returns-then-count-gt-MOST_DISKS
unfolding refusal refusal_number grow_table_of
returns-then-count-gt-MOST_DISKS c =
    err_checked _ OutsideLimits (tells _ _ (simp (
      passes (goal.at.returns-then-count-gt-MOST_DISKS c).Else-not-is_sound,
      at_rest_law (goal.at.returns-then-count-gt-MOST_DISKS c).Else-self-ne0,
      room_left (goal.at.returns-then-count-gt-MOST_DISKS c).Else-self-eq-MOST_GROWTHS,
      rises (goal.at.returns-then-count-gt-MOST_DISKS c).Else-count-disk_count,
      lt-ltb _ _ c.if-count-gt-MOST_DISKS.true,
    )))

-- the tests before W7's pass
tests_passed : (c : Else-count-gt-MOST_DISKS) → let a = c.args in refusal (count_tests a.limited a.self.now a.count a.len) ≡ 0
unfolding refusal grow_table_of
tests_passed c =
    simp (
      (sym c.is_sound.ensures ∙ c.if-not-is_sound.false),
      (eq-eqb _ _ c.if-self-ne0.false),
      (ne_eqb _ _ c.if-self-eq-MOST_GROWTHS.false),
      (lt-leb _ _ (rw c.disk_count.ensures at c.if-count-disk_count.false)),
      le-ltb _ _ c.if-count-gt-MOST_DISKS.false,
    )

pub returns-then-is_beyond_doubling : goal.returns-then-is_beyond_doubling
unfolding refusal_number
returns-then-is_beyond_doubling c =
    let e = sym c.is_beyond_doubling.ensures ∙ c.if-is_beyond_doubling.true in
    err_checked _ BeyondDoubling (tells _ _ (rw (grow_decided _ _ _ _ (tests_passed (goal.at.returns-then-is_beyond_doubling c).Else-count-gt-MOST_DISKS), e)))

pub returns-then-is_short : goal.returns-then-is_short
unfolding refusal_number
returns-then-is_short c =
    let e = sym c.is_beyond_doubling.ensures ∙ c.if-is_beyond_doubling.false in
    let f = sym c.is_short.ensures ∙ c.if-is_short.true in
    err_checked _ MediumTooShort (tells _ _ (rw (grow_decided _ _ _ _ (tests_passed (goal.at.returns-then-is_short c).Else-count-gt-MOST_DISKS), e, f)))

pub returns : goal.returns
returns c =
    let e = sym c.is_beyond_doubling.ensures ∙ c.if-is_beyond_doubling.false in
    let f = sym c.is_short.ensures ∙ c.if-is_short.false in
    rw (grow_decided _ _ _ _ (tests_passed (goal.at.returns c).Else-count-gt-MOST_DISKS), e, f, c.check_record_store.ensures)
