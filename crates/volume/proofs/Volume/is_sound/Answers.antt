-- `is_sound` meets its contract.
use Prim.Native.Nat.{◌^◌, ◌<◌}
use mathlib.Core.Path.{◌≡◌, sym, ◌∙◌}
use mathlib.Core.Bool.{true, false}
use lib.Dec.{leb}
use lib.ListN.{length}
use borrow.Author.Rules.{rules}
use borrow.Author.Tests.{eq-eqb, le-leb, lt-leb, lt-ltb}
use Rattle.base.proofs.Booleans.{and_both}
use Rattle.layout.specs.History.{disk_count, rising}
use Rattle.layout.specs.Limits.{most_disks, most_growths}
use Rattle.layout.proofs.HistoryCode.{history_disks}
use Rattle.marks.specs.Marks.{mark_count}
use Rattle.volume.specs.Sound.{size_holds, rows_hold, limits_hold, types_hold, sound}
use Rattle.volume.specs.States.{history_of}
use Rattle.volume.proofs.SoundLaws.{limits_of}
use Rattle.volume.proofs.Volume.is_sound.Goals as goal
use Rattle.volume.proofs.Volume.is_sound.Goals.{Else-not-counts_rise, Else-not-rows_hold, Else-not-size_holds, Else-self-t-gt-MOST_DISKS, Else-t-gt-MOST_GROWTHS, Start}

-- the array has the length of its type, the words are below their type's bound
types_hold_law : (c : Start) → types_hold c.args.self.now ≡ true
unfolding types_hold
types_hold_law c =
    let v = c.args.self.now in
    let counts : length v.counts ≡ 8 = search rules in
    let recorded : v.recorded < 2 ^ mark_count = search rules in
    let copied : v.copied < 2 ^ mark_count = search rules in
    and_both (eq-eqb _ _ counts) (and_both (lt-ltb _ _ recorded) (lt-ltb _ _ copied))

pub returns-then-not-size_holds : goal.returns-then-not-size_holds
unfolding sound limits_hold
returns-then-not-size_holds c =
    let e = sym c.size_holds.ensures ∙ c.if-not-size_holds.true in
    simp (types_hold_law (goal.at.returns-then-not-size_holds c).Start, e)

-- the tests passed
size_passed : (c : Else-not-size_holds) → size_holds c.args.self.now.size ≡ true
size_passed c = sym c.size_holds.ensures ∙ c.if-not-size_holds.false

pub returns-then-not-rows_hold : goal.returns-then-not-rows_hold
unfolding sound limits_hold
returns-then-not-rows_hold c =
    let e = sym c.rows_hold.ensures ∙ c.if-not-rows_hold.true in
    simp (types_hold_law (goal.at.returns-then-not-rows_hold c).Start, size_passed (goal.at.returns-then-not-rows_hold c).Else-not-size_holds, e)

rows_passed : (c : Else-not-rows_hold) → rows_hold c.args.self.now.rows ≡ true
rows_passed c = sym c.rows_hold.ensures ∙ c.if-not-rows_hold.false

pub returns-then-t-gt-MOST_GROWTHS : goal.returns-then-t-gt-MOST_GROWTHS
unfolding sound limits_hold
returns-then-t-gt-MOST_GROWTHS c =
    simp (
      types_hold_law (goal.at.returns-then-t-gt-MOST_GROWTHS c).Start,
      size_passed (goal.at.returns-then-t-gt-MOST_GROWTHS c).Else-not-size_holds,
      rows_passed (goal.at.returns-then-t-gt-MOST_GROWTHS c).Else-not-rows_hold,
      lt-leb _ _ c.if-t-gt-MOST_GROWTHS.true,
    )

growths_passed : (c : Else-t-gt-MOST_GROWTHS) → leb c.args.self.now.growths most_growths ≡ true
growths_passed c = le-leb _ _ c.if-t-gt-MOST_GROWTHS.false

pub returns-then-not-counts_rise : goal.returns-then-not-counts_rise
unfolding sound limits_hold history_of
returns-then-not-counts_rise c =
    let e = sym c.counts_rise.ensures ∙ c.if-not-counts_rise.true in
    simp (
      types_hold_law (goal.at.returns-then-not-counts_rise c).Start,
      size_passed (goal.at.returns-then-not-counts_rise c).Else-not-size_holds,
      rows_passed (goal.at.returns-then-not-counts_rise c).Else-not-rows_hold,
      growths_passed (goal.at.returns-then-not-counts_rise c).Else-t-gt-MOST_GROWTHS,
      e,
    )

counts_passed : (c : Else-not-counts_rise) → rising (history_of c.args.self.now) ≡ true
unfolding history_of
counts_passed c = sym c.counts_rise.ensures ∙ c.if-not-counts_rise.false

pub returns-then-self-t-gt-MOST_DISKS : goal.returns-then-self-t-gt-MOST_DISKS
unfolding sound limits_hold history_of
returns-then-self-t-gt-MOST_DISKS c =
    let v = c.args.self.now in
    let e : leb (disk_count (history_of v)) most_disks ≡ false = rw (history_disks v.growths v.counts) (lt-leb _ _ c.if-self-t-gt-MOST_DISKS.true) in
    simp (
      types_hold_law (goal.at.returns-then-self-t-gt-MOST_DISKS c).Start,
      size_passed (goal.at.returns-then-self-t-gt-MOST_DISKS c).Else-not-size_holds,
      rows_passed (goal.at.returns-then-self-t-gt-MOST_DISKS c).Else-not-rows_hold,
      growths_passed (goal.at.returns-then-self-t-gt-MOST_DISKS c).Else-t-gt-MOST_GROWTHS,
      counts_passed (goal.at.returns-then-self-t-gt-MOST_DISKS c).Else-not-counts_rise,
      e,
    )

-- all limits hold
limits_passed : (c : Else-self-t-gt-MOST_DISKS) → limits_hold c.args.self.now ≡ true
unfolding limits_hold history_of
limits_passed c =
    let v = c.args.self.now in
    and_both (sym c.size_holds.ensures ∙ c.if-not-size_holds.false)
    (and_both (sym c.rows_hold.ensures ∙ c.if-not-rows_hold.false)
    (and_both (le-leb _ _ c.if-t-gt-MOST_GROWTHS.false)
    (and_both (sym c.counts_rise.ensures ∙ c.if-not-counts_rise.false) (rw (history_disks v.growths v.counts) (le-leb _ _ c.if-self-t-gt-MOST_DISKS.false)))))

pub returns-then-not-zeros_after : goal.returns-then-not-zeros_after
unfolding sound
returns-then-not-zeros_after c =
    let e = sym c.zeros_after.ensures ∙ c.if-not-zeros_after.true in
    simp (types_hold_law (goal.at.returns-then-not-zeros_after c).Start, limits_passed (goal.at.returns-then-not-zeros_after c).Else-self-t-gt-MOST_DISKS, e)

pub stage_holds-requires : goal.stage_holds-requires
stage_holds-requires c = limits_of _ (limits_passed (goal.at.stage_holds-requires c).Else-self-t-gt-MOST_DISKS)

pub returns : goal.returns
unfolding sound
returns c =
    let e = sym c.zeros_after.ensures ∙ c.if-not-zeros_after.false in
    simp (types_hold_law (goal.at.returns c).Start, limits_passed (goal.at.returns c).Else-self-t-gt-MOST_DISKS, e) c.stage_holds.ensures
