-- `check_shelves` meets its contract.
use Prim.Native.Nat.{◌-◌, ◌≤◌}
use mathlib.Core.Path.{◌≡◌, refl, sym, ◌∙◌}
use mathlib.Core.Bool.{true}
use native.Mathlib.Omega.{arith}
use Rattle.base.specs.declared.Refusal.TheVariants.{NotSound, OutsideLimits, MediumTooShort}
use Rattle.base.specs.Refusals.{refusal_number}
use Rattle.volume.specs.Sound.{sound}
use Rattle.volume.specs.States.{geometry, disks}
use Rattle.shelves.specs.Shelves.{second_needs}
use Rattle.shelves.proofs.AnswersCode.{needs_asked, bytes_fit, rows_fit}
use Rattle.volume.proofs.Judged.{tells, err_checked, ok_checked}
use Rattle.shelves.proofs.Tests.{not_sound, no_disk, many_disks, first_short, second_short, all_fit}
use Rattle.shelves.proofs.answers.check_shelves.Goals as goal
use Rattle.shelves.proofs.answers.check_shelves.Goals.{Else-disks-k, Else-not-is_sound, then-k-eq0-via-then-k-eq0, then-k-eq0-via-else-k-eq0+then-disks-k}

pub returns-then-not-is_sound : goal.returns-then-not-is_sound
unfolding refusal_number
returns-then-not-is_sound c = err_checked _ NotSound (tells _ NotSound (not_sound _ _ _ _ (sym c.is_sound.ensures ∙ c.if-not-is_sound.true)))

is_sound : (c : Else-not-is_sound) → sound c.args.v.now ≡ true
is_sound c = sym c.is_sound.ensures ∙ c.if-not-is_sound.false

pub returns-then-k-eq0 : goal.returns-then-k-eq0
unfolding refusal_number
returns-then-k-eq0 c =
    let e = is_sound (goal.at.returns-then-k-eq0 c).Else-not-is_sound in
    err_checked _ OutsideLimits
    (tells _ OutsideLimits (elim c.then-k-eq0.branch [
      | then-k-eq0-via-then-k-eq0 w ↦ no_disk _ _ _ _ e w.if-k-eq0.true
      | then-k-eq0-via-else-k-eq0+then-disks-k w ↦ many_disks _ _ _ _ e w.if-k-eq0.false (rw c.disk_count-disks.ensures at w.if-disks-k.true)
    ]))

disks_there : (c : Else-disks-k) → c.args.k ≤ disks c.args.v.now
disks_there c = rw c.disk_count-disks.ensures at c.if-disks-k.false

-- the disks of the second shelf
remaining : (c : Else-disks-k) → c.disk_count-disks.result - c.args.k ≤ disks c.args.v.now
remaining c = rw c.disk_count-disks.ensures (omega arith)

pub overflow_mul-disks : goal.overflow_mul-disks
overflow_mul-disks c = omega (arith, rows_fit _ (is_sound (goal.at.overflow_mul-disks c).Else-not-is_sound) _ (remaining (goal.at.overflow_mul-disks c).Else-disks-k))

pub overflow_mul-disks-2 : goal.overflow_mul-disks-2
overflow_mul-disks-2 c = omega (arith, bytes_fit _ (is_sound (goal.at.overflow_mul-disks-2 c).Else-not-is_sound) _ (remaining (goal.at.overflow_mul-disks-2 c).Else-disks-k))

pub returns-then-second-disks : goal.returns-then-second-disks
unfolding geometry second_needs refusal_number
returns-then-second-disks c =
    err_checked _ MediumTooShort
    (tells _ MediumTooShort
    (second_short _ _ _ _ (is_sound (goal.at.returns-then-second-disks c).Else-not-is_sound) c.if-k-eq0.false (disks_there (goal.at.returns-then-second-disks c).Else-disks-k) (rw c.disk_count-disks.ensures at c.if-second-disks.true)))

pub bytes_needed-requires : goal.bytes_needed-requires
unfolding geometry
bytes_needed-requires c =
    let asked = needs_asked _ (is_sound (goal.at.bytes_needed-requires c).Else-not-is_sound) _ (disks_there (goal.at.bytes_needed-requires c).Else-disks-k) _ refl in
    record { size_nonzero = asked.0; disks_bound = asked.1 }

pub returns-then-first-bytes_needed : goal.returns-then-first-bytes_needed
unfolding geometry refusal_number
returns-then-first-bytes_needed c =
    err_checked _ MediumTooShort
    (tells _ MediumTooShort
    (first_short _ _ _ _ (is_sound (goal.at.returns-then-first-bytes_needed c).Else-not-is_sound) c.if-k-eq0.false (disks_there (goal.at.returns-then-first-bytes_needed c).Else-disks-k) (rw c.bytes_needed.ensures at c.if-first-bytes_needed.true)))

pub returns : goal.returns
unfolding geometry second_needs
returns c =
    ok_checked _
    (sym
    (all_fit _ _ _ _ (is_sound (goal.at.returns c).Else-not-is_sound)
    record {
      some_disk = c.if-k-eq0.false;
      disks_there = disks_there (goal.at.returns c).Else-disks-k;
      first_long = rw c.bytes_needed.ensures at c.if-first-bytes_needed.false;
      second_long = rw c.disk_count-disks.ensures at c.if-second-disks.false;
    }))
