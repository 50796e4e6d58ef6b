-- `check_format` meets its contract.
use mathlib.Core.Path.{◌≡◌, sym, ◌∙◌}
use mathlib.Core.Bool.{true, false}
use borrow.Author.Tests.{le-ltb, lt-ltb}
use Rattle.base.specs.declared.Refusal.TheVariants.{MediumTooShort, OutsideLimits}
use Rattle.base.specs.Refusals.{refusal, refusal_number}
use Rattle.volume.specs.Calls.{too_short, format_table}
use Rattle.volume.specs.Sound.{size_holds, rows_hold, disks_hold}
use Rattle.volume.proofs.CallsCode.{bytes_within}
use Rattle.volume.proofs.Judged.{tells, err_checked, ok_checked}
use Rattle.volume.proofs.Volume.check_format.Goals as goal
use Rattle.volume.proofs.Volume.check_format.Goals.{Else-not-disks_hold, Else-not-rows_hold, Else-not-size_holds}

-- the tests that let the code go on
size_passes : (c : Else-not-size_holds) → size_holds c.args.size ≡ true
size_passes c = sym c.size_holds.ensures ∙ c.if-not-size_holds.false

rows_pass : (c : Else-not-rows_hold) → rows_hold c.args.rows ≡ true
rows_pass c = sym c.rows_hold.ensures ∙ c.if-not-rows_hold.false

disks_pass : (c : Else-not-disks_hold) → disks_hold c.args.disks ≡ true
disks_pass c = sym c.disks_hold.ensures ∙ c.if-not-disks_hold.false

pub returns-then-not-size_holds : goal.returns-then-not-size_holds
unfolding refusal refusal_number format_table
returns-then-not-size_holds c =
    let e : size_holds c.args.size ≡ false = sym c.size_holds.ensures ∙ c.if-not-size_holds.true in
    err_checked _ OutsideLimits (tells _ _ (simp e))

pub returns-then-not-rows_hold : goal.returns-then-not-rows_hold
unfolding refusal refusal_number format_table
returns-then-not-rows_hold c =
    let e : rows_hold c.args.rows ≡ false = sym c.rows_hold.ensures ∙ c.if-not-rows_hold.true in
    err_checked _ OutsideLimits (tells _ _ (simp (size_passes (goal.at.returns-then-not-rows_hold c).Else-not-size_holds, e)))

pub returns-then-not-disks_hold : goal.returns-then-not-disks_hold
unfolding refusal refusal_number format_table
returns-then-not-disks_hold c =
    let e : disks_hold c.args.disks ≡ false = sym c.disks_hold.ensures ∙ c.if-not-disks_hold.true in
    err_checked _ OutsideLimits (tells _ _ (simp (size_passes (goal.at.returns-then-not-disks_hold c).Else-not-size_holds, rows_pass (goal.at.returns-then-not-disks_hold c).Else-not-rows_hold, e)))

pub bytes_needed-requires : goal.bytes_needed-requires
bytes_needed-requires c =
    let h = bytes_within _ _ _ (size_passes (goal.at.bytes_needed-requires c).Else-not-size_holds) (rows_pass (goal.at.bytes_needed-requires c).Else-not-rows_hold) (disks_pass (goal.at.bytes_needed-requires c).Else-not-disks_hold) in
    record { size_nonzero = h.0; disks_bound = h.1 }

pub returns-then-len-bytes_needed : goal.returns-then-len-bytes_needed
unfolding refusal refusal_number format_table too_short
returns-then-len-bytes_needed c =
    err_checked _ MediumTooShort (tells _ _ (simp (
      size_passes (goal.at.returns-then-len-bytes_needed c).Else-not-size_holds,
      rows_pass (goal.at.returns-then-len-bytes_needed c).Else-not-rows_hold,
      disks_pass (goal.at.returns-then-len-bytes_needed c).Else-not-disks_hold,
      lt-ltb _ _ (rw c.bytes_needed.ensures at c.if-len-bytes_needed.true),
    )))

pub returns : goal.returns
unfolding refusal refusal_number format_table too_short
returns c =
    ok_checked _ (simp (
      size_passes (goal.at.returns c).Else-not-size_holds,
      rows_pass (goal.at.returns c).Else-not-rows_hold,
      disks_pass (goal.at.returns c).Else-not-disks_hold,
      le-ltb _ _ (rw c.bytes_needed.ensures at c.if-len-bytes_needed.false),
    ))
