-- `from_sector` meets its contract.
use Prim.Native.Nat.{◌≤◌}
use mathlib.Core.Path.{◌≡◌, sym, ◌∙◌}
use mathlib.Core.Bool.{true, false}
use mathlib.Core.List.{[]}
use lib.ListN.{length, take}
use Rattle.base.specs.declared.Refusal.TheVariants.{MediumTooShort, NoRecord}
use Rattle.base.specs.Refusals.{refusal_number}
use Rattle.std.specs.Prelude.{Ok}
use Rattle.medium.specs.Medium.{record_bytes, observe, no_store}
use Rattle.record.specs.Sector.{read_record}
use Rattle.volume.specs.Calls.{reporting, restart_effect, sector_outcome}
use Rattle.volume.specs.Records.{state_found, state_read}
use Rattle.volume.specs.Sound.{sound}
use Rattle.volume.specs.States.{zeros, pending_with, with_pending}
use Rattle.volume.proofs.SectorCode.{unread, read_back, below_record, record_or_not}
use Rattle.volume.proofs.Judged.{tells, refused_reply, accepted_reply}
use Rattle.volume.proofs.Volume.from_sector.Goals as goal
use Rattle.volume.proofs.Volume.from_sector.Goals.{After-from_record-v, In-Ok, Else-not-is_sound, Else-sector-lt512}

pub returns-then-sector-lt512 : goal.returns-then-sector-lt512
unfolding sector_outcome refusal_number
returns-then-sector-lt512 c =
    let e = below_record _ c.if-sector-lt512.true in
    refused_reply _ _ _ _ MediumTooShort (tells _ _ e) _ _ c.zeros.ensures c.refuse.ensures

-- there is a record, what is read of it, and the state of it
long : (c : Else-sector-lt512) → record_bytes ≤ length c.args.sector.now
long c = c.if-sector-lt512.false

pub returns-in_default : goal.returns-in_default
unfolding sector_outcome refusal_number
returns-in_default c =
    let f = unread _ (λ found e. c.in_default.not-Ok found (c.read_record.ensures ∙ e)) in
    let e = record_or_not _ false (long (goal.at.returns-in_default c).Else-sector-lt512) f in
    refused_reply _ _ _ _ NoRecord (tells _ _ e) _ _ c.zeros-in_default.ensures c.refuse-in_default.ensures

read : (c : In-Ok) → read_record (take record_bytes c.args.sector.now) ≡ Ok c.in-Ok.found
read c = sym c.read_record.ensures ∙ c.in-Ok.is

state : (c : After-from_record-v) → c.from_record-v.result ≡ state_read (take record_bytes c.args.sector.now)
unfolding state_read state_found
state c = rw (read (goal.at.After-from_record-v c).In-Ok) c.from_record-v.ensures

pub returns-then-not-is_sound : goal.returns-then-not-is_sound
unfolding sector_outcome refusal_number
returns-then-not-is_sound c =
    let s : sound c.from_record-v.result ≡ false = sym c.is_sound.ensures ∙ c.if-not-is_sound.true in
    let f = read_back _ _ false (read (goal.at.returns-then-not-is_sound c).In-Ok) (rw (state (goal.at.returns-then-not-is_sound c).After-from_record-v) at s) in
    let e = record_or_not _ false (long (goal.at.returns-then-not-is_sound c).Else-sector-lt512) f in
    refused_reply _ _ _ _ NoRecord (tells _ _ e) _ _ c.zeros-then-not-is_sound.ensures c.refuse-then-not-is_sound.ensures

state_sound : (c : Else-not-is_sound) → sound c.from_record-v.result ≡ true
state_sound c = sym c.is_sound.ensures ∙ c.if-not-is_sound.false

pub report-requires : goal.report-requires
report-requires c = state_sound (goal.at.report-requires c).Else-not-is_sound

pub returns : goal.returns
unfolding sector_outcome restart_effect reporting pending_with with_pending observe
returns c =
    let m = c.args.sector.now in
    let f = read_back _ _ true (read (goal.at.returns c).In-Ok) (rw (state (goal.at.returns c).After-from_record-v) at (state_sound (goal.at.returns c).Else-not-is_sound)) in
    let e = record_or_not m true (long (goal.at.returns c).Else-sector-lt512) f in
    let r = rw (state (goal.at.returns c).After-from_record-v) at c.report.ensures in
    accepted_reply _ zeros [] (reporting (state_read (take record_bytes m)) no_store) (sym e) _ r
