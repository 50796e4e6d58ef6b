-- `restart` meets its contract.
use mathlib.Core.Path.{◌≡◌, refl, ap, sym}
use mathlib.Core.Bool.{true, cond}
use mathlib.Core.List.{[]}
use mathlib.Core.Logic.{◌≢◌}
use Rattle.std.specs.Prelude.{Err}
use Rattle.base.specs.declared.Refusal.{Refusal}
use Rattle.base.specs.declared.Refusal.TheVariants.{MediumTooShort}
use Rattle.base.specs.Refusals.{refusal, refusal_number}
use Rattle.medium.specs.Medium.{Observations, observe, no_store}
use Rattle.volume.specs.Calls.{reporting, restart_table, restart_effect, restart_outcome, sector_table, sector_outcome}
use Rattle.volume.specs.Records.{state_read}
use Rattle.volume.specs.Sound.{sound}
use Rattle.volume.specs.States.{zeros, pending_with, with_pending}
use Rattle.volume.specs.declared.Reply.{Reply}
use Rattle.volume.specs.declared.Told.{Told}
use Rattle.volume.proofs.CallsCode.{disks_most}
use Rattle.volume.proofs.Judged.{tells, refused_reply, accepted_reply}
use Rattle.volume.proofs.SectorCode.{reply_refused, reply_taken, restart_refused, restart_tested_last}
use Rattle.volume.proofs.StatesSound.{sector_sound}
use Rattle.volume.proofs.Volume.restart.Goals as goal
use Rattle.volume.proofs.Volume.restart.Goals.{After-is_short}

pub returns-in-Err : goal.returns-in-Err
unfolding restart_outcome
returns-in-Err c =
    let o = observe c.args.medium.now in
    let f = reply_refused o _ _ c.from_sector-reply.ensures c.in-Err.is in
    refused_reply (restart_table o) zeros [] _ _ (restart_refused o _ f.0) zeros _ refl f.1

-- a reply that refuses nothing: the sector is a sound state's record, and the reply is that state's
module _ (o : Observations) (q : Reply Told) (e : q ≡ (sector_outcome o).reply) (other : (r : Refusal) → q.answer ≢ Err r) where
  taken : (refusal (sector_table o) ≡ 0) × (q ≡ (reporting (state_read o.sector) no_store).reply)
  taken = reply_taken o q e other

  state : q.state ≡ state_read o.sector
  unfolding reporting pending_with with_pending
  state = ap (λ (p : Reply Told). p.state) taken.1

  state_sound : sound q.state ≡ true
  state_sound = rw state (sector_sound o taken.0)

pub is_short-requires : goal.is_short-requires
is_short-requires c =
    let s = state_sound (observe c.args.medium.now) _ c.from_sector-reply.ensures c.in_default.not-Err in
    record { sound_state = s; disks_le_most_disks = rw c.disk_count.ensures (disks_most _ s) }

-- restart's last test is what `is_short` told
tested : (c : After-is_short) → refusal (restart_table (observe c.args.medium.now)) ≡ cond c.is_short.result 2 0
unfolding observe
tested c =
    let o = observe c.args.medium.now in
    let known = c.from_sector-reply.ensures in
    let short = rw (state o _ known c.in_default.not-Err) at (rw c.disk_count.ensures at c.is_short.ensures) in
    rw short (restart_tested_last o (taken o _ known c.in_default.not-Err).0)

pub returns-then-is_short : goal.returns-then-is_short
unfolding restart_outcome refusal_number
returns-then-is_short c =
    let e = sym (rw c.if-is_short.true at (tested (goal.at.returns-then-is_short c).After-is_short)) in
    refused_reply _ _ _ _ MediumTooShort (tells _ _ e) _ _ c.zeros.ensures c.refuse.ensures

pub returns : goal.returns
unfolding restart_outcome restart_effect
returns c =
    let e = rw c.if-is_short.false at (tested (goal.at.returns c).After-is_short) in
    accepted_reply _ zeros [] (reporting _ no_store) e _ (taken (observe c.args.medium.now) _ c.from_sector-reply.ensures c.in_default.not-Err).1
