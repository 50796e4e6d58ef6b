-- What code that reads a record sector needs: `from_sector`, and what goes by its reply.
use Prim.Native.Nat.{ℕ, ◌≤◌, ◌<◌}
use mathlib.Core.Path.{◌≡◌, refl, ap, ◌∙◌}
use mathlib.Core.Bool.{Bool, true, false, cond}
use mathlib.Core.List.{List, [], ◌∷◌}
use mathlib.Core.Logic.{◌≢◌}
use lib.ListN.{length, take}
use borrow.Author.Tests.{le-ltb, lt-ltb}
use Rattle.std.specs.Prelude.{Result, Ok, Err, is_ok}
use Rattle.base.specs.declared.Refusal.{Refusal}
use Rattle.base.specs.Refusals.{refusal, refusal_with}
use Rattle.base.proofs.Refusals.{passed_first}
use Rattle.medium.specs.Medium.{record_bytes, Observations, observe, no_store}
use Rattle.record.specs.declared.Record.{Record}
use Rattle.record.specs.Sector.{read_record}
use Rattle.volume.specs.declared.Volume.{Volume}
use Rattle.volume.specs.declared.Reply.{Reply}
use Rattle.volume.specs.declared.Told.{Told}
use Rattle.volume.specs.Calls.{Outcome, refused, reporting, restart_effect, too_short, restart_table, sector_table, sector_outcome}
use Rattle.volume.specs.Records.{state_read, is_sound_record}
use Rattle.volume.specs.Sound.{sound}
use Rattle.volume.specs.States.{geometry, disks, zeros}
use Rattle.volume.proofs.Judged.{Tells, tells_before, judged_cases, accepted_when}

-- bytes that are no record, and bytes that are the record of a state
pub unread : (bytes : List ℕ) → ((found : Record) → read_record bytes ≢ Ok found) → is_sound_record bytes ≡ false
unfolding is_sound_record
unread bytes n = rw (none_found (read_record bytes) n)
  where
    none_found : (r : Result Record Refusal) → ((found : Record) → r ≢ Ok found) → is_ok r ≡ false
    none_found (Ok found) n = absurd (n found refl)
    none_found (Err refusal) n = refl

pub read_back : (bytes : List ℕ) (found : Record) (t : Bool) → read_record bytes ≡ Ok found → sound (state_read bytes) ≡ t
    → is_sound_record bytes ≡ t
unfolding is_sound_record
read_back bytes found t e f = rw (f, e)

-- the table, test by test
pub below_record : (m : List ℕ) → length m < record_bytes → 2 ≡ refusal (sector_table (observe m))
unfolding refusal observe
below_record m h = rw (lt-ltb (length m) record_bytes h)

pub record_or_not : (m : List ℕ) (t : Bool) → record_bytes ≤ length m → is_sound_record (take record_bytes m) ≡ t
    → cond t 0 13 ≡ refusal (sector_table (observe m))
unfolding refusal observe
record_or_not m true h e = rw (le-ltb (length m) record_bytes h, e)
record_or_not m false h e = rw (le-ltb (length m) record_bytes h, e)

-- ---- the reply, told apart by its answer

pub reply_refused : (o : Observations) (q : Reply Told) (r : Refusal) → q ≡ (sector_outcome o).reply → q.answer ≡ Err r
    → Tells (refusal (sector_table o)) r × (q ≡ record { state = zeros; answer = Err r })
unfolding sector_outcome restart_effect refused reporting
reply_refused o q r e told =
    judged_cases
    (λ out. q ≡ out.reply → out.reply.answer ≡ Err r → Tells (refusal (sector_table o)) r × (q ≡ record { state = zeros; answer = Err r }))
    (sector_table o) (λ k. refused zeros k []) _
    (λ _ _ f. absurd (cc))
    (λ h g f. let n : refusal_with (refusal (sector_table o)) ≡ r = cc in ((h, n), rw n at g))
    e (rw e at told)

-- what is known where the answer is no refusal
pub reply_taken : (o : Observations) (q : Reply Told) → q ≡ (sector_outcome o).reply → ((r : Refusal) → q.answer ≢ Err r)
    → (refusal (sector_table o) ≡ 0) × (q ≡ (reporting (state_read o.sector) no_store).reply)
unfolding sector_outcome restart_effect refused
reply_taken o q e other =
    let taken : refusal (sector_table o) ≡ 0 =
    judged_cases (λ out. ((r : Refusal) → out.reply.answer ≢ Err r) → refusal (sector_table o) ≡ 0)
    (sector_table o) (λ k. refused zeros k []) (reporting (state_read o.sector) no_store) (λ h _. h)
    (λ _ t. absurd (t _ refl)) (rw e at other) in
    (taken, e ∙ ap (λ (out : Outcome). out.reply) (accepted_when (sector_table o) (λ k. refused zeros k []) _ taken))

-- ---- restart's last test, "2"

module _ (o : Observations) where
  abbrev short_for : Volume → Bool
  short_for v = too_short (geometry v) (disks v) o.byte_count

  pub restart_refused : (r : Refusal) → Tells (refusal (sector_table o)) r → Tells (refusal (restart_table o)) r
  unfolding restart_table
  restart_refused = tells_before (sector_table o) _

  pub restart_tested_last : refusal (sector_table o) ≡ 0 → refusal (restart_table o) ≡ cond (short_for (state_read o.sector)) 2 0
  unfolding restart_table refusal
  restart_tested_last = passed_first (sector_table o) ((2, short_for (state_read o.sector)) ∷ []) refl
