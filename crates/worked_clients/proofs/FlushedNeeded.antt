-- `flushed_needed`: two runs, computed.
use Prim.Native.Nat.{ℕ}
use mathlib.Core.Path.{◌≡◌, refl, sym, ap, ◌∙◌}
use mathlib.Core.List.{[], ◌∷◌, ◌++◌}
use native.Mathlib.Omega.{arith}
use Rattle.std.specs.Prelude.{Ok, Err}
use Rattle.base.specs.Refusals.{refusal_number}
use Rattle.base.specs.declared.Refusal.TheVariants.{BlockNotOpen}
use Rattle.volume.specs.declared.Told.TheVariants.{Done}
use Rattle.volume.specs.Answers.{number}
use Rattle.volume.specs.Calls.{Outcome}
use Rattle.promise.specs.Lists.{NoEarlyCut}
use Rattle.promise.specs.Model.{Model}
use Rattle.promise.specs.Promise.{begin}
use Rattle.clients.specs.Stations.{station_outcome, events_of, LawfulStations, stations_model, read_after}
use Rattle.clients.specs.TwoRuns.{is_shared, shared, WritesFlushed}
use Rattle.worked.specs.Worked.{block_of}
use Rattle.worked.proofs.Reflects.{passed, failed}
use Rattle.worked_clients.specs.Runs.{numbers_told, two_disks, last_two}
use Rattle.worked_clients.specs.FlushedNeeded.{SeparateUnflushed, unflushed, unwritten, then_read, FlushedNeeded}
use Rattle.worked_clients.proofs.Covered.{writes_flushed_law, no_early_cut, shared_then}
use Rattle.worked_clients.proofs.Computing.{stations_computing}
use Rattle.worked_clients.proofs.Ours.{two_disks_accepted, our_told, our_model, our_read, our_lawful}

unfoldable runs_computing : Unit {0}
unfolding stations_computing unflushed unwritten shared is_shared
runs_computing = tt

-- ---- the first run

first_lawful : LawfulStations (station_outcome last_two) (begin two_disks) (unflushed ++ then_read)
unfolding runs_computing
first_lawful = our_lawful last_two two_disks 0 2 (unflushed ++ then_read) refl

first_early : NoEarlyCut (events_of (unflushed ++ then_read))
unfolding runs_computing
first_early = no_early_cut (unflushed ++ then_read) refl

first_unflushed : WritesFlushed (unflushed ++ then_read) → ⊥
unfolding runs_computing
first_unflushed = failed (writes_flushed_law (unflushed ++ then_read)) refl

first_told : numbers_told (station_outcome last_two) (begin two_disks) (unflushed ++ then_read) ≡ 0 ∷ 0 ∷ 18 ∷ 0 ∷ 5 ∷ 0 ∷ 5 ∷ 0 ∷ 3 ∷ []
unfolding runs_computing
first_told = our_told last_two two_disks 0 2 (unflushed ++ then_read)

first_open : (stations_model (station_outcome last_two) two_disks unflushed).plain.blocks ≡ 2
unfolding runs_computing
first_open = ap (λ (k : Model). k.plain.blocks) (our_model last_two two_disks 0 2 unflushed)

first_read : (read_after (station_outcome last_two) two_disks unflushed 0 2 (block_of 0)).reply.answer ≡ Err BlockNotOpen
unfolding runs_computing
first_read = ap (λ (r : Outcome). r.reply.answer) (our_read last_two two_disks 0 2 unflushed)

-- ---- the second

second_lawful : LawfulStations (station_outcome last_two) (begin two_disks) (unwritten ++ then_read)
unfolding runs_computing
second_lawful = our_lawful last_two two_disks 0 2 (unwritten ++ then_read) refl

second_early : NoEarlyCut (events_of (unwritten ++ then_read))
unfolding runs_computing
second_early = no_early_cut (unwritten ++ then_read) refl

second_flushed : WritesFlushed (unwritten ++ then_read)
unfolding runs_computing
second_flushed = passed (writes_flushed_law (unwritten ++ then_read)) refl

second_told : numbers_told (station_outcome last_two) (begin two_disks) (unwritten ++ then_read) ≡ 0 ∷ 0 ∷ 0 ∷ 0 ∷ 0 ∷ 0 ∷ 0 ∷ 0 ∷ []
unfolding runs_computing
second_told = our_told last_two two_disks 0 2 (unwritten ++ then_read)

second_open : (stations_model (station_outcome last_two) two_disks unwritten).plain.blocks ≡ 3
unfolding runs_computing
second_open = ap (λ (k : Model). k.plain.blocks) (our_model last_two two_disks 0 2 unwritten)

second_read : (read_after (station_outcome last_two) two_disks unwritten 0 2 (block_of 0)).reply.answer ≡ Ok Done
unfolding runs_computing
second_read = ap (λ (r : Outcome). r.reply.answer) (our_read last_two two_disks 0 2 unwritten)

-- ---- both

same_before : shared 0 unflushed ≡ shared 0 unwritten
unfolding runs_computing
same_before = refl

same_shared : shared 0 (unflushed ++ then_read) ≡ shared 0 (unwritten ++ then_read)
same_shared = shared_then 0 unflushed unwritten then_read same_before

claim_false : SeparateUnflushed → ⊥
unfolding number refusal_number
claim_false claim =
    let r = claim last_two 0 two_disks two_disks_accepted (unflushed ++ then_read) (unwritten ++ then_read) first_lawful first_early second_lawful second_early same_shared
    unflushed [] unwritten [] 2 (block_of 0) refl refl same_before in
    let differ : ◌≡◌ {A = ℕ} 3 0 = ap number (sym first_read ∙ r.same_answer ∙ second_read) in
    omega (arith, differ)

pub flushed_needed : FlushedNeeded
flushed_needed =
    record {
      format_accepted = two_disks_accepted;
      first_lawful = first_lawful;
      second_lawful = second_lawful;
      first_early = first_early;
      second_early = second_early;
      same_shared = same_shared;
      same_before = same_before;
      first_unflushed = first_unflushed;
      second_flushed = second_flushed;
      first_told = first_told;
      second_told = second_told;
      first_open = first_open;
      second_open = second_open;
      first_read = first_read;
      second_read = second_read;
      claim_false = claim_false;
    }
