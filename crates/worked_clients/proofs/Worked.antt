-- The worked pairs of runs: `runs_worked`.
use Prim.Native.Nat.{ℕ}
use mathlib.Core.Path.{◌≡◌, refl, sym, ap, ◌∙◌, subst}
use mathlib.Core.Bool.{Bool, true, false, ◌&&◌}
use mathlib.Core.List.{List, [], ◌∷◌, ◌++◌}
use mathlib.Core.Option.{Option, none, some}
use lib.Dec.{eqb, ltb}
use lib.ListN.{length-replicate}
use borrow.Author.Tests.{ltb-true, eqb-true}
use Rattle.base.proofs.Booleans.{and_left, and_right}
use Rattle.layout.specs.Tally.{is_running}
use Rattle.medium.specs.Medium.{old_record, new_record}
use Rattle.std.specs.Prelude.{Result}
use Rattle.base.specs.declared.Refusal.{Refusal}
use Rattle.volume.specs.declared.Told.{Told}
use Rattle.volume.specs.Answers.{accepted}
use Rattle.volume.specs.Calls.{Outcome}
use Rattle.promise.specs.Model.{Model}
use Rattle.promise.specs.Promise.{Start, formatted}
use Rattle.spans.specs.declared.Spans.{Spans}
use Rattle.spans.specs.Spans.{allowed}
use Rattle.clients.specs.Stations.{reads, station_outcome, StationEvent, ends, stations_model, read_after}
use Rattle.clients.specs.TwoRuns.{is_shared, shared, Covered, SameRead}
use Rattle.clients.proofs.Theorem.{separate}
use Rattle.worked.specs.Worked.{block_of}
use Rattle.worked_clients.specs.Runs.{Pair, RunShown, Shown, two_disks, last_two, three_disks, two_and_one, growth_torn, own_write_torn, record_left, UnsetShown, UnsetDiffers, written_then_grown, only_grown, RunsWorked}
use Rattle.worked_clients.proofs.Covered.{list_test, shared_then}
use Rattle.worked_clients.proofs.Computing.{stations_computing}
use Rattle.worked_clients.proofs.Ours.{ours, our_told, our_model, our_read, our_covered, our_covered_read}

-- ---- what is computed of a run

record Values : Type 0 where
  listed : Bool
  lawful : Bool
  told : List ℕ
  running : Bool
  blocks : ℕ
  own : Option (List ℕ)
  other : Option (List ℕ)

module _ (p : Pair) where
  unfoldable values : (es : List StationEvent) → Values
  values es =
      let r = ours p.spans p.start p.client p.own es in
      record {
        listed = list_test es;
        lawful = r.lawful;
        told = r.told;
        running = is_running r.model.tally.mode;
        blocks = r.model.plain.blocks;
        own = r.model.plain.bytes p.own;
        other = r.model.plain.bytes p.other;
      }

  abbrev right_values : (told : List ℕ) (other : Option (List ℕ)) → Values
  right_values told other = record { listed = true; lawful = true; told = told; running = p.running; blocks = p.blocks; own = some p.saved; other = other }

  -- the format is accepted, and the read is of an open block of the client's span into a piece of its size
  unfoldable read_test : Bool
  read_test =
      (accepted (formatted p.start).reply.answer && eqb p.start.size 512) && (allowed p.spans p.client p.own && ltb p.own p.blocks)

  abbrev then_read : List StationEvent
  then_read = ends (reads p.client p.own (block_of 0)) ∷ []

  -- ---- one of the runs

  module _ (es : List StationEvent) (told : List ℕ) (other : Option (List ℕ)) (e : values es ≡ right_values told other) where
    model : stations_model (station_outcome p.spans) p.start es ≡ (ours p.spans p.start p.client p.own es).model
    model = our_model p.spans p.start p.client p.own es

    covered_read : Covered station_outcome p.spans p.start (es ++ then_read)
    unfolding values
    covered_read = our_covered_read p.spans p.start p.client p.own es (ap (λ (v : Values). v.listed) e) (ap (λ (v : Values). v.lawful) e)

    open_blocks : (stations_model (station_outcome p.spans) p.start es).plain.blocks ≡ p.blocks
    unfolding values
    open_blocks = ap (λ (k : Model). k.plain.blocks) model ∙ ap (λ (v : Values). v.blocks) e

    own_set : (stations_model (station_outcome p.spans) p.start es).plain.bytes p.own ≡ some p.saved
    unfolding values
    own_set = ap (λ (k : Model). k.plain.bytes p.own) model ∙ ap (λ (v : Values). v.own) e

    run_shown : accepted (read_after (station_outcome p.spans) p.start es p.client p.own (block_of 0)).reply.answer ≡ true
        → (read_after (station_outcome p.spans) p.start es p.client p.own (block_of 0)).piece ≡ p.saved → RunShown p es told other
    unfolding values
    run_shown ok given =
        record {
          covered = our_covered p.spans p.start p.client p.own es (ap (λ (v : Values). v.listed) e) (ap (λ (v : Values). v.lawful) e);
          numbers_told_law = our_told p.spans p.start p.client p.own es ∙ ap (λ (v : Values). v.told) e;
          growth_runs = ap (λ (k : Model). is_running k.tally.mode) model ∙ ap (λ (v : Values). v.running) e;
          open_blocks = open_blocks;
          own_set = own_set;
          other_set = ap (λ (k : Model). k.plain.bytes p.other) model ∙ ap (λ (v : Values). v.other) e;
          read_accepted = ok;
          bytes_read = given;
        }

  -- ---- both

  module _ (t : read_test ≡ true) (one : values p.first ≡ right_values p.first_told (some p.other_saved))
      (two : values p.second ≡ right_values p.second_told none) (same : shared p.client p.first ≡ shared p.client p.second) where
    format_accepted : accepted (formatted p.start).reply.answer ≡ true
    unfolding read_test
    format_accepted = and_left _ _ (and_left _ _ t)

    -- by the claim
    same_read : SameRead station_outcome p.spans p.client p.start p.first p.second p.own (block_of 0)
    same_read =
        separate p.spans p.client p.start format_accepted (p.first ++ then_read) (p.second ++ then_read)
        (covered_read p.first p.first_told (some p.other_saved) one) (covered_read p.second p.second_told none two)
        (shared_then p.client p.first p.second then_read same) p.first [] p.second [] p.own (block_of 0) refl refl same

    read_accepted : accepted (read_after (station_outcome p.spans) p.start p.first p.client p.own (block_of 0)).reply.answer ≡ true
    unfolding read_test
    read_accepted =
        let own = and_right (accepted (formatted p.start).reply.answer && eqb p.start.size 512) _ t in
        same_read.is_accepted_law (and_left _ _ own)
        (rw (open_blocks p.first p.first_told (some p.other_saved) one) (ltb-true _ _ (and_right (allowed p.spans p.client p.own) _ own)))
        (length-replicate {A = ℕ} 512 0 ∙ sym (eqb-true _ _ (and_right (accepted (formatted p.start).reply.answer) _ (and_left _ _ t))))

    shown : Shown p
    shown =
        let bytes = same_read.same_bytes_law p.saved read_accepted (own_set p.first p.first_told (some p.other_saved) one) in
        record {
          format_accepted = format_accepted;
          same_shared = same;
          first_run = run_shown p.first p.first_told (some p.other_saved) one read_accepted bytes.0;
          second_run = run_shown p.second p.second_told none two (subst (λ (r : Result Told Refusal). accepted r ≡ true) same_read.same_answer read_accepted) bytes.1;
        }

-- ---- unset blocks

record UnsetValues : Type 0 where
  listed : Bool
  lawful : Bool
  set : Option (List ℕ)
  answered : Bool
  piece : List ℕ

module _ (t : Spans) (a : Start) (x : ℕ) (es : List StationEvent) where
  unfoldable unset_values : UnsetValues
  unset_values =
      let r = ours t a 0 x es in
      record { listed = list_test es; lawful = r.lawful; set = r.model.plain.bytes x; answered = accepted r.read.reply.answer; piece = r.read.piece }

  unset_shown : (bytes : List ℕ) → unset_values ≡ record { listed = true; lawful = true; set = none; answered = true; piece = bytes } → UnsetShown t a x es bytes
  unfolding unset_values
  unset_shown bytes e =
      record {
        covered = our_covered t a 0 x es (ap (λ (v : UnsetValues). v.listed) e) (ap (λ (v : UnsetValues). v.lawful) e);
        unset = ap (λ (k : Model). k.plain.bytes x) (our_model t a 0 x es) ∙ ap (λ (v : UnsetValues). v.set) e;
        read_accepted = ap (λ (r : Outcome). accepted r.reply.answer) (our_read t a 0 x es) ∙ ap (λ (v : UnsetValues). v.answered) e;
        bytes_read = ap (λ (r : Outcome). r.piece) (our_read t a 0 x es) ∙ ap (λ (v : UnsetValues). v.piece) e;
      }

-- ---- each pair, computed

unfoldable pair_computing : Unit {0}
unfolding stations_computing values read_test unset_values shared is_shared growth_torn own_write_torn record_left written_then_grown only_grown
pair_computing = tt

growth_torn_law : Shown growth_torn
unfolding pair_computing
growth_torn_law = shown growth_torn refl refl refl refl

own_write_torn_law : Shown own_write_torn
unfolding pair_computing
own_write_torn_law = shown own_write_torn refl refl refl refl

record_left_old : Shown (record_left old_record true 2 0 1)
unfolding pair_computing
record_left_old = shown (record_left old_record true 2 0 1) refl refl refl refl

record_left_new : Shown (record_left new_record false 3 0 1)
unfolding pair_computing
record_left_new = shown (record_left new_record false 3 0 1) refl refl refl refl

left_new_other : Shown (record_left new_record false 3 1 0)
unfolding pair_computing
left_new_other = shown (record_left new_record false 3 1 0) refl refl refl refl

torn_differs : UnsetDiffers two_and_one three_disks 1 own_write_torn.first own_write_torn.second (block_of 5) (block_of 6)
unfolding pair_computing
torn_differs =
    record {
      same_shared = own_write_torn_law.same_shared;
      first_run = unset_shown two_and_one three_disks 1 own_write_torn.first (block_of 5) refl;
      second_run = unset_shown two_and_one three_disks 1 own_write_torn.second (block_of 6) refl;
    }

added_differs : UnsetDiffers last_two two_disks 2 written_then_grown only_grown (block_of 2) (block_of 0)
unfolding pair_computing
added_differs =
    record {
      same_shared = refl;
      first_run = unset_shown last_two two_disks 2 written_then_grown (block_of 2) refl;
      second_run = unset_shown last_two two_disks 2 only_grown (block_of 0) refl;
    }

pub runs_worked : RunsWorked
runs_worked =
    record {
      growth_torn_law = growth_torn_law;
      own_write_torn_law = own_write_torn_law;
      record_left_old = record_left_old;
      record_left_new = record_left_new;
      left_new_other = left_new_other;
      torn_differs = torn_differs;
      added_differs = added_differs;
    }
