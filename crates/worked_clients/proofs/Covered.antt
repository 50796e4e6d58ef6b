-- Whether the claim is about a list, as a test, and what a computed run comes to.
use Prim.Native.Nat.{ℕ}
use mathlib.Core.Bool.{Bool, true, false, ◌&&◌, false≢true}
use mathlib.Core.List.{List, [], ◌∷◌, ◌++◌}
use mathlib.Core.Logic.{inl}
use mathlib.Core.Path.{◌≡◌, refl, sym, ap, ◌∙◌}
use Rattle.base.proofs.Booleans.{and_left, and_right}
use Rattle.medium.specs.Medium.{observe}
use Rattle.volume.specs.Calls.{Outcome}
use Rattle.promise.specs.Lists.{System, memory_of, NoEarlyCut}
use Rattle.promise.specs.Model.{Model}
use Rattle.promise.specs.Promise.{Start, begin}
use Rattle.spans.specs.declared.Spans.{Spans}
use Rattle.clients.specs.Stations.{RackCall, grows, grows_beyond_doubling, copies, checkpoints, advances, restarts, flushes, rack_call, StationCall, by_rack, reads, writes, call_of, Act, StationEvent, ends, fails, event_of, events_of, LawfulStations, stations_after, stations_model, read_after}
use Rattle.clients.specs.TwoRuns.{SharedEvent, shared, BeginsFlushed, WritesFlushed, Covered}
use Rattle.clients.proofs.CoveredLists.{covered_open}
use Rattle.clients.proofs.Standing.{shared_append}
use Rattle.worked.specs.Worked.{block_of}
use Rattle.worked.proofs.FasterCalls.{medium_seen, seen_same}
use Rattle.worked.proofs.Reflects.{Reflects, holds, fails as fails_to, passed, both}
use Rattle.worked.proofs.Computed.{model_fed}
use Rattle.worked_clients.specs.Runs.{numbers_told}
use Rattle.worked_clients.proofs.Computed.{Result, Right, computed_stations, right}

-- ---- a flushed after every write, and at the beginning

abbrev is_flushes : (c : RackCall) → Bool
is_flushes (grows count) = false
is_flushes (grows_beyond_doubling count) = false
is_flushes (copies x) = false
is_flushes checkpoints = false
is_flushes advances = false
is_flushes restarts = false
is_flushes flushes = true

is_flushes_law : (c : RackCall) → Reflects (c ≡ flushes) (is_flushes c)
is_flushes_law (grows count) = fails_to (λ e. false≢true (ap is_flushes e))
is_flushes_law (grows_beyond_doubling count) = fails_to (λ e. false≢true (ap is_flushes e))
is_flushes_law (copies x) = fails_to (λ e. false≢true (ap is_flushes e))
is_flushes_law checkpoints = fails_to (λ e. false≢true (ap is_flushes e))
is_flushes_law advances = fails_to (λ e. false≢true (ap is_flushes e))
is_flushes_law restarts = fails_to (λ e. false≢true (ap is_flushes e))
is_flushes_law flushes = holds refl

unfoldable pub begins_flushed : (es : List StationEvent) → Bool
begins_flushed [] = false
begins_flushed (ends (by_rack c) ∷ es) = is_flushes c
begins_flushed (ends (reads k x piece) ∷ es) = false
begins_flushed (ends (writes k x piece) ∷ es) = false
begins_flushed (fails c left ∷ es) = false

begins_flushed_law : (es : List StationEvent) → Reflects (BeginsFlushed es) (begins_flushed es)
unfolding begins_flushed BeginsFlushed
begins_flushed_law [] = fails_to (λ e. e)
begins_flushed_law (ends (by_rack c) ∷ es) = is_flushes_law c
begins_flushed_law (ends (reads k x piece) ∷ es) = fails_to (λ e. e)
begins_flushed_law (ends (writes k x piece) ∷ es) = fails_to (λ e. e)
begins_flushed_law (fails c left ∷ es) = fails_to (λ e. e)

unfoldable pub writes_flushed : (es : List StationEvent) → Bool
writes_flushed [] = true
writes_flushed (ends (by_rack c) ∷ es) = writes_flushed es
writes_flushed (ends (reads k x piece) ∷ es) = writes_flushed es
writes_flushed (ends (writes k x piece) ∷ es) = begins_flushed es && writes_flushed es
writes_flushed (fails c left ∷ es) = writes_flushed es

pub writes_flushed_law : (es : List StationEvent) → Reflects (WritesFlushed es) (writes_flushed es)
unfolding writes_flushed WritesFlushed
writes_flushed_law [] = holds tt
writes_flushed_law (ends (by_rack c) ∷ es) = writes_flushed_law es
writes_flushed_law (ends (reads k x piece) ∷ es) = writes_flushed_law es
writes_flushed_law (ends (writes k x piece) ∷ es) = both (begins_flushed_law es) (writes_flushed_law es)
writes_flushed_law (fails c left ∷ es) = writes_flushed_law es

-- a list that begins with flushed has no early cut
pub no_early_cut : (es : List StationEvent) → begins_flushed es ≡ true → NoEarlyCut (events_of es)
unfolding events_of event_of call_of NoEarlyCut begins_flushed rack_call
no_early_cut [] t = absurd (false≢true t)
no_early_cut (ends (by_rack c) ∷ es) t = inl (ap rack_call (passed (is_flushes_law c) t))
no_early_cut (ends (reads k x piece) ∷ es) t = absurd (false≢true t)
no_early_cut (ends (writes k x piece) ∷ es) t = absurd (false≢true t)
no_early_cut (fails c left ∷ es) t = absurd (false≢true t)

unfoldable pub list_test : (es : List StationEvent) → Bool
list_test es = begins_flushed es && writes_flushed es

-- what the runs agree on, with the same events after it
pub shared_then : (client : ℕ) (es fs rest : List StationEvent) → shared client es ≡ shared client fs → shared client (es ++ rest) ≡ shared client (fs ++ rest)
shared_then client es fs rest same =
    shared_append client es rest ∙ ap (λ (l : List SharedEvent). l ++ shared client rest) same ∙ sym (shared_append client fs rest)

-- ---- a run from a format on, with a read of block x at its end

pub record Seen : Type 0 where
  -- lawful, and not ended by a cut
  pub lawful : Bool
  pub told : List ℕ
  pub model : Model
  pub read : Outcome

module _ (calls : (t : Spans) (c : StationCall) → Act) (t : Spans) (a : Start) (client x : ℕ) (es : List StationEvent) where
  abbrev read_of : System → Outcome
  read_of s = calls t (reads client x (block_of 0)) (memory_of s) (observe (medium_seen s))

  abbrev result : Result Outcome
  result = computed_stations (calls t) read_of (begin a) es

  unfoldable pub seen : Seen
  seen =
      let r = result in
      record { lawful = r.lawful && r.up; told = r.told; model = model_fed a r.fed; read = r.found }

  here : Right (calls t) read_of (begin a) es result
  here = right (calls t) read_of (begin a) es

  pub told_seen : seen.told ≡ numbers_told (calls t) (begin a) es
  unfolding seen
  told_seen = here.all_told

  pub model_seen : seen.model ≡ stations_model (calls t) a es
  unfolding seen stations_model
  model_seen = ap (model_fed a) here.all_fed_law

  pub read_seen : seen.read ≡ read_after (calls t) a es client x (block_of 0)
  unfolding seen read_after stations_after
  read_seen =
      let s = stations_after (calls t) a es in
      here.all_found ∙ ap (λ (m : List ℕ). calls t (reads client x (block_of 0)) (memory_of s) (observe m)) (seen_same s)

  pub lawful_seen : seen.lawful ≡ true → LawfulStations (calls t) (begin a) es
  unfolding seen
  lawful_seen l = passed here.is_lawful (and_left result.lawful _ l)

  pub covered_seen : list_test es ≡ true → seen.lawful ≡ true → Covered calls t a es
  unfolding list_test
  covered_seen e l =
      record {
        lawful = lawful_seen l;
        no_early_cut = no_early_cut es (and_left (begins_flushed es) _ e);
        writes_flushed_law = passed (writes_flushed_law es) (and_right (begins_flushed es) _ e);
      }

  -- with the read too
  pub covered_read : list_test es ≡ true → seen.lawful ≡ true → Covered calls t a (es ++ (ends (reads client x (block_of 0)) ∷ []))
  unfolding seen stations_after
  covered_read e l = (covered_open calls t a).a_read es (covered_seen e l) (passed here.ends_up_law (and_right result.lawful _ l)) client x (block_of 0)
