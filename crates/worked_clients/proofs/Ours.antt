-- A run of our calls, computed with the restart that computes faster.
use Prim.Native.Nat.{ℕ}
use mathlib.Core.Path.{◌≡◌, refl, sym, ap, ◌∙◌, fun_ext}
use mathlib.Core.Bool.{true}
use mathlib.Core.List.{List, [], ◌∷◌, ◌++◌}
use Rattle.volume.specs.Answers.{accepted}
use Rattle.promise.specs.Promise.{Start, formatted, begin}
use Rattle.spans.specs.declared.Spans.{Spans}
use Rattle.clients.specs.Stations.{StationCall, reads, Act, station_outcome, StationEvent, ends, LawfulStations, stations_model, read_after}
use Rattle.clients.specs.TwoRuns.{Covered}
use Rattle.worked.specs.Worked.{block_of}
use Rattle.worked_clients.specs.Runs.{numbers_told, two_disks}
use Rattle.worked_clients.proofs.Computed.{faster_stations, faster_same}
use Rattle.worked_clients.proofs.Covered.{list_test, Seen, seen, told_seen, model_seen, read_seen, lawful_seen, covered_seen, covered_read}
use Rattle.worked_clients.proofs.Computing.{stations_computing}

abbrev faster_ours : (t : Spans) (c : StationCall) → Act
faster_ours t = faster_stations (station_outcome t)

ours_same : faster_ours ≡ station_outcome
unfolding stations_computing
ours_same = fun_ext (λ t. faster_same (station_outcome t) (λ v o. refl))

pub two_disks_accepted : accepted (formatted two_disks).reply.answer ≡ true
unfolding stations_computing
two_disks_accepted = refl

module _ (t : Spans) (a : Start) (client x : ℕ) (es : List StationEvent) where
  abbrev pub ours : Seen
  ours = seen faster_ours t a client x es

  same : ours ≡ seen station_outcome t a client x es
  same = ap (λ (calls : (t : Spans) (c : StationCall) → Act). seen calls t a client x es) ours_same

  is_lawful : ours.lawful ≡ true → (seen station_outcome t a client x es).lawful ≡ true
  is_lawful l = ap (λ (r : Seen). r.lawful) (sym same) ∙ l

  pub our_told : numbers_told (station_outcome t) (begin a) es ≡ ours.told
  our_told = sym (ap (λ (r : Seen). r.told) same ∙ told_seen station_outcome t a client x es)

  pub our_model : stations_model (station_outcome t) a es ≡ ours.model
  our_model = sym (ap (λ (r : Seen). r.model) same ∙ model_seen station_outcome t a client x es)

  pub our_read : read_after (station_outcome t) a es client x (block_of 0) ≡ ours.read
  our_read = sym (ap (λ (r : Seen). r.read) same ∙ read_seen station_outcome t a client x es)

  pub our_lawful : ours.lawful ≡ true → LawfulStations (station_outcome t) (begin a) es
  our_lawful l = lawful_seen station_outcome t a client x es (is_lawful l)

  pub our_covered : list_test es ≡ true → ours.lawful ≡ true → Covered station_outcome t a es
  our_covered e l = covered_seen station_outcome t a client x es e (is_lawful l)

  pub our_covered_read : list_test es ≡ true → ours.lawful ≡ true → Covered station_outcome t a (es ++ (ends (reads client x (block_of 0)) ∷ []))
  our_covered_read e l = covered_read station_outcome t a client x es e (is_lawful l)
