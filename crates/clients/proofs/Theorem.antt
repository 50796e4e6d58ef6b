-- W10: `separate`, `same_replies`.
use Prim.Native.Nat.{ℕ}
use mathlib.Core.Path.{◌≡◌, sym, ap, ◌∙◌, subst}
use mathlib.Core.Bool.{true, false}
use mathlib.Core.List.{List}
use mathlib.Core.Option.{none}
use Rattle.medium.specs.Medium.{observe}
use Rattle.std.specs.Prelude.{Result}
use Rattle.base.specs.declared.Refusal.{Refusal}
use Rattle.volume.specs.declared.Reply.{Reply}
use Rattle.volume.specs.declared.Told.{Told}
use Rattle.volume.specs.Answers.{accepted}
use Rattle.promise.specs.Lists.{call_outcome, System, IsUp, NoEarlyCut, last_reported, memory_of, medium_of}
use Rattle.promise.specs.Model.{CachedModel, modelled}
use Rattle.promise.specs.Promise.{Start, formatted, begin, system_after}
use Rattle.promise.proofs.EventSteps.{Invariant}
use Rattle.promise.proofs.Theorem.{start_geometry, start_cached, invariant_after}
use Rattle.spans.specs.declared.Spans.{Spans}
use Rattle.spans.specs.Spans.{allowed}
use Rattle.clients.specs.ClientCalls.{client_read}
use Rattle.clients.specs.OwnCalls.{kept_all}
use Rattle.clients.specs.Stations.{StationCall, reads, station_outcome, StationEvent, fed_stations, stations_after, stations_model, reply_after, read_after}
use Rattle.clients.specs.TwoRuns.{shared, Covered, SameRead, Separate, SameReplies}
use Rattle.clients.proofs.ClientSpans.{accepted_span}
use Rattle.clients.proofs.ListsBefore.{covered_before, no_flushed, read_up}
use Rattle.clients.proofs.Models as models
use Rattle.clients.proofs.Outcomes.{station_reply}
use Rattle.clients.proofs.Separated.{ready_start, end_alike, client_accepted, client_bytes}
use Rattle.clients.proofs.Systems.{Alike, seen_same}
use Rattle.clients.proofs.Translated.{SameRun, same_run, early_kept}
use Rattle.clients.proofs.Views.{View, meets, view_of}

module _ (t : Spans) (a : Start) (ok : accepted (formatted a).reply.answer ≡ true) (es : List StationEvent) (c : Covered station_outcome t a es) where
  pub early_here : NoEarlyCut (kept_all t es)
  early_here = early_kept t es c.no_early_cut

  pub same_here : SameRun t (start_geometry a) (begin a) (start_cached a) es (kept_all t es)
  same_here = same_run t (start_geometry a) es (begin a) (start_cached a) (ready_start a ok (kept_all t es) early_here) c.lawful

  -- the invariant after the list
  pub invariant_here : Invariant false (start_geometry a) (stations_after (station_outcome t) a es) (modelled (fed_stations (station_outcome t) (begin a) es) (start_cached a)) (last_reported call_outcome (begin a) (kept_all t es) none)
  unfolding stations_after system_after
  invariant_here = rw (same_here.system, same_here.model) (invariant_after a ok (kept_all t es) same_here.lawful early_here)

-- ---- after two lists

module _ (t : Spans) (client : ℕ) (a : Start) (ok1 : accepted (formatted a).reply.answer ≡ true) (es fs : List StationEvent) (ce : Covered station_outcome t a es)
    (cf : Covered station_outcome t a fs) (q : shared client es ≡ shared client fs) where
  abbrev first : System
  first = stations_after (station_outcome t) a es

  abbrev second : System
  second = stations_after (station_outcome t) a fs

  abbrev first_model : CachedModel
  first_model = modelled (fed_stations (station_outcome t) (begin a) es) (start_cached a)

  abbrev second_model : CachedModel
  second_model = modelled (fed_stations (station_outcome t) (begin a) fs) (start_cached a)

  ends_alike : Alike first second × models.CachedAlike (allowed t client) first_model second_model
  unfolding stations_after
  ends_alike =
      let x = same_here t a ok1 es ce in
      let y = same_here t a ok1 fs cf in
      let agree = meets (allowed t client) (kept_all t es) (shared client es) (view_of t client es ce.writes_flushed_law) (kept_all t fs)
      (subst (View (allowed t client) (kept_all t fs)) (sym q) (view_of t client fs cf.writes_flushed_law)) in
      rw (x.system, y.system, x.model, y.model)
      (end_alike (allowed t client) a ok1 (kept_all t es) (kept_all t fs) x.lawful y.lawful (early_here t a ok1 es ce) (early_here t a ok1 fs cf) agree)

  -- a call is answered alike
  replies_after : (c : StationCall) → reply_after (station_outcome t) a es c ≡ reply_after (station_outcome t) a fs c
  unfolding reply_after
  replies_after c =
      station_reply t c (memory_of first) (memory_of second) (observe (medium_of first)) (observe (medium_of second)) ends_alike.0.memory
      (seen_same (start_geometry a) first second first_model second_model _ _ (invariant_here t a ok1 es ce) (invariant_here t a ok1 fs cf) ends_alike.0)

  -- and a read
  read_after_lists : IsUp first → (b : ℕ) (piece : List ℕ) → SameRead station_outcome t client a es fs b piece
  unfolding stations_model read_after reply_after station_outcome
  read_after_lists u b piece =
      let same = ap (λ (r : Reply Told). r.answer) (replies_after (reads client b piece)) in
      let own : accepted (client_read t client (memory_of first) b piece (observe (medium_of first))).reply.answer ≡ true → allowed t client b ≡ true =
      accepted_span t client (memory_of first) b piece (observe (medium_of first)) in
      let plain = ends_alike.1.current.plain in
      record {
        same_answer = same;
        same_plain = λ ok. plain.bytes b (own ok);
        same_bytes_law = λ bytes ok set. (
          client_bytes t client (start_geometry a) first first_model _ (invariant_here t a ok1 es ce) u b piece ok bytes set,
          client_bytes t client (start_geometry a) second second_model _ (invariant_here t a ok1 fs cf) (ends_alike.0.up_too u) b piece
              (subst (λ (r : Result Told Refusal). accepted r ≡ true) same ok) bytes (sym (plain.bytes b (own ok)) ∙ set),
        );
        same_open = plain.blocks;
        is_accepted_law = client_accepted t client (start_geometry a) first first_model _ (invariant_here t a ok1 es ce) u b piece;
      }

pub separate : Separate
separate t client a ok es fs ce cf q before rest before1 rest1 x piece e f same =
    let other = no_flushed client x piece in
    let c = covered_before t (reads client x piece) other rest a es before e ce in
    let d = covered_before t (reads client x piece) other rest1 a fs before1 f cf in
    read_after_lists t client a ok before before1 c.0 d.0 same (read_up t client x piece _ c.1) x piece

pub same_replies : SameReplies
same_replies t client a ok es fs ce cf q before rest before1 rest1 c own other e f same =
    replies_after t client a ok before before1 (covered_before t c other rest a es before e ce).0 (covered_before t c other rest1 a fs before1 f cf).0 same c
