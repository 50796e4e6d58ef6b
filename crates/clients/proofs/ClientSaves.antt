-- Which blocks are set: `client_saves`.
use Prim.Native.Nat.{ℕ, ◌<◌}
use mathlib.Core.Path.{◌≡◌, refl, ap, ◌∙◌}
use mathlib.Core.Bool.{Bool, true, false}
use mathlib.Core.List.{List, [], ◌∷◌, ◌++◌}
use mathlib.Core.Option.{some}
use Rattle.medium.specs.Medium.{observe}
use Rattle.volume.specs.Answers.{accepted}
use Rattle.promise.specs.Calls.{ended}
use Rattle.promise.specs.Lists.{System, memory_of, medium_of, outcome, fed}
use Rattle.promise.specs.Model.{Model, start_model, CachedModel, nothing_pending, model_after, modelled}
use Rattle.promise.specs.Promise.{Start, begin}
use Rattle.promise.specs.SavesKept.{Saves}
use Rattle.promise.proofs.SavesKept.{saves_kept}
use Rattle.clients.specs.Stations.{StationCall, writes, call_of, Act, StationEvent, ends, event_of, calls_of, after_station, after_stations, fed_stations, stations_after, stations_model}
use Rattle.clients.specs.ClientSaves.{ClientSaves}

module _ (calls : (c : StationCall) → Act) where
  pub modelled_append : (s : System) (k : CachedModel) (es rest : List StationEvent)
      → modelled (fed_stations calls s (es ++ rest)) k ≡ modelled (fed_stations calls (after_stations calls s es) rest) (modelled (fed_stations calls s es) k)
  unfolding modelled fed_stations after_stations
  modelled_append s k [] rest = refl
  modelled_append s k (e ∷ es) rest = modelled_append (after_station calls s e) (model_after (fed (calls_of calls e) s (event_of e)) k) es rest

module _ (calls : (c : StationCall) → Act) (a : Start) where
  abbrev model_before : (es : List StationEvent) → CachedModel
  model_before es = modelled (fed_stations calls (begin a) es) (nothing_pending (start_model a.rows a.disks))

  abbrev is_accepted : (es : List StationEvent) (c : StationCall) → Bool
  is_accepted es c = accepted (calls c (memory_of (stations_after calls a es)) (observe (medium_of (stations_after calls a es)))).reply.answer

  -- one call more
  one_more : (es : List StationEvent) (c : StationCall)
      → stations_model calls a (es ++ (ends c ∷ [])) ≡ (model_after (ended (call_of c) (is_accepted es c)) (model_before es)).current
  unfolding stations_model stations_after
  one_more es c =
      ap (λ (k : CachedModel). k.current) (modelled_append calls (begin a) (nothing_pending (start_model a.rows a.disks)) es (ends c ∷ []))
      ∙ (unfold fed_stations modelled fed calls_of event_of outcome in refl)

  write_sets : (es : List StationEvent) (client x : ℕ) (piece : List ℕ) → is_accepted es (writes client x piece) ≡ true
      → (stations_model calls a (es ++ (ends (writes client x piece) ∷ []))).plain.bytes x ≡ some piece
  write_sets es client x piece e =
      ap (λ (o : Model). o.plain.bytes x) (one_more es (writes client x piece)) ∙ rw e (unfold call_of in saves_kept.write_sets x piece (model_before es))

  refused_keeps : (es : List StationEvent) (c : StationCall) → is_accepted es c ≡ false → stations_model calls a (es ++ (ends c ∷ [])) ≡ stations_model calls a es
  refused_keeps es c e = one_more es c ∙ rw e (unfold stations_model in ap (λ (k : CachedModel). k.current) (saves_kept.refused_keeps (call_of c) (model_before es)))

  others_keep : (es : List StationEvent) (c : StationCall) (x : ℕ) → x < (stations_model calls a es).plain.blocks → (Saves (call_of c) x → ⊥)
      → (stations_model calls a (es ++ (ends c ∷ []))).plain.bytes x ≡ (stations_model calls a es).plain.bytes x
  others_keep es c x below other = ap (λ (o : Model). o.plain.bytes x) (one_more es c) ∙ go (is_accepted es c)
    where
      go : (b : Bool) → (model_after (ended (call_of c) b) (model_before es)).current.plain.bytes x ≡ (stations_model calls a es).plain.bytes x
      go true = unfold stations_model in saves_kept.accepted_keeps (call_of c) (model_before es) x (unfold stations_model in below) other
      go false = unfold stations_model in ap (λ (k : CachedModel). k.current.plain.bytes x) (saves_kept.refused_keeps (call_of c) (model_before es))

  pub client_saves : ClientSaves calls a
  client_saves = record { write_sets = write_sets; refused_keeps = refused_keeps; others_keep = others_keep }
