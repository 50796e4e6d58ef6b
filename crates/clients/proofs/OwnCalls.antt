-- `as_own_calls`.
use mathlib.Core.Path.{ap}
use Rattle.promise.specs.Model.{CachedModel}
use Rattle.promise.specs.Promise.{begin, system_after, model_of}
use Rattle.promise.proofs.Theorem.{start_geometry, start_cached}
use Rattle.clients.specs.Stations.{stations_after, stations_model}
use Rattle.clients.specs.OwnCalls.{kept_all, AsOwnCalls}
use Rattle.clients.proofs.Separated.{ready_start}
use Rattle.clients.proofs.Translated.{same_run, early_kept}

pub as_own_calls : AsOwnCalls
unfolding stations_after stations_model system_after model_of
as_own_calls t a ok es l n =
    let early = early_kept t es n in
    let same = same_run t (start_geometry a) es (begin a) (start_cached a) (ready_start a ok (kept_all t es) early) l in
    record { lawful = same.lawful; no_early_cut = early; same_system = same.system; same_model = ap (λ (k : CachedModel). k.current) same.model }
