-- Bytes beyond the last disk are never touched: `beyond_laws` proves all of `BeyondLaws` in `specs/Beyond.antt`.
use Prim.Native.Nat.{ℕ}
use mathlib.Core.Path.{◌≡◌}
use mathlib.Core.List.{List}
use Rattle.medium.specs.declared.Geometry.{Geometry}
use Rattle.medium.specs.Medium.{bytes_needed, Observations, observe, Store, no_store, StoreFits}
use Rattle.medium.proofs.Theorems.{medium_laws}
use Rattle.volume.specs.declared.Volume.{Volume}
use Rattle.volume.specs.States.{geometry}
use Rattle.volume.proofs.StoresFit.{sized, format_fits}
use Rattle.promise.specs.Calls.{read, restart, flushed}
use Rattle.promise.specs.Lists.{call_outcome}
use Rattle.promise.specs.Beyond.{Keeps, BeyondLaws}
use Rattle.promise.proofs.EventSteps.{read_stores, restart_stores, flushed_stores, call_fits}

-- a store in the bytes of n disks
keeps : (g : Geometry) (n : ℕ) (store : Store) (m : List ℕ) → StoreFits g (bytes_needed g n) store → Keeps g n store m
keeps g n store m f =
    record {
      whole = medium_laws.beyond_kept g (bytes_needed g n) store m f;
      cut = λ l may. medium_laws.cut_beyond_kept g (bytes_needed g n) store l m f may;
    }

read_stores_nothing : (x : ℕ) (piece : List ℕ) (v : Volume) (o : Observations) → (call_outcome (read x piece) v o).store ≡ no_store
unfolding call_outcome
read_stores_nothing x piece v o = read_stores v x piece o

restart_stores_nothing : (v : Volume) (o : Observations) → (call_outcome restart v o).store ≡ no_store
unfolding call_outcome
restart_stores_nothing v o = restart_stores o

flushed_stores_nothing : (v : Volume) (o : Observations) → (call_outcome flushed v o).store ≡ no_store
unfolding call_outcome
flushed_stores_nothing v o = flushed_stores v

pub beyond_laws : BeyondLaws
beyond_laws =
    record {
      call_keeps = λ c v m. keeps _ _ _ m (call_fits c v (observe m) (sized (geometry v) m)).0;
      format_keeps = λ z s n m. keeps _ n _ m (format_fits z s n (observe m)).0;
      read_stores_nothing = read_stores_nothing;
      restart_stores_nothing = restart_stores_nothing;
      flushed_stores_nothing = flushed_stores_nothing;
    }
