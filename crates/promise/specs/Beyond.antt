-- Document 01, "Medium, state, record": "Bytes beyond the last disk are never touched", of every call, whole or cut; and the calls that store
-- nothing at all. `proofs/Beyond.antt` has the proof.
use Rattle.std.specs.Prelude.{ℕ, ◌≡◌, List, drop}
use Rattle.medium.specs.declared.Geometry.{Geometry}
use Rattle.medium.specs.Medium.{bytes_needed, Observations, observe, Store, no_store, apply, AfterCut, MayLeave, apply_cut}
use Rattle.volume.specs.declared.Volume.{Volume}
use Rattle.volume.specs.Calls.{format_outcome}
use Rattle.volume.specs.States.{geometry, disks}
use Rattle.promise.specs.Calls.{Call, read, restart, flushed}
use Rattle.promise.specs.Lists.{call_outcome}

-- what a store leaves of a medium's bytes beyond the record and n disks, whole and cut
pub record Keeps (g : Geometry) (n : ℕ) (store : Store) (m : List ℕ) : Type 0 where
  pub whole : drop (bytes_needed g n) (apply g store m) ≡ drop (bytes_needed g n) m
  pub cut : (l : AfterCut) → MayLeave store l → drop (bytes_needed g n) (apply_cut g store l m) ≡ drop (bytes_needed g n) m

-- Nothing is asked of the state: a refused call stores nothing. Grow, too, keeps the bytes beyond the disks that there were.
pub record BeyondLaws : Type 0 where
  pub call_keeps : (c : Call) (v : Volume) (m : List ℕ) → Keeps (geometry v) (disks v) (call_outcome c v (observe m)).store m
  pub format_keeps : (z s n : ℕ) (m : List ℕ) → Keeps (record { size = z; rows = s }) n (format_outcome z s n (observe m)).store m
  -- restart "stores nothing", and so do read and flushed
  pub read_stores_nothing : (x : ℕ) (piece : List ℕ) (v : Volume) (o : Observations) → (call_outcome (read x piece) v o).store ≡ no_store
  pub restart_stores_nothing : (v : Volume) (o : Observations) → (call_outcome restart v o).store ≡ no_store
  pub flushed_stores_nothing : (v : Volume) (o : Observations) → (call_outcome flushed v o).store ≡ no_store
