-- What the code of read and write needs.
use Prim.Native.Nat.{ℕ, ◌≤◌, ◌<◌}
use mathlib.Core.Path.{◌≡◌, refl}
use mathlib.Core.Bool.{cond}
use mathlib.Core.List.{◌∷◌}
use native.Mathlib.Omega.{arith}
use Rattle.base.specs.declared.Refusal.{Refusal}
use Rattle.base.specs.Refusals.{refusal}
use Rattle.base.proofs.Refusals.{passed_first}
use Rattle.layout.specs.declared.Spot.{Spot}
use Rattle.layout.specs.Tally.{live_spot_of, waiting}
use Rattle.medium.specs.declared.Geometry.{Geometry}
use Rattle.medium.specs.Medium.{most_size, Inside}
use Rattle.volume.specs.declared.Volume.{Volume}
use Rattle.volume.specs.Calls.{piece_table, read_table, block_rows, write_table}
use Rattle.volume.specs.States.{geometry, tally_of}
use Rattle.volume.proofs.Accepted.{ReadFacts}
use Rattle.volume.proofs.Judged.{Tells, tells_before}
use Rattle.volume.proofs.LookUpLaws.{live_inside}
use Rattle.volume.proofs.SoundLaws.{sound_facts}

-- what storing and fetching a piece at the live spot require
pub piece_fits : (v : Volume) (x n len : ℕ) → ReadFacts v x n len → (g : Geometry) → g ≡ geometry v → (p : Spot) → p ≡ live_spot_of (tally_of v) x
    → ((0 < g.size) × (g.size ≤ most_size)) × (Inside g len p × (n ≡ g.size))
unfolding geometry
piece_fits v x n len f g same p e =
    let size = sound_facts v f.is_sound in
    rw same (
      (omega (arith, size.size_least), size.size_most),
      (rw e (live_inside v x len f.is_sound f.block_open f.room), f.piece_whole),
    )

-- the table of a write is that of a read, and more tests
module _ (v : Volume) (x n len : ℕ) where
  pub refused_as_read : (r : Refusal) → Tells (refusal (read_table v x n len)) r → Tells (refusal (write_table v x n len)) r
  unfolding write_table read_table
  refused_as_read r f = tells_before (piece_table v x n len) ((7, waiting (tally_of v) x) ∷ block_rows v) r f

  pub refused_waiting : refusal (read_table v x n len) ≡ 0
      → refusal (write_table v x n len) ≡ cond (waiting (tally_of v) x) 7 (refusal (block_rows v))
  unfolding write_table read_table refusal
  refused_waiting e = passed_first (piece_table v x n len) ((7, waiting (tally_of v) x) ∷ block_rows v) refl e
