-- What the code that answers a view needs: that no number of bytes wraps, and the answer as it is found.
use Prim.Native.Nat.{ℕ, ◌*◌, ◌≤◌, ◌<◌, ◌^◌}
use mathlib.Core.Path.{◌≡◌, refl, sym}
use mathlib.Core.Bool.{true}
use native.Mathlib.Omega.{arith}
use borrow.Author.Tests.{ne_eqb}
use Rattle.std.specs.Prelude.{Ok, Err}
use Rattle.base.specs.declared.Refusal.{Refusal}
use Rattle.base.specs.declared.Refusal.TheVariants.{BlockNotOpen}
use Rattle.base.specs.Refusals.{refusal, refusal_number, checked}
use Rattle.layout.specs.declared.Spot.{Spot}
use Rattle.layout.specs.Tally.{open_blocks, live_spot_of}
use Rattle.medium.specs.declared.Geometry.{Geometry}
use Rattle.medium.specs.Medium.{place, bytes_needed}
use Rattle.medium.proofs.MediumCode.{factor_fits}
use Rattle.volume.specs.declared.Volume.{Volume}
use Rattle.volume.specs.Sound.{sound}
use Rattle.volume.specs.States.{geometry, disks, tally_of}
use Rattle.volume.proofs.CallsCode.{disks_most}
use Rattle.volume.proofs.LiveCode.{bytes_asked}
use Rattle.volume.proofs.LookUpLaws.{live_inside}
use Rattle.shelves.specs.declared.ViewStart.{ViewStart}
use Rattle.shelves.specs.Shelves.{start_on_shelf}
use Rattle.shelves.specs.Views.{shelves_table, view_table, view_answer}
use Rattle.volume.proofs.Judged.{Tells, tells, tells_before, err_tells, ok_takes}
use Rattle.shelves.proofs.Tests.{shelves_fit, not_open, none_refuses, answer_found}

-- so many of the disks: blocks on them, and their bytes
module _ (v : Volume) (e : sound v ≡ true) (n : ℕ) (h : n ≤ disks v) where
  pub needs_asked : (g : Geometry) → g ≡ geometry v → (0 < g.size) × (bytes_needed g n < 2 ^ 64)
  needs_asked g same = bytes_asked v e g same n (omega (arith, h, disks_most v e))

  pub bytes_fit : n * v.rows * v.size < 2 ^ 64
  unfolding bytes_needed geometry
  bytes_fit = omega (arith, (needs_asked (geometry v) refl).1)

  pub rows_fit : n * v.rows < 2 ^ 64
  unfolding bytes_needed geometry
  rows_fit = let a = needs_asked (geometry v) refl in factor_fits (n * v.rows) v.size a.0 a.1

-- a byte of the disks, so of an open block's live spot, is counted in 64 bits
pub start_asked : (v : Volume) → sound v ≡ true → (x : ℕ) → x < open_blocks (tally_of v) → (g : Geometry) → g ≡ geometry v
    → (p : Spot) → p ≡ live_spot_of (tally_of v) x → (0 < g.size) × (place g p < 2 ^ 64)
start_asked v e x o g same p q =
    let b = bytes_asked v e (geometry v) refl (disks v) (disks_most v e) in
    let i = live_inside v x (bytes_needed (geometry v) (disks v)) e o (omega arith) in
    rw (same, q) (b.0, omega (arith, b.1, i.fits))

-- the answer as the code finds it
module _ (v : Volume) (first second k x : ℕ) where
  pub view_refused : (r : Refusal) → Tells (refusal (view_table v first second k x)) r → Err r ≡ view_answer v first second k x
  unfolding view_answer
  view_refused r f = rw (ne_eqb (refusal (view_table v first second k x)) 0 f.0, f.1)

  pub shelves_refused : (r : Refusal) → Err r ≡ checked (refusal (shelves_table v first second k)) → Err r ≡ view_answer v first second k x
  unfolding view_table
  shelves_refused r e = view_refused r (tells_before (shelves_table v first second k) _ r (err_tells _ r e))

  module _ (u : Unit {0}) (e : Ok u ≡ checked (refusal (shelves_table v first second k))) where
    passed_shelves : refusal (shelves_table v first second k) ≡ 0
    passed_shelves = ok_takes _ u e

    -- a state that the tests of the shelves pass
    pub state_sound : sound v ≡ true
    state_sound = (shelves_fit v first second k passed_shelves).0

    pub block_refused : open_blocks (tally_of v) ≤ x → Err BlockNotOpen ≡ view_answer v first second k x
    unfolding refusal_number
    block_refused o = view_refused BlockNotOpen (tells _ BlockNotOpen (not_open v first second k x passed_shelves o))

    pub view_found : x < open_blocks (tally_of v) → (p : Spot) → p ≡ live_spot_of (tally_of v) x → (start : ViewStart) (g : Geometry) → g ≡ geometry v
        → start ≡ start_on_shelf g k p → Ok start ≡ view_answer v first second k x
    view_found o p q start g same made =
        rw (answer_found v first second k x (sym (none_refuses v first second k x passed_shelves o)), rw (same, q) at made)
