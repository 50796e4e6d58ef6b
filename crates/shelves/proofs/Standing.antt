-- Where the block of an answer stands.
use Prim.Native.Nat.{ℕ, ◌+◌, ◌≤◌, ◌<◌}
use mathlib.Core.Path.{◌≡◌}
use mathlib.Core.Bool.{true}
use mathlib.Core.List.{List, []}
use native.Mathlib.Omega.{arith}
use lib.Dec.{ltb}
use lib.ListN.{length, take, drop}
use borrow.Author.Tests.{ltb-true, ltb-false}
use Rattle.std.specs.Prelude.{Ok, Err}
use Rattle.base.specs.declared.Refusal.{Refusal}
use Rattle.base.specs.Refusals.{refusal_with}
use Rattle.base.proofs.Booleans.{cond_cases}
use Rattle.base.proofs.Refusals.{number_told}
use Rattle.layout.specs.Tally.{open_blocks, live_spot_of}
use Rattle.volume.specs.declared.Volume.{Volume}
use Rattle.volume.specs.Sound.{sound}
use Rattle.volume.specs.States.{geometry, disks, tally_of}
use Rattle.volume.proofs.Judged.{judged_cases}
use Rattle.volume.proofs.LookUpLaws.{look_ups_of}
use Rattle.shelves.specs.declared.ViewStart.{ViewStart}
use Rattle.shelves.specs.declared.ViewStart.TheVariants.{First, Second}
use Rattle.shelves.specs.Laws.{Stands}
use Rattle.shelves.specs.Shelves.{start_on_shelf}
use Rattle.shelves.specs.Views.{view_table, view_answer, part_shown, view_of}
use Rattle.shelves.proofs.Places.{first_holds, second_holds}
use Rattle.shelves.proofs.Tests.{view_accepted}

-- a live spot is on one of the disks, in one of the rows
pub live_within : (v : Volume) (x : ℕ) → sound v ≡ true → x < open_blocks (tally_of v)
    → ((live_spot_of (tally_of v) x).disk < disks v) × ((live_spot_of (tally_of v) x).row.0 < (geometry v).rows)
unfolding tally_of geometry disks
live_within v x e h = let w = (look_ups_of v e).live_within x h in (w.disk, w.row)

pub answer_stands : (v : Volume) (first second k x : ℕ) → Stands v first second k x (view_answer v first second k x)
unfolding view_answer start_on_shelf Stands geometry
answer_stands v first second k x =
    judged_cases (Stands v first second k x) (view_table v first second k x) (λ n. Err (refusal_with n)) _
    (λ e.
    let f = view_accepted v first second k x e in
    let p = live_spot_of (tally_of v) x in
    let w = live_within v x f.is_sound f.block_open in
    cond_cases (λ (a : ViewStart). Stands v first second k x (Ok a)) (ltb p.disk k)
    (λ t. (ltb-true p.disk k t, first_holds (geometry v) k p (ltb-true p.disk k t) w.1, f.fitting.first_long))
    (λ t. (ltb-false p.disk k t, second_holds (geometry v) (disks v) k p (ltb-false p.disk k t) w.0 w.1, f.fitting.second_long)))
    (λ _. number_told _)

-- an answer that is known
pub in_first : (v : Volume) (first second k x at : ℕ) → Ok (First at) ≡ view_answer v first second k x → at + v.size ≤ first
unfolding Stands
in_first v first second k x at e =
    let s = rw (← e) at (answer_stands v first second k x) in
    omega (arith, s.1, s.2)

pub in_second : (v : Volume) (first second k x at : ℕ) → Ok (Second at) ≡ view_answer v first second k x → at + v.size ≤ second
unfolding Stands
in_second v first second k x at e =
    let s = rw (← e) at (answer_stands v first second k x) in
    omega (arith, s.1, s.2)

-- the part that an answer shows, as the code takes it
module _ (v : Volume) (first second : List ℕ) (k x : ℕ) (part : List ℕ) where
  pub none_shown : (r : Refusal) → Err r ≡ view_answer v (length first) (length second) k x → part ≡ [] → part ≡ view_of v first second k x
  unfolding view_of part_shown
  none_shown r e made = rw (← e) made

  pub first_shown : (at : ℕ) → Ok (First at) ≡ view_answer v (length first) (length second) k x → part ≡ take v.size (drop at first)
      → part ≡ view_of v first second k x
  unfolding view_of part_shown
  first_shown at e made = rw (← e) made

  pub second_shown : (at : ℕ) → Ok (Second at) ≡ view_answer v (length first) (length second) k x → part ≡ take v.size (drop at second)
      → part ≡ view_of v first second k x
  unfolding view_of part_shown
  second_shown at e made = rw (← e) made
