-- Views that are the same: out of shelves without spare bytes, with no second shelf where none is needed, whatever is pending, and out of a
-- medium cut in two.
use Prim.Native.Nat.{ℕ, ◌≤◌, min}
use mathlib.Core.Path.{◌≡◌, sym, ap, ◌∙◌}
use mathlib.Core.List.{List}
use mathlib.Core.Logic.{◌≢◌}
use native.Mathlib.Nat.{sub_self, zero-mul}
use native.Mathlib.Omega.{arith}
use lib.Dec.{ltb}
use lib.ListN.{length, take, drop, length-take, length-drop}
use lib.Seq.{take-take, take-add}
use borrow.Author.Tests.{le-ltb}
use Rattle.base.specs.Refusals.{refusal}
use Rattle.base.proofs.Booleans.{same_order}
use Rattle.medium.specs.declared.Geometry.{Geometry}
use Rattle.medium.specs.Medium.{bytes_needed, observe}
use Rattle.volume.specs.declared.Pending.{Pending}
use Rattle.volume.specs.declared.Volume.{Volume}
use Rattle.volume.specs.Calls.{doing, read_table, read_effect}
use Rattle.volume.specs.States.{geometry, history_of, disks, tally_of, with_pending}
use Rattle.volume.proofs.Accepted.{read_accepted}
use Rattle.volume.proofs.LookUpLaws.{live_inside}
use Rattle.volume.proofs.Theorems.{volume_laws}
use Rattle.shelves.specs.Laws.{Fitting}
use Rattle.shelves.specs.Shelves.{first_needs, second_needs, joined}
use Rattle.shelves.specs.Views.{shelves_table, view_table, view_answer, view_number, view_of}
use Rattle.shelves.proofs.Places.{both_need}
use Rattle.shelves.proofs.Refusing.{view_told}
use Rattle.shelves.proofs.Showing.{part_of_front, shown_cut, equals_read}
use Rattle.shelves.proofs.Standing.{answer_stands}
use Rattle.shelves.proofs.Tests.{all_fit, none_refuses}

-- ---- spare bytes

-- a list that is cut to n elements has fewer exactly if it had fewer before
cut_shorter : (n : ℕ) (l : List ℕ) → ltb (length (take n l)) n ≡ ltb (length l) n
cut_shorter n l = rw (length-take n l) (same_order (min n (length l)) n (length l) n (λ h. omega (arith, h)) (λ h. omega (arith, h)))

module _ (v : Volume) (first second : List ℕ) (k x : ℕ) where
  abbrev cut_first : List ℕ
  cut_first = take (first_needs (geometry v) k) first

  abbrev cut_second : List ℕ
  cut_second = take (second_needs (geometry v) (disks v) k) second

  same_answer : view_answer v (length cut_first) (length cut_second) k x ≡ view_answer v (length first) (length second) k x
  unfolding view_answer view_table shelves_table
  same_answer = rw (cut_shorter (first_needs (geometry v) k) first, cut_shorter (second_needs (geometry v) (disks v) k) second)

  pub spare_not_shown : view_of v cut_first cut_second k x ≡ view_of v first second k x
  unfolding view_of
  spare_not_shown =
      rw same_answer
      (shown_cut v first second k x (view_answer v (length first) (length second) k x) (answer_stands v (length first) (length second) k x))

-- ---- no second shelf

pub none_needed : (g : Geometry) (n : ℕ) → second_needs g n n ≡ 0
unfolding second_needs
none_needed g n = rw (sub_self n, zero-mul g.rows, zero-mul g.size)

pub no_second : (v : Volume) (first second x : ℕ) → view_answer v first second (disks v) x ≡ view_answer v first 0 (disks v) x
unfolding view_answer view_table shelves_table
no_second v first second x = rw (none_needed (geometry v) (disks v), le-ltb second 0 (omega arith), le-ltb 0 0 (omega arith))

-- ---- what is pending

pub pending_shown : (v : Volume) (p : Pending) (first second k x : ℕ) → view_answer (with_pending v p) first second k x ≡ view_answer v first second k x
unfolding view_answer view_table shelves_table with_pending geometry disks history_of tally_of
pending_shown v p first second k x = rw (volume_laws.pending_sound v p)

-- ---- a medium cut in two

-- the two parts of the medium, joined, are its bytes of the disks
parts_joined : (g : Geometry) (n k : ℕ) (m : List ℕ) → k ≤ n
    → joined g n k (take (first_needs g k) m) (drop (first_needs g k) m) ≡ take (bytes_needed g n) m
unfolding joined
parts_joined g n k m h =
    rw (take-take (first_needs g k) (first_needs g k) m (omega arith), ← both_need g n k h) (sym (take-add (first_needs g k) (second_needs g n k) m))

module _ (v : Volume) (m : List ℕ) (k x : ℕ) (n : k ≢ 0) (h : k ≤ disks v) (e : refusal (read_table v x v.size (length m)) ≡ 0) where
  abbrev needed : ℕ
  needed = bytes_needed (geometry v) (disks v)

  abbrev front : List ℕ
  front = take (first_needs (geometry v) k) m

  abbrev rest : List ℕ
  rest = drop (first_needs (geometry v) k) m

  parts_fit : Fitting v (length front) (length rest) k
  parts_fit =
      let both = both_need (geometry v) (disks v) k h in
      let room = (read_accepted v x v.size (length m) e).room in
      record {
        some_disk = n;
        disks_there = h;
        first_long = simp length-take (omega (arith, both, room));
        second_long = simp length-drop (omega (arith, both, room));
      }

  -- a read sees no byte beyond the disks
  read_within : (read_effect v x (observe (take needed m))).piece ≡ (read_effect v x (observe m)).piece
  unfolding read_effect doing observe geometry
  read_within =
      let f = read_accepted v x v.size (length m) e in
      let i = live_inside v x needed f.is_sound f.block_open (omega arith) in
      part_of_front m needed _ v.size f.room i.fits

  parts_accepted : refusal (view_table v (length front) (length rest) k x) ≡ 0
  parts_accepted =
      let f = read_accepted v x v.size (length m) e in
      let fits = sym (all_fit v (length front) (length rest) k f.is_sound parts_fit) in
      sym (none_refuses v (length front) (length rest) k x fits f.block_open)

  pub of_medium : (view_number (view_answer v (length front) (length rest) k x) ≡ 0) × (view_of v front rest k x ≡ (read_effect v x (observe m)).piece)
  of_medium = (
    view_told v (length front) (length rest) k x ∙ parts_accepted,
    equals_read v front rest k x parts_accepted
        ∙ ap (λ (l : List ℕ). (read_effect v x (observe l)).piece) (parts_joined (geometry v) (disks v) k m h) ∙ read_within,
  )
