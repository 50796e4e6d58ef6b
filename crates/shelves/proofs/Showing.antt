-- What an accepted view shows: what read gives on the two shelves joined.
use Prim.Native.Nat.{ℕ, ◌+◌, ◌≤◌, ◌<◌}
use mathlib.Core.Path.{◌≡◌, refl, sym, ap, ◌∙◌}
use mathlib.Core.Bool.{false}
use mathlib.Core.List.{List, [], ◌++◌}
use mathlib.Core.Logic.{◌≢◌}
use native.Mathlib.Omega.{arith}
use lib.Dec.{ltb}
use lib.ListN.{length, take, drop, length-append, length-take, length-drop, take-append-drop}
use lib.Seq.{length-take-le, take-append-le, drop-append-le, drop-append-add}
use borrow.Author.Tests.{le-ltb, eq-eqb, ne_eqb, ltb-true, ltb-false}
use Rattle.std.specs.Prelude.{Ok, Err}
use Rattle.base.specs.Refusals.{refusal}
use Rattle.base.proofs.Booleans.{cond_cases}
use Rattle.layout.specs.declared.Spot.{Spot}
use Rattle.layout.specs.Tally.{live_spot_of}
use Rattle.medium.specs.declared.Geometry.{Geometry}
use Rattle.medium.specs.Medium.{place, bytes_needed, observe}
use Rattle.volume.specs.declared.Volume.{Volume}
use Rattle.volume.specs.Answers.{number}
use Rattle.volume.specs.Calls.{refused, doing, too_short, read_table, read_effect, read_outcome}
use Rattle.volume.specs.States.{geometry, disks, tally_of}
use Rattle.volume.proofs.Judged.{accepted_when}
use Rattle.volume.proofs.SoundLaws.{sound_facts}
use Rattle.volume.proofs.Theorems.{volume_laws}
use Rattle.shelves.specs.declared.ViewStart.{ViewStart}
use Rattle.shelves.specs.declared.ViewStart.TheVariants.{First, Second}
use Rattle.shelves.specs.Laws.{Fitting, Stands, Shows, joined_of}
use Rattle.shelves.specs.Shelves.{first_needs, second_needs, joined, place_on_second, start_on_shelf}
use Rattle.shelves.specs.Views.{ViewAnswer, shelves_table, view_table, view_answer, view_number, part_shown, view_of}
use Rattle.shelves.proofs.Places.{both_need, second_place, first_holds, second_holds}
use Rattle.shelves.proofs.Refusing.{view_told}
use Rattle.shelves.proofs.Standing.{live_within, answer_stands}
use Rattle.shelves.proofs.Tests.{ViewFacts, view_accepted, answer_found}

-- ---- parts of lists

part_before : (xs ys : List ℕ) (at z : ℕ) → at + z ≤ length xs → take z (drop at (xs ++ ys)) ≡ take z (drop at xs)
part_before xs ys at z h =
    let l : z ≤ length (drop at xs) = simp length-drop (omega arith) in
    ap (take z) (drop-append-le at xs ys (omega arith)) ∙ take-append-le z (drop at xs) ys l

-- a part of the first n elements
pub part_of_front : (l : List ℕ) (n at z : ℕ) → n ≤ length l → at + z ≤ n → take z (drop at (take n l)) ≡ take z (drop at l)
part_of_front l n at z h k =
    let f : at + z ≤ length (take n l) = simp length-take (omega arith) in
    sym (part_before (take n l) (drop n l) at z f) ∙ ap (λ (m : List ℕ). take z (drop at m)) (take-append-drop n l)

-- ---- the part of an answer that stands on its shelf

module _ (v : Volume) (first second : List ℕ) (k x : ℕ) where
  abbrev StandsHere : (a : ViewAnswer) → Type 0
  StandsHere a = Stands v (length first) (length second) k x a

  -- one block long
  shown_length : (a : ViewAnswer) → StandsHere a → view_number a ≡ 0 → length (part_shown v.size first second a) ≡ v.size
  unfolding Stands part_shown number
  shown_length (Err r) s h = absurd (s h)
  shown_length (Ok (First at)) s h = length-take-le v.size (drop at first) (simp length-drop (omega (arith, s.1, s.2)))
  shown_length (Ok (Second at)) s h = length-take-le v.size (drop at second) (simp length-drop (omega (arith, s.1, s.2)))

  -- the same out of shelves cut to their needs
  pub shown_cut : (a : ViewAnswer) → StandsHere a
      → part_shown v.size (take (first_needs (geometry v) k) first) (take (second_needs (geometry v) (disks v) k) second) a
      ≡ part_shown v.size first second a
  unfolding Stands part_shown
  shown_cut (Err r) s = refl
  shown_cut (Ok (First at)) s = part_of_front first (first_needs (geometry v) k) at v.size s.2 s.1
  shown_cut (Ok (Second at)) s = part_of_front second (second_needs (geometry v) (disks v) k) at v.size s.2 s.1

-- a refusal shows nothing
pub shown_empty : (z : ℕ) (first second : List ℕ) (a : ViewAnswer) → view_number a ≢ 0 → part_shown z first second a ≡ []
unfolding part_shown number
shown_empty z first second (Err r) h = refl
shown_empty z first second (Ok (First at)) h = absurd (h refl)
shown_empty z first second (Ok (Second at)) h = absurd (h refl)

-- ---- the bytes of a spot, on the two joined

module _ (g : Geometry) (n k : ℕ) (first second : List ℕ) (a : first_needs g k ≤ length first) (b : second_needs g n k ≤ length second) where
  front_length : length (take (first_needs g k) first) ≡ first_needs g k
  front_length = length-take-le (first_needs g k) first a

  first_bytes : (p : Spot) → p.disk < k → p.row.0 < g.rows
      → (observe (joined g n k first second)).bytes_at g p ≡ take g.size (drop (place g p) first)
  unfolding observe joined
  first_bytes p d r =
      let h = first_holds g k p d r in
      let l : place g p + g.size ≤ length (take (first_needs g k) first) = rw front_length h in
      part_before (take (first_needs g k) first) (take (second_needs g n k) second) (place g p) g.size l
      ∙ part_of_front first (first_needs g k) (place g p) g.size a h

  second_bytes : (p : Spot) → k ≤ p.disk → p.disk < n → p.row.0 < g.rows
      → (observe (joined g n k first second)).bytes_at g p ≡ take g.size (drop (place_on_second g k p) second)
  unfolding observe joined
  second_bytes p h d r =
      let front = take (first_needs g k) first in
      let rest = take (second_needs g n k) second in
      let f : place g p ≡ length front + place_on_second g k p = rw front_length (sym (second_place g k p h)) in
      ap (λ (at : ℕ). take g.size (drop at (front ++ rest))) f
      ∙ ap (take g.size) (drop-append-add front rest (place_on_second g k p))
      ∙ part_of_front second (second_needs g n k) (place_on_second g k p) g.size b (second_holds g n k p h d r)

  -- the part that a start shows
  start_shows : (p : Spot) → p.disk < n → p.row.0 < g.rows
      → part_shown g.size first second (Ok (start_on_shelf g k p)) ≡ (observe (joined g n k first second)).bytes_at g p
  unfolding start_on_shelf part_shown
  start_shows p d r =
      cond_cases (λ (a : ViewStart). part_shown g.size first second (Ok a) ≡ (observe (joined g n k first second)).bytes_at g p) (ltb p.disk k)
      (λ t. sym (first_bytes p (ltb-true p.disk k t) r)) (λ t. sym (second_bytes p (ltb-false p.disk k t) d r))

-- ---- an accepted view

pub joined_length : (v : Volume) (first second : List ℕ) (k : ℕ) → Fitting v (length first) (length second) k
    → length (joined_of v k first second) ≡ bytes_needed (geometry v) (disks v)
unfolding joined
joined_length v first second k f =
    let front = take (first_needs (geometry v) k) first in
    let rest = take (second_needs (geometry v) (disks v) k) second in
    let a : length front ≡ first_needs (geometry v) k = length-take-le (first_needs (geometry v) k) first f.first_long in
    let b : length rest ≡ second_needs (geometry v) (disks v) k = length-take-le (second_needs (geometry v) (disks v) k) second f.second_long in
    length-append front rest ∙ rw (a, b) (both_need (geometry v) (disks v) k f.disks_there)

-- the medium of read
long_enough : (v : Volume) (first second : List ℕ) (k : ℕ) → Fitting v (length first) (length second) k
    → too_short (geometry v) (disks v) (length (joined_of v k first second)) ≡ false
unfolding too_short
long_enough v first second k f =
    rw (joined_length v first second k f) (le-ltb (bytes_needed (geometry v) (disks v)) (bytes_needed (geometry v) (disks v)) (omega arith))

module _ (v : Volume) (first second : List ℕ) (k x : ℕ) where
  abbrev all : List ℕ
  all = joined_of v k first second

  same_refusal : Fitting v (length first) (length second) k
      → refusal (view_table v (length first) (length second) k x) ≡ refusal (read_table v x v.size (length all))
  unfolding refusal view_table shelves_table read_table
  same_refusal f =
      rw (
        ne_eqb k 0 f.some_disk,
        le-ltb (disks v) k f.disks_there,
        le-ltb (length first) (first_needs (geometry v) k) f.first_long,
        le-ltb (length second) (second_needs (geometry v) (disks v) k) f.second_long,
        long_enough v first second k f,
        eq-eqb v.size v.size refl,
      )

  pub same_number : (piece : List ℕ) → Fitting v (length first) (length second) k → length piece ≡ v.size
      → view_number (view_answer v (length first) (length second) k x) ≡ number (read_outcome v x piece (observe all)).reply.answer
  unfolding observe
  same_number piece f e =
      view_told v (length first) (length second) k x ∙ same_refusal f
      ∙ sym (rw e at (volume_laws.read_refuses v x piece (observe all)).number_told)

  module _ (accepted : refusal (view_table v (length first) (length second) k x) ≡ 0) where
    facts : ViewFacts v (length first) (length second) k x
    facts = view_accepted v (length first) (length second) k x accepted

    pub equals_read : view_of v first second k x ≡ (read_effect v x (observe all)).piece
    unfolding view_of read_effect doing geometry
    equals_read =
        let w = live_within v x facts.is_sound facts.block_open in
        rw (answer_found v (length first) (length second) k x accepted)
        (start_shows (geometry v) (disks v) k first second facts.fitting.first_long facts.fitting.second_long (live_spot_of (tally_of v) x) w.0 w.1)

    pub read_done : (piece : List ℕ) → length piece ≡ v.size → read_outcome v x piece (observe all) ≡ read_effect v x (observe all)
    unfolding read_outcome observe
    read_done piece e =
        accepted_when (read_table v x (length piece) (length all)) (λ n. refused v n piece) (read_effect v x (observe all))
        (rw e (sym (same_refusal facts.fitting) ∙ accepted))

    pub one_block : length (view_of v first second k x) ≡ v.size
    unfolding view_of
    one_block =
        shown_length v first second k x (view_answer v (length first) (length second) k x) (answer_stands v (length first) (length second) k x)
        (view_told v (length first) (length second) k x ∙ accepted)

    pub view_shows : Shows v first second k x
    view_shows = record { one_block = one_block; equals_read = equals_read; read_accepted = read_done }

  -- ---- "A refusal shows an empty part", and no accepted view does

  pub empty_refused : view_of v first second k x ≡ [] → view_number (view_answer v (length first) (length second) k x) ≢ 0
  empty_refused e h =
      let accepted = sym (view_told v (length first) (length second) k x) ∙ h in
      let whole : 0 ≡ v.size = ap length (sym e) ∙ one_block accepted in
      absurd (omega (arith, whole, (sound_facts v (facts accepted).is_sound).size_least))
