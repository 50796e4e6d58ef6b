-- The tests of a view, one after another, and what holds where none refuses.
use Prim.Native.Nat.{ℕ, ◌≤◌, ◌<◌}
use mathlib.Core.Path.{◌≡◌, refl}
use mathlib.Core.Bool.{Bool, true, false}
use mathlib.Core.List.{List, [], ◌∷◌, ◌++◌}
use mathlib.Core.Logic.{◌≢◌}
use native.Mathlib.Omega.{arith}
use lib.Dec.{eqb, leb, ltb}
use borrow.Author.Tests.{lt-ltb, le-ltb, le-leb, lt-leb, eq-eqb, ne_eqb, eqb-false, ltb-false, leb-false}
use Rattle.std.specs.Prelude.{Ok}
use Rattle.base.specs.Refusals.{refusal}
use Rattle.base.proofs.Booleans.{by_test}
use Rattle.base.proofs.Refusals.{passed, held, refused_first, passed_first}
use Rattle.layout.specs.Tally.{open_blocks, live_spot_of}
use Rattle.volume.specs.declared.Volume.{Volume}
use Rattle.volume.specs.Sound.{sound}
use Rattle.volume.specs.States.{geometry, disks, tally_of}
use Rattle.shelves.specs.Laws.{Fitting}
use Rattle.shelves.specs.Shelves.{first_needs, second_needs, start_on_shelf}
use Rattle.shelves.specs.Views.{shelves_table, view_table, view_answer}

-- ---- the state and the shelves

module _ (v : Volume) (first second k : ℕ) where
  abbrev told : ℕ
  told = refusal (shelves_table v first second k)

  pub not_sound : sound v ≡ false → 1 ≡ told
  unfolding refusal shelves_table
  not_sound e = rw e

  module _ (e : sound v ≡ true) where
    pub no_disk : k ≡ 0 → 8 ≡ told
    unfolding refusal shelves_table
    no_disk z = rw (e, eq-eqb k 0 z)

    pub many_disks : k ≢ 0 → disks v < k → 8 ≡ told
    unfolding refusal shelves_table
    many_disks n h = rw (e, ne_eqb k 0 n, lt-ltb (disks v) k h)

    module _ (n : k ≢ 0) (h : k ≤ disks v) where
      pub first_short : first < first_needs (geometry v) k → 2 ≡ told
      unfolding refusal shelves_table
      first_short a = rw (e, ne_eqb k 0 n, le-ltb (disks v) k h, lt-ltb first (first_needs (geometry v) k) a)

      pub second_short : second < second_needs (geometry v) (disks v) k → 2 ≡ told
      unfolding refusal shelves_table
      second_short b =
          rw (e, ne_eqb k 0 n, le-ltb (disks v) k h, lt-ltb second (second_needs (geometry v) (disks v) k) b)
          (by_test (ltb first (first_needs (geometry v) k)) (λ t. rw t) (λ t. rw t))

    pub all_fit : Fitting v first second k → 0 ≡ told
    unfolding refusal shelves_table
    all_fit f =
        rw (
          e,
          ne_eqb k 0 f.some_disk,
          le-ltb (disks v) k f.disks_there,
          le-ltb first (first_needs (geometry v) k) f.first_long,
          le-ltb second (second_needs (geometry v) (disks v) k) f.second_long,
        )

-- where none of these refuses, whatever is tested after them
shelves_passed : (v : Volume) (first second k : ℕ) (table : List (ℕ × Bool)) → refusal (shelves_table v first second k ++ table) ≡ 0
    → (sound v ≡ true) × (Fitting v first second k × (refusal table ≡ 0))
unfolding shelves_table
shelves_passed v first second k table e =
    let a = held 1 (sound v) _ (omega arith) e in
    let b = passed 8 (eqb k 0) _ (omega arith) a.1 in
    let c = passed 8 (ltb (disks v) k) _ (omega arith) b.1 in
    let d = passed 2 (ltb first (first_needs (geometry v) k)) _ (omega arith) c.1 in
    let f = passed 2 (ltb second (second_needs (geometry v) (disks v) k)) table (omega arith) d.1 in
    let fits : Fitting v first second k = record {
      some_disk = eqb-false k 0 b.0;
      disks_there = ltb-false (disks v) k c.0;
      first_long = ltb-false first (first_needs (geometry v) k) d.0;
      second_long = ltb-false second (second_needs (geometry v) (disks v) k) f.0;
    } in
    (a.0, (fits, f.1))

pub shelves_fit : (v : Volume) (first second k : ℕ) → refusal (shelves_table v first second k) ≡ 0 → (sound v ≡ true) × Fitting v first second k
unfolding shelves_table
shelves_fit v first second k e = let p = shelves_passed v first second k [] e in (p.0, p.1.0)

-- ---- and the block

module _ (v : Volume) (first second k x : ℕ) where
  pub shelves_first : refusal (shelves_table v first second k) ≢ 0 → refusal (view_table v first second k x) ≡ refusal (shelves_table v first second k)
  unfolding view_table
  shelves_first = refused_first (shelves_table v first second k) ((3, leb (open_blocks (tally_of v)) x) ∷ [])

  module _ (e : refusal (shelves_table v first second k) ≡ 0) where
    block_last : refusal (view_table v first second k x) ≡ refusal ((3, leb (open_blocks (tally_of v)) x) ∷ [])
    unfolding view_table shelves_table
    block_last = passed_first (shelves_table v first second k) ((3, leb (open_blocks (tally_of v)) x) ∷ []) refl e

    pub not_open : open_blocks (tally_of v) ≤ x → 3 ≡ refusal (view_table v first second k x)
    unfolding refusal
    not_open o = rw block_last (rw (le-leb (open_blocks (tally_of v)) x o))

    pub none_refuses : x < open_blocks (tally_of v) → 0 ≡ refusal (view_table v first second k x)
    unfolding refusal
    none_refuses o = rw block_last (rw (lt-leb (open_blocks (tally_of v)) x o))

-- where the block starts, where none refuses
pub answer_found : (v : Volume) (first second k x : ℕ) → refusal (view_table v first second k x) ≡ 0
    → view_answer v first second k x ≡ Ok (start_on_shelf (geometry v) k (live_spot_of (tally_of v) x))
unfolding view_answer
answer_found v first second k x e = rw e

pub record ViewFacts (v : Volume) (first second k x : ℕ) : Type 0 where
  pub is_sound : sound v ≡ true
  pub fitting : Fitting v first second k
  pub block_open : x < open_blocks (tally_of v)

pub view_accepted : (v : Volume) (first second k x : ℕ) → refusal (view_table v first second k x) ≡ 0 → ViewFacts v first second k x
unfolding view_table
view_accepted v first second k x e =
    let p = shelves_passed v first second k ((3, leb (open_blocks (tally_of v)) x) ∷ []) e in
    let o = passed 3 (leb (open_blocks (tally_of v)) x) [] (omega arith) p.1.1 in
    record { is_sound = p.0; fitting = p.1.0; block_open = leb-false (open_blocks (tally_of v)) x o.0 }
