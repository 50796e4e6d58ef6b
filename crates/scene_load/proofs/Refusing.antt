-- Scenes that are refused, and the load of a list that has one or has none.
use Prim.Native.Nat.{ℕ, ◌+◌, ◌≤◌, ◌<◌}
use mathlib.Core.Path.{◌≡◌, refl, sym}
use mathlib.Core.Bool.{Bool, true, false, cond, not}
use mathlib.Core.List.{List, [], ◌∷◌}
use mathlib.Core.Logic.{◌≢◌}
use native.Mathlib.Decide.{dec_lt, ℕ_discrete}
use native.Mathlib.Omega.{arith}
use lib.Dec.{eqb, leb, ltb}
use lib.ListN.{length, replicate}
use borrow.Author.Tests.{ltb-true, ltb-false, lt-ltb, le-ltb, leb-false, le-leb, eqb-true, eqb-false, ne_eqb}
use Rattle.std.specs.Prelude.{Ok}
use Rattle.base.specs.Below.{first}
use Rattle.base.specs.Refusals.{refusal}
use Rattle.base.proofs.Booleans.{neither, clash, by_test}
use Rattle.base.proofs.Lowest.{first_before, first_passes, first_none}
use Rattle.base.proofs.Refusals.{passed, held}
use Rattle.layout.specs.Limits.{most_disks}
use Rattle.layout.specs.Tally.{open_blocks}
use Rattle.volume.specs.declared.Volume.{Volume}
use Rattle.volume.specs.Sound.{sound}
use Rattle.volume.specs.States.{tally_of}
use Rattle.volume.proofs.LiveCode.{open_most}
use Rattle.scene_load.specs.declared.Scene.{Scene}
use Rattle.scene_load.specs.Loads.{Load, load_refusal_number, load_number, place_told, served_told, reaches_past, is_refused, refused_at, most_scenes, refused_place, load_table, refused_load, load_of_first, load_of}
use Rattle.scene_load.specs.Laws.{refusal_of, LoadRefuses, FirstRefused}

-- ---- one scene

-- a scene that is not refused: its place is among the first 65,536, and it ends among the open blocks or has none
pub place_allowed : (blocks place : ℕ) (scene : Scene) → is_refused blocks place scene ≡ false → place < most_scenes
unfolding is_refused
place_allowed blocks place scene e = leb-false most_scenes place (neither (leb most_scenes place) (reaches_past blocks scene) e).0

within_open : (blocks place : ℕ) (scene : Scene) → is_refused blocks place scene ≡ false → scene.count ≢ 0 → scene.first + scene.count ≤ blocks
unfolding is_refused reaches_past
within_open blocks place scene e h =
    ltb-false blocks (scene.first + scene.count) (rw (ne_eqb scene.count 0 h) at (neither (leb most_scenes place) (reaches_past blocks scene) e).1)

pub block_within : (blocks place : ℕ) (scene : Scene) → is_refused blocks place scene ≡ false → (j : ℕ) → j < scene.count → scene.first + j < blocks
block_within blocks place scene e j h = omega (arith, within_open blocks place scene e (λ (z : scene.count ≡ 0). absurd (omega arith)))

-- and so it has no more blocks than a volume can have
pub few_blocks : (v : Volume) → sound v ≡ true → (place : ℕ) (scene : Scene) → is_refused (open_blocks (tally_of v)) place scene ≡ false → scene.count ≤ 16_000_000
few_blocks v s place scene e =
    elim (ℕ_discrete scene.count 0) [
      | yes z ↦ omega (arith, z)
      | no z ↦ omega (arith, within_open (open_blocks (tally_of v)) place scene e z, open_most v s)
    ]

-- ---- a list, up to n scenes

module _ (v : Volume) (scenes : List Scene) (n : ℕ) where
  -- no refusal: the state is sound and no scene is refused
  pub accepted_sound : refusal (load_table v scenes n) ≡ 0 → sound v ≡ true
  unfolding load_table
  accepted_sound e = (held 1 (sound v) ((17, ltb (refused_place v scenes n) n) ∷ []) (omega arith) e).0

  pub accepted_all : refusal (load_table v scenes n) ≡ 0 → (i : ℕ) → i < n → refused_at v scenes i ≡ false
  unfolding load_table refused_place
  accepted_all e i h =
      let rest = (held 1 (sound v) ((17, ltb (refused_place v scenes n) n) ∷ []) (omega arith) e).1 in
      let none = (passed 17 (ltb (refused_place v scenes n) n) [] (omega arith) rest).0 in
      first_before (refused_at v scenes) n i (omega (arith, ltb-false (refused_place v scenes n) n none))

  -- 17: the state is sound, and the place is that of the first scene that is refused
  seventeen : (a b : Bool) → refusal ((1, not a) ∷ (17, b) ∷ []) ≡ 17 → b ≡ true
  unfolding refusal
  seventeen true true e = refl
  seventeen true false e = absurd (omega arith)
  seventeen false b e = absurd (omega arith)

  pub refused_below : refusal (load_table v scenes n) ≡ 17 → refused_place v scenes n < n
  unfolding load_table
  refused_below e = ltb-true (refused_place v scenes n) n (seventeen (sound v) (ltb (refused_place v scenes n) n) e)

-- ---- the answer

-- the number that refuses a list is 1 or 17
told_refused : (v : Volume) (scenes : List Scene) (n : ℕ) → refusal (load_table v scenes n) ≢ 0 → refusal (load_table v scenes n) ≢ 17
    → refusal (load_table v scenes n) ≡ 1
unfolding load_table refusal
told_refused v scenes n some other = one (sound v) (ltb (refused_place v scenes n) n) some other
  where
    one : (a b : Bool) → refusal ((1, not a) ∷ (17, b) ∷ []) ≢ 0 → refusal ((1, not a) ∷ (17, b) ∷ []) ≢ 17 → refusal ((1, not a) ∷ (17, b) ∷ []) ≡ 1
    one true true h k = absurd (k refl)
    one true false h k = absurd (h refl)
    one false b h k = refl

-- what a load tells, by the number that refuses it
module _ (place k : ℕ) (served : List ℕ) where
  abbrev told : Load
  told = cond (eqb k 0) (Ok served) (refused_load place k)

  number_is_law : (k ≢ 0 → k ≢ 17 → k ≡ 1) → load_number told ≡ k
  unfolding load_number load_refusal_number refused_load
  number_is_law one =
      by_test (eqb k 0) (λ t. rw t (sym (eqb-true k 0 t)))
      (λ t. by_test (eqb k 17) (λ u. rw (t, u) (sym (eqb-true k 17 u))) (λ u. rw (t, u) (sym (one (eqb-false k 0 t) (eqb-false k 17 u)))))

  numbers_none : k ≢ 0 → served_told told ≡ replicate most_disks 0
  unfolding served_told refused_load
  numbers_none h = rw (ne_eqb k 0 h)

  place_none : k ≢ 17 → place_told told ≡ 0
  unfolding place_told refused_load
  place_none h = by_test (eqb k 0) (λ t. rw t) (λ t. rw (t, ne_eqb k 17 h))

  place_is : k ≡ 17 → place_told told ≡ place
  unfolding place_told refused_load
  place_is h = rw h

module _ (v : Volume) (scenes : List Scene) where
  pub load_refuses : LoadRefuses v scenes
  unfolding load_of load_of_first
  load_refuses =
      record {
        number_told = number_is_law (refused_place v scenes (length scenes)) (refusal_of v scenes) _ (told_refused v scenes (length scenes));
        no_numbers = numbers_none (refused_place v scenes (length scenes)) (refusal_of v scenes) _;
        no_place = place_none (refused_place v scenes (length scenes)) (refusal_of v scenes) _;
      }

  place_of_first : refusal_of v scenes ≡ 17 → place_told (load_of v scenes) ≡ refused_place v scenes (length scenes)
  unfolding load_of load_of_first
  place_of_first e = place_is (refused_place v scenes (length scenes)) (refusal_of v scenes) _ e

  pub first_refused : refusal_of v scenes ≡ 17 → FirstRefused v scenes (place_told (load_of v scenes))
  unfolding refused_place
  first_refused e =
      let below = refused_below v scenes (length scenes) e in
      rw (place_of_first e)
      (record {
        in_list = below;
        scene_refused = first_passes (refused_at v scenes) (length scenes) below;
        earlier_not = first_before (refused_at v scenes) (length scenes);
      })

  pub some_refused : (place : ℕ) → sound v ≡ true → place < length scenes → refused_at v scenes place ≡ true
      → refusal_of v scenes ≡ 17
  unfolding load_table refusal refused_place
  some_refused place s h e =
      let p = refused_at v scenes in
      elim (dec_lt (first p (length scenes)) (length scenes)) [
        | yes l ↦ rw (s, lt-ltb (first p (length scenes)) (length scenes) l)
        | no l ↦ clash e (first_before p (length scenes) place (omega (arith, l)))
      ]

  pub unsound_first : sound v ≡ false → refusal_of v scenes ≡ 1
  unfolding load_table refusal
  unsound_first e = rw e

  pub all_accepted : sound v ≡ true → ((place : ℕ) → place < length scenes → refused_at v scenes place ≡ false) → refusal_of v scenes ≡ 0
  unfolding load_table refusal refused_place
  all_accepted s none =
      rw (s, le-ltb (first (refused_at v scenes) (length scenes)) (length scenes) (omega (arith, first_none (refused_at v scenes) (length scenes) none)))

  pub few_scenes : refusal_of v scenes ≡ 0 → length scenes ≤ most_scenes
  unfolding is_refused
  few_scenes e =
      elim (dec_lt most_scenes (length scenes)) [
        | yes l ↦ clash (rw (le-leb most_scenes most_scenes (omega arith))) (accepted_all v scenes (length scenes) e most_scenes l)
        | no l ↦ omega (arith, l)
      ]
