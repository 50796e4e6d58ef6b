-- What the code on the blocks of one scene meets.
use Prim.Native.Nat.{ℕ, ◌+◌, ◌-◌, ◌*◌, ◌≤◌, ◌<◌}
use mathlib.Core.Path.{◌≡◌, refl, sym, ◌∙◌}
use mathlib.Core.Bool.{Bool, true, false, cond}
use mathlib.Core.List.{List}
use mathlib.Core.Logic.{◌≢◌}
use native.Mathlib.Nat.{add-zero}
use native.Mathlib.Omega.{arith}
use lib.Dec.{eqb, ltb}
use lib.ListN.{length, get_or, set}
use borrow.Author.Tests.{le-leb, lt-leb, lt-ltb, eq-eqb, ne_eqb}
use Rattle.base.specs.Below.{count}
use Rattle.base.proofs.Booleans.{same_order}
use Rattle.base.proofs.Counting.{count_next, count_most}
use Rattle.base.proofs.Lists.{get_d_table, table_ext, table_self, set_table}
use Rattle.layout.specs.declared.Spot.{Spot}
use Rattle.layout.specs.Limits.{most_disks}
use Rattle.layout.specs.Tally.{open_blocks, live_spot_of}
use Rattle.volume.specs.declared.Volume.{Volume}
use Rattle.volume.specs.Sound.{sound}
use Rattle.volume.specs.States.{tally_of}
use Rattle.volume.proofs.CallsCode.{disks_most}
use Rattle.scene_load.specs.declared.Scene.{Scene}
use Rattle.scene_load.specs.Loads.{names, served_of_scene, most_scenes, reaches_past, is_refused}
use Rattle.scene_load.specs.Steps.{with_blocks, Usable, NoneWraps}
use Rattle.scene_load.proofs.Refusing.{place_allowed, few_blocks}
use Rattle.scene_load.proofs.Serving.{names_live, live_disk}

-- ---- is the scene refused

module _ (blocks place first count : ℕ) where
  abbrev refuses : Bool
  refuses = is_refused blocks place (record { first = first; count = count })

  pub late_refused : most_scenes ≤ place → true ≡ refuses
  unfolding is_refused
  late_refused h = rw (le-leb most_scenes place h)

  module _ (early : place < most_scenes) where
    pub empty_allowed : count ≡ 0 → false ≡ refuses
    unfolding is_refused reaches_past
    empty_allowed e = rw (lt-leb most_scenes place early, eq-eqb count 0 e)

    by_end : count ≢ 0 → ltb blocks (first + count) ≡ refuses
    unfolding is_refused reaches_past
    by_end some = rw (lt-leb most_scenes place early, ne_eqb count 0 some)

    pub many_refused : blocks < count → true ≡ refuses
    many_refused h = sym (lt-ltb blocks (first + count) (omega arith)) ∙ by_end (λ z. absurd (omega arith))

    pub end_tested : count ≢ 0 → count ≤ blocks → ltb (blocks - count) first ≡ refuses
    end_tested some h = same_order (blocks - count) first blocks (first + count) (λ l. omega arith) (λ l. omega arith) ∙ by_end some

-- ---- the blocks of a scene, one after another

-- the numbers with the scene's first j blocks
abbrev pub with_first : (v : Volume) (served : List ℕ) (first j : ℕ) → List ℕ
with_first v served first j = with_blocks v served (record { first = first; count = j })

module _ (v : Volume) (served : List ℕ) (first : ℕ) where
  abbrev numbers : (j d : ℕ) → ℕ
  numbers j d = get_or served d 0 + served_of_scene v d (record { first = first; count = j })

  number_there : (j d : ℕ) → d < most_disks → get_or (with_first v served first j) d 0 ≡ numbers j d
  number_there j d h = get_d_table 0 (numbers j) most_disks d h

  pub none_added : length served ≡ most_disks → served ≡ with_first v served first 0
  unfolding served_of_scene count
  none_added e =
      sym (table_self 0 served most_disks e) ∙ table_ext (λ d. get_or served d 0) (numbers 0) most_disks (λ d h. sym (add-zero (get_or served d 0)))

  -- no number wraps
  pub number_most : (j d : ℕ) → d < most_disks → get_or (with_first v served first j) d 0 ≤ get_or served d 0 + j
  unfolding served_of_scene
  number_most j d h = omega (arith, number_there j d h, count_most (λ i. names v d (first + i)) j)

  number_next : (j d : ℕ) (hit : Bool) → names v d (first + j) ≡ hit → numbers (j + 1) d ≡ numbers j d + cond hit 1 0
  unfolding served_of_scene
  number_next j d hit e = omega (arith, count_next (λ i. names v d (first + i)) j hit e)

  module _ (e : sound v ≡ true) (j disk : ℕ) (is_open : first + j < open_blocks (tally_of v)) (at : disk ≡ (live_spot_of (tally_of v) (first + j)).disk) (small : disk < most_disks) where
    named : (d : ℕ) → names v d (first + j) ≡ eqb disk d
    named d = rw at (names_live v e d (first + j) is_open)

    -- one block more, at its disk
    pub block_added : set (with_first v served first j) disk (get_or (with_first v served first j) disk 0 + 1) ≡ with_first v served first (j + 1)
    block_added =
        let here : get_or (with_first v served first j) disk 0 + 1 ≡ numbers (j + 1) disk =
        omega (arith, number_there j disk small, number_next j disk true (named disk ∙ eq-eqb disk disk refl)) in
        rw here
        (set_table 0 (numbers j) (numbers (j + 1)) most_disks disk small
        (λ d h n. let same = number_next j d false (named d ∙ ne_eqb disk d (λ q. n (sym q))) in omega arith))

-- the disk of an open block is one of the 16
pub disk_small : (v : Volume) → sound v ≡ true → (x : ℕ) (p : Spot) → x < open_blocks (tally_of v) → p ≡ live_spot_of (tally_of v) x → p.disk < most_disks
disk_small v e x p h at = rw at (omega (arith, live_disk v e x h, disks_most v e))

-- ---- a load with one scene more

module _ (v : Volume) (served : List ℕ) (place : ℕ) (scene : Scene) (usable : Usable v served place) where
  pub none_wraps : is_refused (open_blocks (tally_of v)) place scene ≡ false → NoneWraps served scene.count
  none_wraps e d h =
      let before : get_or served d 0 ≤ place * 16_000_000 = usable.no_more d h in
      let early = place_allowed (open_blocks (tally_of v)) place scene e in
      let few = few_blocks v usable.is_sound place scene e in
      omega arith
