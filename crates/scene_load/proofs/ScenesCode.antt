-- What the walk over a list of scenes meets: the load of the first scenes, with one scene more.
use Prim.Native.Nat.{ℕ, zero, suc, ◌+◌, ◌-◌, ◌≤◌}
use mathlib.Core.Path.{◌≡◌, refl, sym, ap, ◌∙◌}
use mathlib.Core.Bool.{true, false}
use mathlib.Core.List.{List, []}
use native.Mathlib.Nat.{add-zero, add-suc}
use native.Mathlib.Numerals.{add-one}
use native.Mathlib.Omega.{arith}
use lib.Dec.{ltb}
use lib.ListN.{get_or, replicate}
use borrow.Author.Tests.{lt-ltb, le-ltb, ltb-true, ltb-false}
use Rattle.std.specs.Prelude.{Ok, Err}
use Rattle.base.specs.Below.{sum, table, first}
use Rattle.base.specs.Refusals.{refusal}
use Rattle.base.proofs.Booleans.{by_test}
use Rattle.base.proofs.Counting.{count_most, sum_most}
use Rattle.base.proofs.Lists.{get_d_table, table_ext}
use Rattle.base.proofs.Lowest.{first_before}
use Rattle.layout.specs.Limits.{most_disks}
use Rattle.volume.specs.declared.Volume.{Volume}
use Rattle.volume.specs.Sound.{sound}
use Rattle.scene_load.specs.declared.Scene.{Scene}
use Rattle.scene_load.specs.declared.LoadRefusal.{LoadRefusal}
use Rattle.scene_load.specs.declared.LoadRefusal.TheVariants.{NotSound, NoSuchScene}
use Rattle.scene_load.specs.Loads.{scene_at, names, served_of_scene, served_of_first, refused_at, refused_place, load_table, refused_load, load_of_first}
use Rattle.scene_load.specs.Steps.{empty_load, with_blocks, with_scene, Usable}
use Rattle.scene_load.proofs.Refusing.{few_blocks}

-- the load of no scenes, of whatever list
pub none_taken : (v : Volume) (scenes : List Scene) → empty_load v ≡ load_of_first v scenes 0
unfolding load_of_first load_table refused_place served_of_first sum first
none_taken v scenes = refl

module _ (v : Volume) (scenes : List Scene) where
  -- the three kinds of load
  unsound_load : (n : ℕ) → sound v ≡ false → load_of_first v scenes n ≡ Err NotSound
  unfolding load_of_first load_table refusal refused_load
  unsound_load n e = rw e

  refused_load_law : (n : ℕ) → sound v ≡ true → ltb (first (refused_at v scenes) n) n ≡ true
      → load_of_first v scenes n ≡ Err (NoSuchScene (first (refused_at v scenes) n))
  unfolding load_of_first load_table refusal refused_load refused_place
  refused_load_law n e h = rw (e, h)

  counted_load : (n : ℕ) → sound v ≡ true → ltb (first (refused_at v scenes) n) n ≡ false
      → load_of_first v scenes n ≡ Ok (table (served_of_first v scenes n) most_disks)
  unfolding load_of_first load_table refusal refused_load refused_place
  counted_load n e h = rw (e, h)

  -- ---- a refused list, at the same place with more scenes

  refused_before : (i : ℕ) (r : LoadRefusal) → Err r ≡ load_of_first v scenes i → Err r ≡ load_of_first v scenes (suc i)
  unfolding first
  refused_before i r e =
      by_test (sound v)
      (λ s. by_test (ltb (first (refused_at v scenes) i) i)
      (λ h.
      let same : first (refused_at v scenes) (suc i) ≡ first (refused_at v scenes) i = rw h in
      let below = ltb-true (first (refused_at v scenes) i) i h in
      let next = refused_load_law (suc i) s (lt-ltb (first (refused_at v scenes) (suc i)) (suc i) (omega arith)) in
      e ∙ refused_load_law i s h ∙ ap (λ (p : ℕ). Err (NoSuchScene p)) (sym same) ∙ sym next)
      (λ h. absurd (let c : Err r ≡ Ok (table (served_of_first v scenes i) most_disks) = e ∙ counted_load i s h in cc)))
      (λ s. e ∙ unsound_load i s ∙ sym (unsound_load (suc i) s))

  refused_behind : (i k : ℕ) (r : LoadRefusal) → Err r ≡ load_of_first v scenes i → Err r ≡ load_of_first v scenes (i + k)
  refused_behind i zero r e = rw (add-zero i) e
  refused_behind i (suc k) r e = rw (add-suc i k) (refused_before (i + k) r (refused_behind i k r e))

  pub stays_refused : (i n : ℕ) (r : LoadRefusal) → i ≤ n → Err r ≡ load_of_first v scenes i → Err r ≡ load_of_first v scenes n
  stays_refused i n r h e =
      let far : i + (n - i) ≡ n = omega arith in
      rw far at (refused_behind i (n - i) r e)

  -- ---- a list of which no scene is refused so far

  module _ (i : ℕ) (served : List ℕ) (e : Ok served ≡ load_of_first v scenes i) where
    counted_sound : sound v ≡ true
    counted_sound = by_test (sound v) (λ s. s) (λ s. absurd (let c : Ok served ≡ Err NotSound = e ∙ unsound_load i s in cc))

    none_refused : ltb (first (refused_at v scenes) i) i ≡ false
    none_refused =
        by_test (ltb (first (refused_at v scenes) i) i)
        (λ h. absurd (let c : Ok served ≡ Err (NoSuchScene (first (refused_at v scenes) i)) = e ∙ refused_load_law i counted_sound h in cc)) (λ h. h)

    numbers : served ≡ table (served_of_first v scenes i) most_disks
    numbers = let c : Ok served ≡ Ok (table (served_of_first v scenes i) most_disks) = e ∙ counted_load i counted_sound none_refused in cc

    -- the numbers, with those of one scene more
    numbers_next : with_blocks v served (scene_at scenes i) ≡ table (served_of_first v scenes (suc i)) most_disks
    unfolding served_of_first sum
    numbers_next =
        rw numbers
        (table_ext (λ d. get_or (table (served_of_first v scenes i) most_disks) d 0 + served_of_scene v d (scene_at scenes i)) (served_of_first v scenes (suc i)) most_disks
        (λ d h. ap (◌+ served_of_scene v d (scene_at scenes i)) (get_d_table 0 (served_of_first v scenes i) most_disks d h)))

    refused_here : refused_at v scenes i ≡ true → Err (NoSuchScene i) ≡ load_of_first v scenes (suc i)
    unfolding first
    refused_here r =
        let here : first (refused_at v scenes) (suc i) ≡ i = rw (none_refused, r) in
        ap (λ (p : ℕ). Err (NoSuchScene p)) (sym here)
        ∙ sym (refused_load_law (suc i) counted_sound (lt-ltb (first (refused_at v scenes) (suc i)) (suc i) (omega arith)))

    counted_here : refused_at v scenes i ≡ false → Ok (with_blocks v served (scene_at scenes i)) ≡ load_of_first v scenes (suc i)
    unfolding first
    counted_here r =
        let none : first (refused_at v scenes) (suc i) ≡ suc i = rw (none_refused, r) in
        ap (λ (l : List ℕ). Ok l) numbers_next
        ∙ sym (counted_load (suc i) counted_sound (le-ltb (first (refused_at v scenes) (suc i)) (suc i) (omega arith)))

    -- one scene more
    pub next_load : with_scene v served i (scene_at scenes i) ≡ load_of_first v scenes (i + 1)
    unfolding with_scene
    next_load = rw add-one (by_test (refused_at v scenes i) (λ r. rw r (refused_here r)) (λ r. rw r (counted_here r)))

    -- a scene that is not refused adds at most all open blocks
    scene_most : (d place : ℕ) → refused_at v scenes place ≡ false → served_of_scene v d (scene_at scenes place) ≤ 16_000_000
    unfolding served_of_scene
    scene_most d place r =
        let scene = scene_at scenes place in
        omega (arith, count_most (λ j. names v d (scene.first + j)) scene.count, few_blocks v counted_sound place scene r)

    -- what the code may rest on
    pub load_usable : Usable v served i
    unfolding served_of_first
    load_usable =
        record {
          is_sound = counted_sound;
          no_more = λ d h.
              let none = ltb-false (first (refused_at v scenes) i) i none_refused in
              rw (numbers, get_d_table 0 (served_of_first v scenes i) most_disks d h)
              (sum_most (λ place. served_of_scene v d (scene_at scenes place)) i 16_000_000
              (λ place l. scene_most d place (first_before (refused_at v scenes) i place (omega arith))));
        }

-- ---- the load of no scenes, as the code makes it

pub empty_sound : (v : Volume) → sound v ≡ true → Ok (replicate most_disks 0) ≡ empty_load v
unfolding served_of_first sum table first
empty_sound v e = sym (counted_load v [] 0 e refl)

pub empty_unsound : (v : Volume) → sound v ≡ false → Err NotSound ≡ empty_load v
empty_unsound v e = sym (unsound_load v [] 0 e)
