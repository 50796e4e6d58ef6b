-- How many blocks of scenes each disk serves.
use Prim.Native.Nat.{ℕ, ◌+◌, ◌≤◌, ◌<◌}
use mathlib.Core.Path.{◌≡◌, ◌∙◌}
use mathlib.Core.Bool.{true}
use mathlib.Core.List.{List}
use native.Mathlib.Omega.{arith}
use lib.Dec.{eqb}
use borrow.Author.Tests.{ne_eqb}
use Rattle.base.specs.Below.{count, sum}
use Rattle.base.specs.Refusals.{refusal}
use Rattle.base.proofs.Counting.{count_ext, count_none, sum_ext, sum_none, sum_swap, sum_by_value}
use Rattle.layout.specs.Limits.{most_disks}
use Rattle.layout.specs.Tally.{live_address_of, open_blocks, live_spot_of}
use Rattle.volume.specs.declared.Volume.{Volume}
use Rattle.volume.specs.Answers.{number, spot_told}
use Rattle.volume.specs.Calls.{address_table}
use Rattle.volume.specs.Sound.{sound}
use Rattle.volume.specs.States.{disks, tally_of}
use Rattle.volume.proofs.CallsCode.{disks_most}
use Rattle.volume.proofs.LookUpLaws.{look_ups_of, is_open, address_found}
use Rattle.scene_load.specs.declared.Scene.{Scene}
use Rattle.scene_load.specs.Loads.{scene_at, names, served_of_scene, served_of_first, AllOpen}

module _ (v : Volume) (e : sound v ≡ true) where
  -- an open block's address names the disk of its live spot, which is there
  pub names_live : (d x : ℕ) → x < open_blocks (tally_of v) → names v d x ≡ eqb (live_spot_of (tally_of v) x).disk d
  unfolding names number spot_told live_address_of
  names_live d x h = rw (address_found v x (is_open v x e h))

  pub live_disk : (x : ℕ) → x < open_blocks (tally_of v) → (live_spot_of (tally_of v) x).disk < disks v
  unfolding tally_of disks
  live_disk x h = ((look_ups_of v e).live_within x h).disk

  -- ---- of a scene with open blocks only

  module _ (scene : Scene) (all : AllOpen v scene) where
    pub scene_no_disk : (d : ℕ) → disks v ≤ d → served_of_scene v d scene ≡ 0
    unfolding served_of_scene
    scene_no_disk d h =
        count_none (λ j. names v d (scene.first + j)) scene.count
        (λ j l. names_live d (scene.first + j) (all j l) ∙ ne_eqb _ d (λ q. absurd (omega (arith, q, live_disk (scene.first + j) (all j l)))))

    scene_sum : sum (λ d. served_of_scene v d scene) most_disks ≡ scene.count
    unfolding served_of_scene
    scene_sum =
        let disk : ℕ → ℕ = λ j. (live_spot_of (tally_of v) (scene.first + j)).disk in
        sum_ext (λ d. served_of_scene v d scene) (λ d. count (λ j. eqb (disk j) d) scene.count) most_disks
        (λ d h. count_ext (λ j. names v d (scene.first + j)) (λ j. eqb (disk j) d) scene.count (λ j l. names_live d (scene.first + j) (all j l)))
        ∙ sum_by_value disk most_disks scene.count (λ j l. omega (arith, live_disk (scene.first + j) (all j l), disks_most v e))

  -- ---- of a list of them

  module _ (scenes : List Scene) (n : ℕ) (all : (i : ℕ) → i < n → AllOpen v (scene_at scenes i)) where
    pub no_disk : (d : ℕ) → disks v ≤ d → served_of_first v scenes n d ≡ 0
    unfolding served_of_first
    no_disk d h = sum_none (λ i. served_of_scene v d (scene_at scenes i)) n (λ i l. scene_no_disk (scene_at scenes i) (all i l) d h)

    pub sum_of_disks : sum (served_of_first v scenes n) most_disks ≡ sum (λ i. (scene_at scenes i).count) n
    unfolding served_of_first
    sum_of_disks =
        sum_swap (λ d i. served_of_scene v d (scene_at scenes i)) most_disks n
        ∙ sum_ext (λ i. sum (λ d. served_of_scene v d (scene_at scenes i)) most_disks) (λ i. (scene_at scenes i).count) n (λ i l. scene_sum (scene_at scenes i) (all i l))
