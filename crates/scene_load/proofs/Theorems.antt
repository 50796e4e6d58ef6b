-- All laws of the load of a scene list.
use Prim.Native.Nat.{ℕ, ◌+◌, ◌≤◌, ◌<◌}
use mathlib.Core.Path.{◌≡◌, refl}
use mathlib.Core.Bool.{true, false}
use mathlib.Core.List.{List}
use native.Mathlib.Omega.{arith}
use lib.Dec.{ltb}
use lib.ListN.{length, get_or}
use borrow.Author.Tests.{ltb-true, ltb-false, ne_eqb}
use Rattle.base.specs.Below.{count}
use Rattle.base.proofs.Lists.{get_d_table}
use Rattle.layout.specs.Limits.{most_disks}
use Rattle.layout.specs.Tally.{open_blocks}
use Rattle.volume.specs.declared.Volume.{Volume}
use Rattle.volume.specs.States.{tally_of}
use Rattle.scene_load.specs.declared.Scene.{Scene}
use Rattle.scene_load.specs.Cases.{LastScenes}
use Rattle.scene_load.specs.Loads.{served_told, scene_at, served_of_scene, served_of_first, reaches_past, is_refused, load_of_first, load_of, AllOpen}
use Rattle.scene_load.specs.Laws.{refusal_of, served_of, Counts, LoadLaws}
use Rattle.scene_load.proofs.Refusing.{block_within, accepted_sound, accepted_all, load_refuses, first_refused, some_refused, unsound_first, all_accepted, few_scenes}
use Rattle.scene_load.proofs.Serving.{names_live, no_disk, sum_of_disks}

empty_adds_nothing : (v : Volume) (d first : ℕ) → served_of_scene v d (record { first = first; count = 0 }) ≡ 0
unfolding served_of_scene count
empty_adds_nothing v d first = refl

empty_reaches_nowhere : (blocks first : ℕ) → reaches_past blocks (record { first = first; count = 0 }) ≡ false
unfolding reaches_past
empty_reaches_nowhere blocks first = refl

reaches_is : (blocks first count : ℕ) → reaches_past blocks (record { first = first; count = count + 1 }) ≡ ltb blocks (first + (count + 1))
unfolding reaches_past
reaches_is blocks first count = rw (ne_eqb (count + 1) 0 (λ e. absurd (omega arith)))

reaches_past_law : (blocks first count : ℕ) → reaches_past blocks (record { first = first; count = count + 1 }) ≡ true → blocks ≤ first + count
reaches_past_law blocks first count e = omega (arith, ltb-true blocks (first + (count + 1)) (rw (reaches_is blocks first count) at e))

reaches_open : (blocks first count : ℕ) → reaches_past blocks (record { first = first; count = count + 1 }) ≡ false → first + count < blocks
reaches_open blocks first count e = omega (arith, ltb-false blocks (first + (count + 1)) (rw (reaches_is blocks first count) at e))

-- the scenes around the 65,536th, by computing
last_scenes : LastScenes
unfolding is_refused reaches_past
last_scenes = refl

module _ (v : Volume) (scenes : List Scene) (e : refusal_of v scenes ≡ 0) where
  blocks_open : (place : ℕ) → place < length scenes → AllOpen v (scene_at scenes place)
  blocks_open place h = block_within (open_blocks (tally_of v)) place (scene_at scenes place) (accepted_all v scenes (length scenes) e place h)

  number_of_disk : (d : ℕ) → d < most_disks → get_or (served_told (load_of v scenes)) d 0 ≡ served_of v scenes d
  unfolding load_of load_of_first served_told
  number_of_disk d h = rw e (get_d_table 0 (served_of_first v scenes (length scenes)) most_disks d h)

  load_counts : Counts v scenes
  load_counts =
      let sound = accepted_sound v scenes (length scenes) e in
      record {
        state_sound = sound;
        few_scenes = few_scenes v scenes e;
        blocks_open = blocks_open;
        live_disk = λ d place j h l. names_live v sound d ((scene_at scenes place).first + j) (blocks_open place h j l);
        number_of_disk = number_of_disk;
        no_disk = no_disk v sound scenes (length scenes) blocks_open;
        sum_of_disks = sum_of_disks v sound scenes (length scenes) blocks_open;
      }

pub load_laws : LoadLaws
load_laws =
    record {
      empty_adds_nothing = empty_adds_nothing;
      empty_reaches_nowhere = empty_reaches_nowhere;
      reaches_past_law = reaches_past_law;
      reaches_open = reaches_open;
      load_refuses = load_refuses;
      first_refused = first_refused;
      some_refused = some_refused;
      last_scenes = last_scenes;
      unsound_first = unsound_first;
      all_accepted = all_accepted;
      load_counts = load_counts;
    }
