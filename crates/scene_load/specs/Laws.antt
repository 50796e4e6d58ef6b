-- What is proved of the load of a scene list: `LoadLaws`. `proofs/Theorems.antt` has the proof.
use Rattle.std.specs.Prelude.{ℕ, ◌+◌, ◌≤◌, ◌<◌, ◌≡◌, true, false, List, ◌≢◌, eqb, length, get_or, replicate}
use Rattle.base.specs.Below.{sum}
use Rattle.base.specs.Refusals.{refusal}
use Rattle.layout.specs.Limits.{most_disks}
use Rattle.layout.specs.Tally.{live_spot_of}
use Rattle.volume.specs.declared.Volume.{Volume}
use Rattle.volume.specs.Sound.{sound}
use Rattle.volume.specs.States.{disks, tally_of}
use Rattle.scene_load.specs.declared.Scene.{Scene}
use Rattle.scene_load.specs.Cases.{LastScenes}
use Rattle.scene_load.specs.Loads.{load_number, place_told, served_told, scene_at, names, served_of_scene, served_of_first, reaches_past, refused_at, most_scenes, load_table, load_of, AllOpen}

-- the number that refuses a list, 0 where none does
abbrev pub refusal_of : (v : Volume) (scenes : List Scene) → ℕ
refusal_of v scenes = refusal (load_table v scenes (length scenes))

-- how many listed blocks disk d serves
abbrev pub served_of : (v : Volume) (scenes : List Scene) (d : ℕ) → ℕ
served_of v scenes d = served_of_first v scenes (length scenes) d

-- a refusal: the table's number; 0 for every disk; a place with 17 alone
pub record LoadRefuses (v : Volume) (scenes : List Scene) : Type 0 where
  pub number_told : load_number (load_of v scenes) ≡ refusal_of v scenes
  pub no_numbers : refusal_of v scenes ≢ 0 → served_told (load_of v scenes) ≡ replicate most_disks 0
  pub no_place : refusal_of v scenes ≢ 17 → place_told (load_of v scenes) ≡ 0

-- a list refused with 17: the place told is that of the first scene that is refused
pub record FirstRefused (v : Volume) (scenes : List Scene) (place : ℕ) : Type 0 where
  pub in_list : place < length scenes
  pub scene_refused : refused_at v scenes place ≡ true
  pub earlier_not : (i : ℕ) → i < place → refused_at v scenes i ≡ false

-- an accepted list
pub record Counts (v : Volume) (scenes : List Scene) : Type 0 where
  pub state_sound : sound v ≡ true
  pub few_scenes : length scenes ≤ most_scenes
  -- every listed block is open, and its address names the disk of its live spot
  pub blocks_open : (place : ℕ) → place < length scenes → AllOpen v (scene_at scenes place)
  pub live_disk : (d place j : ℕ) → place < length scenes → j < (scene_at scenes place).count
      → names v d ((scene_at scenes place).first + j) ≡ eqb (live_spot_of (tally_of v) ((scene_at scenes place).first + j)).disk d
  -- "each disk's number is the count of listed blocks whose address names that disk"
  pub number_of_disk : (d : ℕ) → d < most_disks → get_or (served_told (load_of v scenes)) d 0 ≡ served_of v scenes d
  -- numbers of disks that are not there are 0
  pub no_disk : (d : ℕ) → disks v ≤ d → served_of v scenes d ≡ 0
  -- "The sum over disks equals the sum of the counts"
  pub sum_of_disks : sum (served_of v scenes) most_disks ≡ sum (λ place. (scene_at scenes place).count) (length scenes)

pub record LoadLaws : Type 0 where
  -- "A scene of 0 blocks adds nothing and reaches nowhere"
  pub empty_adds_nothing : (v : Volume) (d first : ℕ) → served_of_scene v d (record { first = first; count = 0 }) ≡ 0
  pub empty_reaches_nowhere : (blocks first : ℕ) → reaches_past blocks (record { first = first; count = 0 }) ≡ false
  -- any other one reaches past the open blocks exactly if its last block is not open
  pub reaches_past_law : (blocks first count : ℕ) → reaches_past blocks (record { first = first; count = count + 1 }) ≡ true → blocks ≤ first + count
  pub reaches_open : (blocks first count : ℕ) → reaches_past blocks (record { first = first; count = count + 1 }) ≡ false → first + count < blocks
  -- refusals
  pub load_refuses : (v : Volume) (scenes : List Scene) → LoadRefuses v scenes
  pub first_refused : (v : Volume) (scenes : List Scene) → refusal_of v scenes ≡ 17 → FirstRefused v scenes (place_told (load_of v scenes))
  pub some_refused : (v : Volume) (scenes : List Scene) (place : ℕ) → sound v ≡ true → place < length scenes
      → refused_at v scenes place ≡ true → refusal_of v scenes ≡ 17
  pub last_scenes : LastScenes
  -- 1 comes before 17, and no other list is refused
  pub unsound_first : (v : Volume) (scenes : List Scene) → sound v ≡ false → refusal_of v scenes ≡ 1
  pub all_accepted : (v : Volume) (scenes : List Scene) → sound v ≡ true → ((place : ℕ) → place < length scenes → refused_at v scenes place ≡ false)
      → refusal_of v scenes ≡ 0
  -- and what is counted
  pub load_counts : (v : Volume) (scenes : List Scene) → refusal_of v scenes ≡ 0 → Counts v scenes
