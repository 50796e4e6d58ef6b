-- Document 02, W2: the load of a scene list. "I hold a lent list of scenes, each a first block and a count, and want to know how many of its
-- blocks each disk serves."
use Rattle.std.specs.Prelude.{ℕ, ◌+◌, ◌<◌, Bool, cond, not, ◌&&◌, ◌||◌, List, [], ◌∷◌, eqb, leb, ltb, length, get_or, replicate, Result, Ok, Err}
use Rattle.base.specs.Below.{count, sum, table, first}
use Rattle.layout.specs.Limits.{most_disks}
use Rattle.layout.specs.Tally.{open_blocks}
use Rattle.volume.specs.declared.Volume.{Volume}
use Rattle.volume.specs.Answers.{address_number, spot_told}
use Rattle.volume.specs.Calls.{judged, address_reply}
use Rattle.volume.specs.Sound.{sound}
use Rattle.volume.specs.States.{tally_of}
use Rattle.scene_load.specs.declared.Scene.{Scene}
use Rattle.scene_load.specs.declared.LoadRefusal.{LoadRefusal}
use Rattle.scene_load.specs.declared.LoadRefusal.TheVariants.{NotSound, NoSuchScene}

-- how many listed blocks each disk serves, or why none is counted
abbrev pub Load : Type 0
Load = Result (List ℕ) LoadRefusal

-- The number of a refusal.
unfoldable pub load_refusal_number : (r : LoadRefusal) → ℕ
load_refusal_number NotSound = 1
load_refusal_number (NoSuchScene place) = 17

-- What an answer tells: its number; its one figure, "the place of the first such scene, counted from 0"; how many listed blocks each disk serves,
-- "with 0 for every disk" on a refusal.
unfoldable pub load_number : (load : Load) → ℕ
load_number (Ok served) = 0
load_number (Err r) = load_refusal_number r

unfoldable pub place_told : (load : Load) → ℕ
place_told (Ok served) = 0
place_told (Err NotSound) = 0
place_told (Err (NoSuchScene place)) = place

unfoldable pub served_told : (load : Load) → List ℕ
served_told (Ok served) = served
served_told (Err r) = replicate most_disks 0

-- the scene at a place of a list
abbrev pub scene_at : (scenes : List Scene) (place : ℕ) → Scene
scene_at scenes place = get_or scenes place (record { first = 0; count = 0 })

-- ---- what is counted

-- "whose address names that disk": the live spot, also while a growth runs
unfoldable pub names : (v : Volume) (d x : ℕ) → Bool
names v d x = eqb (address_number (address_reply v x).answer) 0 && eqb (spot_told (address_reply v x).answer).disk d

-- how many blocks of a scene disk d serves; "A scene of 0 blocks adds nothing"
unfoldable pub served_of_scene : (v : Volume) (d : ℕ) (scene : Scene) → ℕ
served_of_scene v d scene = count (λ j. names v d (scene.first + j)) scene.count

-- how many blocks of the first n scenes; "A block named by two scenes counts twice."
unfoldable pub served_of_first : (v : Volume) (scenes : List Scene) (n d : ℕ) → ℕ
served_of_first v scenes n d = sum (λ place. served_of_scene v d (scene_at scenes place)) n

-- ---- what is refused

-- "the first 65,536"
abbrev pub most_scenes : ℕ
most_scenes = 65_536

-- "reaches past the open blocks"; a scene of 0 blocks "reaches nowhere"
unfoldable pub reaches_past : (blocks : ℕ) (scene : Scene) → Bool
reaches_past blocks scene = not (eqb scene.count 0) && ltb blocks (scene.first + scene.count)

-- every block of a scene is open
abbrev pub AllOpen : (v : Volume) (scene : Scene) → Type 0
AllOpen v scene = (j : ℕ) → j < scene.count → scene.first + j < open_blocks (tally_of v)

-- "17 when a scene reaches past the open blocks or stands after the first 65,536"
unfoldable pub is_refused : (blocks place : ℕ) (scene : Scene) → Bool
is_refused blocks place scene = leb most_scenes place || reaches_past blocks scene

abbrev pub refused_at : (v : Volume) (scenes : List Scene) (place : ℕ) → Bool
refused_at v scenes place = is_refused (open_blocks (tally_of v)) place (scene_at scenes place)

-- "the place of the first such scene, counted from 0" among the first n, or n where there is none
unfoldable pub refused_place : (v : Volume) (scenes : List Scene) (n : ℕ) → ℕ
refused_place v scenes n = first (refused_at v scenes) n

-- ---- the load: 1; 17, "tested after 1"

unfoldable pub load_table : (v : Volume) (scenes : List Scene) (n : ℕ) → List (ℕ × Bool)
load_table v scenes n = (1, not (sound v)) ∷ (17, ltb (refused_place v scenes n) n) ∷ []

unfoldable pub refused_load : (place k : ℕ) → Load
refused_load place k = Err (cond (eqb k 17) (NoSuchScene place) NotSound)

-- of the first n scenes of a list, and of all
unfoldable pub load_of_first : (v : Volume) (scenes : List Scene) (n : ℕ) → Load
load_of_first v scenes n =
    judged (load_table v scenes n) (refused_load (refused_place v scenes n)) (Ok (table (served_of_first v scenes n) most_disks))

unfoldable pub load_of : (v : Volume) (scenes : List Scene) → Load
load_of v scenes = load_of_first v scenes (length scenes)
