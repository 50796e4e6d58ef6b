-- The load of a list, one scene after another, as the code takes them; and what the code may rest on.
use Rattle.std.specs.Prelude.{ℕ, ◌+◌, ◌*◌, ◌^◌, ◌≤◌, ◌<◌, ◌≡◌, true, cond, List, [], get_or, Ok, Err}
use Rattle.base.specs.Below.{table}
use Rattle.layout.specs.Limits.{most_disks}
use Rattle.layout.specs.Tally.{open_blocks}
use Rattle.volume.specs.declared.Volume.{Volume}
use Rattle.volume.specs.Sound.{sound}
use Rattle.volume.specs.States.{tally_of}
use Rattle.scene_load.specs.declared.LoadRefusal.TheVariants.{NoSuchScene}
use Rattle.scene_load.specs.declared.Scene.{Scene}
use Rattle.scene_load.specs.Loads.{Load, served_of_scene, is_refused, load_of_first}

-- the load of no scenes
abbrev pub empty_load : (v : Volume) → Load
empty_load v = load_of_first v [] 0

-- the numbers with those of a scene added
abbrev pub with_blocks : (v : Volume) (served : List ℕ) (scene : Scene) → List ℕ
with_blocks v served scene = table (λ d. get_or served d 0 + served_of_scene v d scene) most_disks

-- the load with one scene more, at this place of the list
unfoldable pub with_scene : (v : Volume) (served : List ℕ) (place : ℕ) (scene : Scene) → Load
with_scene v served place scene =
    cond (is_refused (open_blocks (tally_of v)) place scene) (Err (NoSuchScene place)) (Ok (with_blocks v served scene))

-- ---- what the code may rest on

-- scenes are counted only of a sound state, and each of those before this place added at most all the open blocks that there can be
pub record Usable (v : Volume) (served : List ℕ) (place : ℕ) : Type 0 where
  pub is_sound : sound v ≡ true
  pub no_more : (d : ℕ) → d < most_disks → get_or served d 0 ≤ place * 16_000_000

-- no number wraps with so many blocks more
abbrev pub NoneWraps : (served : List ℕ) (more : ℕ) → Type 0
NoneWraps served more = (d : ℕ) → d < most_disks → get_or served d 0 + more < 2 ^ 64
