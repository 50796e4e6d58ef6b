-- Document 02, W2: "17 when a scene .. stands after the first 65,536", the place "counted from 0": the 65,535th, the 65,536th and the 65,537th scene
-- of a volume with 15 open blocks, each a scene of the first block. `proofs/Theorems.antt` has the proof.
use Rattle.std.specs.Prelude.{◌≡◌, true, false, [], ◌∷◌, map}
use Rattle.scene_load.specs.Loads.{is_refused}

abbrev pub LastScenes : Type 0
LastScenes =
    map (λ place. is_refused 15 place (record { first = 0; count = 1 })) (65_534 ∷ 65_535 ∷ 65_536 ∷ []) ≡ (false ∷ false ∷ true ∷ [])
