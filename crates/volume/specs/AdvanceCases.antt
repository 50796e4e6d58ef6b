-- Document 01, Advance: "It tells which: copied with the block and its head, body or tail": growths from 4 disks to 6 with 6 rows, worked out by hand.
-- Block 0, at (0,0), is a head, block 9, at (1,2), a body (L11) and block 14, at (2,3), a tail. `proofs/AdvanceCases.antt` has the proof.
use Rattle.std.specs.Prelude.{ℕ, ◌≡◌, [], ◌∷◌, map}
use Rattle.std.proofs.Math.Option.{Option, some}
use Rattle.layout.specs.declared.Part.{Part}
use Rattle.layout.specs.declared.Part.TheVariants.{Head, Body, Tail}
use Rattle.medium.specs.Medium.{Observations}
use Rattle.volume.specs.declared.Volume.{Volume}
use Rattle.volume.specs.Answers.{block_copied, part_copied}
use Rattle.volume.specs.Calls.{advancing}
use Rattle.volume.specs.States.{new_state, grown}

-- the growth has started
abbrev pub four_to_six : Volume
four_to_six = grown (new_state 512 6 4) 6

-- what an advance tells that copies block x
abbrev pub told : (o : Observations) (x : ℕ) → ℕ × Option Part
told o x = let answer = (advancing four_to_six (some x) o).reply.answer in (block_copied answer, part_copied answer)

abbrev pub PartsTold : Type 0
PartsTold = (o : Observations) → map (told o) (0 ∷ 9 ∷ 14 ∷ []) ≡ ((0, some Head) ∷ (9, some Body) ∷ (14, some Tail) ∷ [])
