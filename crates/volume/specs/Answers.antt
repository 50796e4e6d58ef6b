-- Document 01, "Calls": the number and the figures that each case of an answer stands for. "A refusal has 0 for every figure beside its
-- number"; the number of an accepted call is 0.
use Rattle.std.specs.Prelude.{ℕ, Bool, true, false, Result, Ok, Err}
use Rattle.std.proofs.Math.Option.{Option, none, some}
use Rattle.base.specs.declared.Refusal.{Refusal}
use Rattle.base.specs.Refusals.{refusal_number}
use Rattle.layout.specs.declared.Address.{Address}
use Rattle.layout.specs.declared.Block.{Block}
use Rattle.layout.specs.declared.Part.{Part}
use Rattle.layout.specs.declared.Reason.{Reason}
use Rattle.layout.specs.declared.Reason.TheVariants.{SetOut, AddedBy, MovedBy}
use Rattle.layout.specs.declared.Spot.{Spot}
use Rattle.volume.specs.declared.Advanced.{Advanced}
use Rattle.volume.specs.declared.Advanced.TheVariants.{Copied, Recorded, Finished}
use Rattle.volume.specs.declared.Told.{Told}
use Rattle.volume.specs.declared.Told.TheVariants as told

-- of every call: the number
unfoldable pub number : {T : Type 0} (a : Result T Refusal) → ℕ
number (Err r) = refusal_number r
number (Ok t) = 0

-- of the calls that work on a medium: the advance calls left
unfoldable pub calls_told : (a : Result Told Refusal) → ℕ
calls_told (Err r) = 0
calls_told (Ok told.Done) = 0
calls_told (Ok (told.CallsLeft n)) = n
calls_told (Ok (told.Advanced did n)) = n

-- whether the call was accepted; the number that it reported, if it was one that reports; whether it told finished
unfoldable pub accepted : (a : Result Told Refusal) → Bool
accepted (Err r) = false
accepted (Ok t) = true

unfoldable pub reported : (a : Result Told Refusal) → Option ℕ
reported (Err r) = none
reported (Ok told.Done) = none
reported (Ok (told.CallsLeft n)) = some n
reported (Ok (told.Advanced did n)) = some n

unfoldable pub is_finished : (did : Advanced) → Bool
is_finished (Copied x part) = false
is_finished Recorded = false
is_finished Finished = true

unfoldable pub told_finished : (a : Result Told Refusal) → Bool
told_finished (Err r) = false
told_finished (Ok told.Done) = false
told_finished (Ok (told.CallsLeft n)) = false
told_finished (Ok (told.Advanced did n)) = is_finished did

-- the block that an advance tells as copied, and its part
unfoldable pub copied_block : (did : Advanced) → ℕ
copied_block (Copied x part) = x.0
copied_block Recorded = 0
copied_block Finished = 0

unfoldable pub copied_part : (did : Advanced) → Option Part
copied_part (Copied x part) = some part
copied_part Recorded = none
copied_part Finished = none

unfoldable pub block_copied : (a : Result Told Refusal) → ℕ
block_copied (Err r) = 0
block_copied (Ok told.Done) = 0
block_copied (Ok (told.CallsLeft n)) = 0
block_copied (Ok (told.Advanced did n)) = copied_block did

unfoldable pub part_copied : (a : Result Told Refusal) → Option Part
part_copied (Err r) = none
part_copied (Ok told.Done) = none
part_copied (Ok (told.CallsLeft n)) = none
part_copied (Ok (told.Advanced did n)) = copied_part did

-- of address: the number, the spot, why the block is there, and by how many growths it was moved
abbrev pub address_number : (a : Result Address Refusal) → ℕ
address_number a = number a

unfoldable pub spot_told : (a : Result Address Refusal) → Spot
spot_told (Err r) = record { disk = 0; row = record { 0 = 0 } }
spot_told (Ok found) = found.spot

unfoldable pub reason_told : (a : Result Address Refusal) → Reason
reason_told (Err r) = SetOut
reason_told (Ok found) = found.reason

unfoldable pub moves_told : (a : Result Address Refusal) → ℕ
moves_told (Err r) = 0
moves_told (Ok found) = found.moves

-- the part of a block that was moved
unfoldable pub part_told : (r : Reason) → Option Part
part_told SetOut = none
part_told (AddedBy k) = none
part_told (MovedBy k part) = some part

-- of holder: the number, and the block
abbrev pub holder_number : (a : Result Block Refusal) → ℕ
holder_number a = number a

unfoldable pub block_told : (a : Result Block Refusal) → ℕ
block_told (Err r) = 0
block_told (Ok x) = x.0
