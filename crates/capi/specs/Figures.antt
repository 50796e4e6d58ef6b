-- The figures beside an answer's number, as lists of numbers. "A refusal has 0 for every figure beside its number."
use Rattle.std.specs.Prelude.{ℕ, List, [], ◌∷◌, ◌++◌, get_or, Result, Ok, Err}
use Rattle.std.specs.Prelude as std
use Rattle.std.proofs.Math.Option.{Option, none, some}
use Rattle.base.specs.declared.Refusal.{Refusal}
use Rattle.layout.specs.declared.Address.{Address}
use Rattle.layout.specs.declared.Block.{Block}
use Rattle.layout.specs.declared.Part.{Part}
use Rattle.layout.specs.declared.Part.TheVariants.{Head, Body, Tail}
use Rattle.layout.specs.declared.Reason.{Reason}
use Rattle.layout.specs.declared.Reason.TheVariants.{SetOut, AddedBy, MovedBy}
use Rattle.layout.specs.Reasons.{growth_told}
use Rattle.volume.specs.declared.Advanced.{Advanced}
use Rattle.volume.specs.declared.Advanced.TheVariants.{Copied, Recorded, Finished}
use Rattle.volume.specs.declared.Told.{Told}
use Rattle.volume.specs.declared.Told.TheVariants as told
use Rattle.volume.specs.Answers.{calls_told, block_copied, part_copied, part_told, block_told}
use Rattle.scene_load.specs.Loads.{Load, place_told, served_told}
use Rattle.move_table.specs.Entries.{entries}
use Rattle.shelves.specs.declared.ViewStart.TheVariants.{First, Second}
use Rattle.shelves.specs.Views.{ViewAnswer}

-- 1 head, 2 body, 3 tail, 0 for none
unfoldable pub part_number : (part : Option Part) → ℕ
part_number none = 0
part_number (some Head) = 1
part_number (some Body) = 2
part_number (some Tail) = 3

-- what an advance did: 1 copied, 2 recorded, 3 finished
unfoldable pub did_number : (did : Advanced) → ℕ
did_number (Copied x part) = 1
did_number Recorded = 2
did_number Finished = 3

unfoldable pub did_told : (a : Result Told Refusal) → ℕ
did_told (Err r) = 0
did_told (Ok told.Done) = 0
did_told (Ok (told.CallsLeft n)) = 0
did_told (Ok (told.Advanced did n)) = did_number did

-- of format, write, read and flushed: none; of restart, grow, copy and checkpoint: the advance calls left; of advance: also what it did, the
-- block copied, and its part
abbrev pub no_figures : (a : Result Told Refusal) → List ℕ
no_figures a = []

abbrev pub calls_figures : (a : Result Told Refusal) → List ℕ
calls_figures a = calls_told a ∷ []

abbrev pub advance_figures : (a : Result Told Refusal) → List ℕ
advance_figures a = calls_told a ∷ did_told a ∷ block_copied a ∷ part_number (part_copied a) ∷ []

-- why a block is there: 1 set out at format, 2 added, 3 moved
unfoldable pub reason_number : (reason : Reason) → ℕ
reason_number SetOut = 1
reason_number (AddedBy growth) = 2
reason_number (MovedBy growth part) = 3

-- that, the growth's number, and the part
abbrev pub reason_figures : (reason : Reason) → List ℕ
reason_figures reason = reason_number reason ∷ growth_told reason ∷ part_number (part_told reason) ∷ []

-- of address: disk, row, why the block is there, and by how many growths it was moved
unfoldable pub address_figures : (a : Result Address Refusal) → List ℕ
address_figures (Err r) = 0 ∷ 0 ∷ 0 ∷ 0 ∷ 0 ∷ 0 ∷ []
address_figures (Ok found) = found.spot.disk ∷ found.spot.row.0 ∷ (reason_figures found.reason ++ (found.moves ∷ []))

-- of holder: the block
abbrev pub holder_figures : (a : Result Block Refusal) → List ℕ
holder_figures a = block_told a ∷ []

-- of view: the shelf, 1 for the first and 2 for the second, and the byte of it at which the block starts
unfoldable pub view_figures : (a : ViewAnswer) → List ℕ
view_figures (Err r) = 0 ∷ 0 ∷ []
view_figures (Ok (First at)) = 1 ∷ at ∷ []
view_figures (Ok (Second at)) = 2 ∷ at ∷ []

-- of load: the place, and how many blocks each disk serves
abbrev pub load_figures : (load : Load) → List ℕ
load_figures load = place_told load ∷ served_told load

-- of the table of moves: the offset of a mark's entry and its disk, which is not 0; or 0 for both where there is no such mark
unfoldable pub table_move_figures : (place : std.Option ℕ) → List ℕ
table_move_figures (std.Some at) = at ∷ get_or entries at 0 ∷ []
table_move_figures std.None = 0 ∷ 0 ∷ []
