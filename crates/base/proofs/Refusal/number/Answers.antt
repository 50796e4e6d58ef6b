-- The number of a refusal is the one that the documents give it.
use Rattle.std.proofs.Common.{◌≡◌, ◌+◌, refl}
use Rattle.base.specs.Refusals.{refusal_number}
use Rattle.base.specs.declared.Refusal.TheVariants.{NotSound, MediumTooShort, BlockNotOpen, PieceSize, NotGrowing, Growing, CopyNotRecorded, OutsideLimits, NoMoreGrowths, NotMoving, AlreadyCopied, NothingToRecord, NoRecord, NoSuchSpot, NoBlockThere, PageTooShort, NoSuchScene, FlushBlocks, FlushRecord, BeyondDoubling, OutsideSpan}
use Rattle.base.proofs.Refusal.number.Goals as goal

pub returns : goal.returns
unfolding refusal_number
returns c =
    elim c.args.self as (λ r. denote.Enum.Declared.tag_of Rattle.base.specs.contracts.Refusal.the_type r + 1 ≡ refusal_number r) [ NotSound ↦ refl | MediumTooShort ↦ refl | BlockNotOpen ↦ refl | PieceSize ↦ refl | NotGrowing ↦ refl | Growing ↦ refl | CopyNotRecorded ↦ refl | OutsideLimits ↦ refl | NoMoreGrowths ↦ refl | NotMoving ↦ refl | AlreadyCopied ↦ refl | NothingToRecord ↦ refl | NoRecord ↦ refl | NoSuchSpot ↦ refl | NoBlockThere ↦ refl | PageTooShort ↦ refl | NoSuchScene ↦ refl | FlushBlocks ↦ refl | FlushRecord ↦ refl | BeyondDoubling ↦ refl | OutsideSpan ↦ refl ]
