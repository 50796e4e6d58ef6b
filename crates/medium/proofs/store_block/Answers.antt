-- `store_block` meets its contract.
use native.Mathlib.Omega.{arith}
use Rattle.base.proofs.Lists.{lent_length}
use Rattle.medium.specs.Medium.{apply}
use Rattle.medium.proofs.MediumCode.{copied_in}
use Rattle.medium.proofs.store_block.Goals as goal

-- the search finds this too; the wrong lines that lend another part fail by it
pub copy_from_slice-requires : goal.copy_from_slice-requires
copy_from_slice-requires c = let long = lent_length c.args.medium.now c.place_of-at.result c.args.g.size (omega arith) in omega arith

pub returns : goal.returns
unfolding apply
returns c =
    let a = c.args in
    let at = c.place_of-at in
    rw (← at.ensures) (copied_in a.medium.now a.piece.now c.copy_from_slice.new.self at.result a.g.size c.requires.piece_len (omega arith) c.copy_from_slice.ensures.after)
