-- `fetch_block` meets its contract.
use native.Mathlib.Omega.{arith}
use Rattle.base.proofs.Lists.{lent_length}
use Rattle.medium.specs.Medium.{observe}
use Rattle.medium.proofs.MediumCode.{copied_out}
use Rattle.medium.proofs.fetch_block.Goals as goal

-- the search finds this too; the wrong lines that lend another part fail by it
pub copy_from_slice-requires : goal.copy_from_slice-requires
copy_from_slice-requires c = let long = lent_length c.args.medium.now c.place_of-at.result c.args.g.size (omega arith) in omega arith

pub returns : goal.returns
unfolding observe
returns c = let at = c.place_of-at in rw (← at.ensures) (copied_out c.args.medium.now _ at.result c.args.g.size c.copy_from_slice.ensures.after)
