-- `copy_bytes` meets its contract.
use Rattle.medium.proofs.MediumCode.{copied_across}
use Rattle.medium.proofs.copy_bytes.Goals as goal

pub returns : goal.returns
returns c =
    let a = c.args in
    copied_across a.medium.now _ _ a.from a.to a.n c.requires.from_in_bounds c.requires.to_in_bounds c.copy_from_slice.ensures.after c.copy_from_slice-2.ensures.after
