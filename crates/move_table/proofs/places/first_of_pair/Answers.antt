-- `first_of_pair` meets its contract: no product wraps, and the formula is the offset.
use native.Mathlib.Omega.{arith}
use Rattle.move_table.specs.Entries.{offset_formula}
use Rattle.move_table.proofs.OffsetFormula.{formula_start}
use Rattle.move_table.proofs.places.first_of_pair.Goals as goal

pub returns : goal.returns
unfolding offset_formula
returns c = omega (arith, formula_start _ _ c.args.growth.within_limits)
