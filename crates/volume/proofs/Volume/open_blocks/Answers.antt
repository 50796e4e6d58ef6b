-- `open_blocks` meets its contract.
use native.Mathlib.Omega.{arith}
use Rattle.volume.proofs.LiveCode.{growths_below, blocks_most, rest_open, has_growth, old_blocks_most, growing_open}
use Rattle.volume.proofs.Volume.open_blocks.Goals as goal

pub offset_bounds-self-self : goal.offset_bounds-self-self
offset_bounds-self-self c = omega (arith, growths_below c.args.self.now c.requires)

pub bounds-self-self : goal.bounds-self-self
bounds-self-self c = growths_below _ c.requires

pub overflow_mul-result : goal.overflow_mul-result
overflow_mul-result c = omega (arith, blocks_most c.args.self.now c.requires)

pub returns-then-self-eq0 : goal.returns-then-self-eq0
returns-then-self-eq0 c = rest_open c.args.self.now c.if-self-eq0.true

pub overflow_sub-result : goal.overflow_sub-result
overflow_sub-result c = has_growth _ c.if-self-eq0.false c.requires

pub offset_bounds-self-self-2 : goal.offset_bounds-self-self-2
offset_bounds-self-self-2 c = omega (arith, growths_below c.args.self.now c.requires)

pub bounds-self-self-2 : goal.bounds-self-self-2
bounds-self-self-2 c = omega (arith, growths_below c.args.self.now c.requires)

pub overflow_mul-result-2 : goal.overflow_mul-result-2
overflow_mul-result-2 c = omega (arith, old_blocks_most c.args.self.now c.if-self-eq0.false c.requires)

pub returns : goal.returns
returns c = growing_open c.args.self.now c.if-self-eq0.false c.requires
