-- `cut_moves` meets its contract.
use Rattle.window.proofs.CutMoves.{cut_found}
use Rattle.window.proofs.cut_moves.Goals as goal

pub overflow_sub-result-2 : goal.overflow_sub-result-2
overflow_sub-result-2 c = (cut_found _ _ _ _ _ _ c.requires c.triangle.ensures c.triangle_past.ensures c.triangle_past-2.ensures).0

pub returns : goal.returns
returns c = (cut_found _ _ _ _ _ _ c.requires c.triangle.ensures c.triangle_past.ensures c.triangle_past-2.ensures).1
