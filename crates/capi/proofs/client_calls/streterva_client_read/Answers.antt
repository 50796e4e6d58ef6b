-- `streterva_client_read` meets its contract.
use mathlib.Core.Path.{sym, ◌∙◌}
use Rattle.capi.proofs.ClientsCode.{read_not_made, outside_read, read_inside}
use Rattle.capi.proofs.client_calls.streterva_client_read.Goals as goal

pub returns-in_default : goal.returns-in_default
returns-in_default c =
    let h = read_not_made c.args.spans.now _ _ _ _ _ (sym c.in_default.ensures) in
    record { value = h.0; piece_after = h.1 }

pub returns-else-allows : goal.returns-else-allows
returns-else-allows c =
    let h = outside_read c.args.spans.now _ _ _ _ _ _ (sym c.in-Some.ensures) (sym c.allows.ensures ∙ c.if-allows.false) _ c.outside.ensures in
    record { value = h.0; piece_after = h.1 }

pub returns-then-allows : goal.returns-then-allows
returns-then-allows c =
    let r = c.streterva_read.ensures in
    let h = read_inside c.args.spans.now _ _ _ _ _ _ (sym c.in-Some.ensures) (sym c.allows.ensures ∙ c.if-allows.true) _ _ (r.value, r.piece_after) in
    record { value = h.0; piece_after = h.1 }
