-- `streterva_client_write` meets its contract.
use mathlib.Core.Path.{sym, ◌∙◌}
use Rattle.capi.proofs.ClientsCode.{write_not_made, outside_write, write_inside}
use Rattle.capi.proofs.client_calls.streterva_client_write.Goals as goal

pub returns-in_default : goal.returns-in_default
returns-in_default c =
    let h = write_not_made c.args.spans.now _ _ _ _ _ _ (sym c.in_default.ensures) in
    record { value = h.0; state_after = h.1.0; medium_after = h.1.1 }

pub returns-else-allows : goal.returns-else-allows
returns-else-allows c =
    let h = outside_write c.args.spans.now _ _ _ _ _ _ (sym c.in-Some.ensures) _ (sym c.allows.ensures ∙ c.if-allows.false) _ c.outside.ensures in
    record { value = h.0; state_after = h.1.0; medium_after = h.1.1 }

pub returns-then-allows : goal.returns-then-allows
returns-then-allows c =
    let w = c.streterva_write.ensures in
    let h = write_inside c.args.spans.now _ _ _ _ _ _ (sym c.in-Some.ensures) _ (sym c.allows.ensures ∙ c.if-allows.true) _ _ _ (w.value, (w.state_after, w.medium_after)) in
    record { value = h.0; state_after = h.1.0; medium_after = h.1.1 }
