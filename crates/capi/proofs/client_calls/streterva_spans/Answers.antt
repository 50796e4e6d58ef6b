-- `streterva_spans` meets its contract.
use mathlib.Core.Path.{sym, ap, ◌∙◌}
use Rattle.capi.specs.Clients.{words_of_spans}
use Rattle.capi.proofs.ClientsCode.{table_length, spans_not_made, number_told, spans_put}
use Rattle.capi.proofs.client_calls.streterva_spans.Goals as goal

pub returns-in_default : goal.returns-in_default
returns-in_default c =
    let h = spans_not_made _ (sym c.in_default.ensures) in
    record { value = h.0; spans_after = h.1 }

pub put_spans-requires : goal.put_spans-requires
put_spans-requires c = table_length _ _ (sym c.in-Some.ensures)

pub returns-clause-value : goal.returns-clause-value
returns-clause-value c = number_told _ _ (sym c.in-Some.ensures) _ c.make_spans-made.ensures _ c.number.ensures

pub returns-clause-spans_after : goal.returns-clause-spans_after
returns-clause-spans_after c =
    spans_put _ _ (sym c.in-Some.ensures) _ c.make_spans-made.ensures _ (c.put_spans.ensures ∙ ap words_of_spans c.unwrap_or.ensures)
