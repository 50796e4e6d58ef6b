-- `spans_of` meets its contract.
use native.Mathlib.Omega.{arith}
use lib.ListN.{length}
use borrow.Author.Tests.{eq-eqb, ne_eqb}
use Rattle.spans.specs.Spans.{spans_from}
use Rattle.capi.proofs.client_calls.spans_of.Goals as goal

pub returns-in_default : goal.returns-in_default
returns-in_default c = rw (ne_eqb (length c.args.words.now) 4 (λ e. omega (arith, e, c.in_default.len_below)))

pub returns-in_default-2 : goal.returns-in_default-2
returns-in_default-2 c = rw (ne_eqb (length c.args.words.now) 4 (λ e. omega (arith, e, c.in_default.len_at_least)))

pub returns : goal.returns
unfolding spans_from
returns c = rw (eq-eqb (length c.args.words.now) 4 (omega (arith, c.in-len4.len_at_least, c.in-len4.len_below)))
