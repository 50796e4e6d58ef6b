-- `state_of` meets its contract.
use mathlib.Core.Path.{◌≡◌}
use native.Mathlib.Omega.{arith}
use lib.ListN.{length}
use Rattle.capi.specs.Words.{state_from}
use Rattle.capi.proofs.WordLaws.{counts_listed, other_length, too_pending, words_of_state}
use Rattle.capi.proofs.words.state_of.Goals as goal

pub returns-in_default : goal.returns-in_default
returns-in_default c = rw (other_length c.args.words.now (λ e. omega (arith, e, c.in_default.len_below)))

pub returns-in_default-2 : goal.returns-in_default-2
returns-in_default-2 c = rw (other_length c.args.words.now (λ e. omega (arith, e, c.in_default.len_at_least)))

pub returns-then-last-gt-MOST_PENDING : goal.returns-then-last-gt-MOST_PENDING
returns-then-last-gt-MOST_PENDING c =
    let e : length c.args.words.now ≡ 16 = omega (arith, c.in-len16.len_at_least, c.in-len16.len_below) in
    rw (too_pending _ e c.if-last-gt-MOST_PENDING.true)

pub returns : goal.returns
unfolding state_from
returns c =
    let e : length c.args.words.now ≡ 16 = omega (arith, c.in-len16.len_at_least, c.in-len16.len_below) in
    rw (words_of_state _ e c.if-last-gt-MOST_PENDING.false, counts_listed _ e, c.pending_of.ensures)
