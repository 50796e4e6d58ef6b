-- `offset` meets its contract.
use Rattle.std.proofs.Common.{◌≡◌, ◌+◌, Some, sym, ◌∙◌, ap, arith, rules}
use Rattle.move_table.specs.Entries.{offset}
use Rattle.move_table.specs.Tables.{IsMark}
use Rattle.move_table.proofs.EntryPlaces.{size_law, within_law}
use Rattle.move_table.proofs.PlacesCode.{at_place, no_place}
use Rattle.move_table.proofs.places.offset.Goals as goal
use Rattle.move_table.proofs.places.offset.Goals.{After-first_of_pair, Else-growth-j}

pub returns-in_err-growth : goal.returns-in_err-growth
returns-in_err-growth c = c.from_residual.ensures ∙ sym (no_place _ _ _ (λ h. let none = c.in_err-growth.ensures.within.1 h.pair in search rules))

pub returns-then-growth-j : goal.returns-then-growth-j
returns-then-growth-j c =
    let same = c.in_ok-growth.ensures.numbers in
    sym (no_place _ _ _ (λ h. omega (arith, h.below, rw (same.0, same.1) at c.if-growth-j.true)))

-- there is such a mark
mark : (c : Else-growth-j) → let v = c.args in IsMark v.m v.n v.j
mark c =
    let same = c.in_ok-growth.ensures.numbers in
    record { pair = rw (same.0, same.1) at c.in_ok-growth.growth.within_limits; below = rw (same.0, same.1) at c.if-growth-j.false }

start : (c : After-first_of_pair)
    → let v = c.args in
    c.first_of_pair.result + v.j ≡ offset v.m v.n v.j
unfolding offset
start c = let same = c.in_ok-growth.ensures.numbers in omega (arith, rw (same.0, same.1) at c.first_of_pair.ensures)

pub overflow_add-result : goal.overflow_add-result
overflow_add-result c = omega (arith, start (goal.at.overflow_add-result c).After-first_of_pair, within_law _ _ _ (mark (goal.at.overflow_add-result c).Else-growth-j), size_law)

pub returns : goal.returns
returns c = ap Some (start (goal.at.returns c).After-first_of_pair) ∙ sym (at_place _ _ _ (mark (goal.at.returns c).Else-growth-j))
