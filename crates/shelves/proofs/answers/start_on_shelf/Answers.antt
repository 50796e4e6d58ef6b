-- `start_on_shelf` meets its contract.
use Prim.Native.Nat.{◌-◌}
use mathlib.Core.Path.{◌≡◌}
use native.Mathlib.Omega.{arith}
use borrow.Author.Tests.{lt-ltb, le-ltb}
use Rattle.shelves.specs.Shelves.{place_on_second, start_on_shelf}
use Rattle.shelves.proofs.Places.{second_place}
use Rattle.shelves.proofs.answers.start_on_shelf.Goals as goal

pub returns-then-p-k : goal.returns-then-p-k
unfolding start_on_shelf
returns-then-p-k c = rw (lt-ltb _ _ c.if-p-k.true, c.place_of-at.ensures)

pub bytes_needed-requires : goal.bytes_needed-requires
bytes_needed-requires c =
    let a = c.args in
    record { size_nonzero = c.requires.size_nonzero; disks_bound = omega (arith, second_place a.g a.k a.p c.if-p-k.false, c.requires.p_bound) }

pub overflow_sub-result : goal.overflow_sub-result
overflow_sub-result c =
    let a = c.args in
    omega (arith, second_place a.g a.k a.p c.if-p-k.false, c.place_of-at.ensures, c.bytes_needed.ensures)

pub returns : goal.returns
unfolding start_on_shelf
returns c =
    let a = c.args in
    let e : c.place_of-at.result - c.bytes_needed.result ≡ place_on_second a.g a.k a.p = omega (arith, second_place a.g a.k a.p c.if-p-k.false, c.place_of-at.ensures, c.bytes_needed.ensures) in
    rw (le-ltb _ _ c.if-p-k.false, e)
