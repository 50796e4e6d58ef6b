-- `put_rows` meets its contract.
use Prim.Native.Nat.{◌+◌, ◌*◌, ◌≤◌}
use mathlib.Core.Path.{◌≡◌, refl, sym, ◌∙◌}
use native.Mathlib.Omega.{arith}
use lib.ListN.{length}
use Rattle.base.specs.Below.{joined}
use Rattle.base.proofs.Lists.{lent_length, joined_back}
use Rattle.wall_chart.specs.Chart.{row_line}
use Rattle.wall_chart.proofs.Lengths.{length_row_line}
use Rattle.wall_chart.proofs.PagesCode.{row_room}
use Rattle.wall_chart.proofs.pages.put_rows.Goals as goal
use Rattle.wall_chart.proofs.pages.put_rows.Goals.{In-loop-b}

pub loop-b-init : goal.loop-b-init
unfolding joined
loop-b-init c = refl

-- the line of row b lies in the page
room : (c : In-loop-b)
    → let w = c.text_bytes-width.result + 1 in
    w + c.loop-b.b * w + w ≤ length c.loop-b.page
room c =
    let a = c.args in
    let w = c.text_bytes-width.result + 1 in
    let e : w ≡ 6 + a.disks * 10 + 1 = omega arith in
    let all : (a.v.rows + 1) * w ≤ length a.page.now = rw e c.requires.room in
    rw c.loop-b.auto.page (row_room c.loop-b.b a.v.rows w (length a.page.now) c.loop-b-test.true all)

pub overflow_mul-at : goal.overflow_mul-at
overflow_mul-at c = omega (arith, room (goal.at.overflow_mul-at c).In-loop-b)

pub overflow_add-at : goal.overflow_add-at
overflow_add-at c = omega (arith, room (goal.at.overflow_add-at c).In-loop-b)

pub overflow_add-at-in-loop-b : goal.overflow_add-at-in-loop-b
overflow_add-at-in-loop-b c = omega (arith, room (goal.at.overflow_add-at-in-loop-b c).In-loop-b)

pub slice_bounds-put_row_line-end : goal.slice_bounds-put_row_line-end
slice_bounds-put_row_line-end c = room (goal.at.slice_bounds-put_row_line-end c).In-loop-b

pub put_row_line-requires : goal.put_row_line-requires
put_row_line-requires c =
    let w = c.text_bytes-width.result + 1 in
    let e : w ≡ 6 + c.args.disks * 10 + 1 = omega arith in
    record { disks_le_most_disks = c.requires.limits.1; line_len = lent_length c.loop-b.page (w + c.loop-b.b * w) w (room (goal.at.put_row_line-requires c).In-loop-b) ∙ e }

pub loop-b-preserved : goal.loop-b-preserved
loop-b-preserved c =
    let lp = c.loop-b in
    let a = c.args in
    let w = c.text_bytes-width.result + 1 in
    let e : w ≡ 6 + a.disks * 10 + 1 = omega arith in
    (joined_back (row_line a.v a.disks) w (λ i. length_row_line a.v a.disks i ∙ sym e) a.page.now lp.page _ w lp.b (room (goal.at.loop-b-preserved c).In-loop-b) lp.invariant c.put_row_line.ensures).0

pub returns : goal.returns
returns c =
    let e : c.loop-b.b ≡ c.args.v.rows = omega arith in
    let w : c.text_bytes-width.result + 1 ≡ 6 + c.args.disks * 10 + 1 = omega arith in
    rw w at (rw e at c.loop-b.invariant)
