-- `put_lines` meets its contract.
use Prim.Native.Nat.{◌+◌, ◌*◌, ◌≤◌}
use mathlib.Core.Path.{◌≡◌, sym, ◌∙◌}
use native.Mathlib.Omega.{arith}
use lib.ListN.{length, length-take}
use Rattle.layout.specs.Limits.{most_disks, most_rows}
use Rattle.volume.proofs.CallsCode.{disks_most}
use Rattle.volume.proofs.SoundLaws.{sound_facts}
use Rattle.wall_chart.proofs.Lengths.{length_chart}
use Rattle.wall_chart.proofs.PagesCode.{first_room, first_length, chart_room, lines_stored}
use Rattle.wall_chart.proofs.pages.put_lines.Goals as goal
use Rattle.wall_chart.proofs.pages.put_lines.Goals.{After-disk_count-disks, After-text_bytes-width}

few : (c : After-disk_count-disks) → (c.args.v.rows ≤ most_rows) × (c.disk_count-disks.result ≤ most_disks)
few c = ((sound_facts _ c.requires.sound_state).limits.rows_most, rw c.disk_count-disks.ensures (disks_most _ c.requires.sound_state))

-- the page has room for the chart of so many disks
room : (c : After-text_bytes-width) → (c.args.v.rows + 1) * (6 + c.disk_count-disks.result * 10 + 1) ≤ length c.args.page.now
room c = rw c.disk_count-disks.ensures (chart_room c.args.v c.args.page.now c.requires.room)

pub text_bytes-width-requires : goal.text_bytes-width-requires
text_bytes-width-requires c = (few (goal.at.text_bytes-width-requires c).After-disk_count-disks).1

width : (c : After-text_bytes-width) → c.text_bytes-width.result + 1 ≡ 6 + c.disk_count-disks.result * 10 + 1
width c = omega arith

first : (c : After-text_bytes-width) → c.text_bytes-width.result + 1 ≤ length c.args.page.now
first c = rw (width c) (first_room c.args.v.rows (6 + c.disk_count-disks.result * 10 + 1) _ (room c))

pub slice_bounds-put_heading_line-end : goal.slice_bounds-put_heading_line-end
slice_bounds-put_heading_line-end c = first (goal.at.slice_bounds-put_heading_line-end c).After-text_bytes-width

pub slice_bounds-put_heading_line-end-2 : goal.slice_bounds-put_heading_line-end-2
slice_bounds-put_heading_line-end-2 c = simp length-take (omega (arith, first (goal.at.slice_bounds-put_heading_line-end-2 c).After-text_bytes-width))

pub put_heading_line-requires : goal.put_heading_line-requires
put_heading_line-requires c =
    let at = (goal.at.put_heading_line-requires c).After-text_bytes-width in
    record {
      disks_le_most_disks = (few (goal.at.put_heading_line-requires c).After-disk_count-disks).1;
      line_len = simp length-take (omega (arith, first at, width at));
    }

pub put_rows-requires : goal.put_rows-requires
put_rows-requires c =
    let at = (goal.at.put_rows-requires c).After-text_bytes-width in
    let kept = first_length c.args.page.now c.put_heading_line.new.line _ _ c.put_heading_line.ensures (width at) (first at) in
    record {
      limits = few (goal.at.put_rows-requires c).After-disk_count-disks;
      room = rw kept at (room at);
    }

pub chart_bytes-requires : goal.chart_bytes-requires
chart_bytes-requires c = few (goal.at.chart_bytes-requires c).After-disk_count-disks

pub returns : goal.returns
returns c =
    let v = c.args.v in
    let m = c.args.page.now in
    record {
      value = rw c.disk_count-disks.ensures at c.chart_bytes.ensures ∙ sym (length_chart v);
      page_after = lines_stored v m c.requires.room _ _ _ _ c.disk_count-disks.ensures (width (goal.at.returns c).After-text_bytes-width) c.put_heading_line.ensures c.put_rows.ensures;
    }
