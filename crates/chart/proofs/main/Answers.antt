-- What `main` prints of the page lies in the page.
use Rattle.std.proofs.Common.{◌≤◌, length, sym, ◌∙◌}
use lib.Seq.{length-take-le}
use Rattle.wall_chart.proofs.PageLaws.{used_fits}
use Rattle.chart.proofs.main.Goals as goal
use Rattle.chart.proofs.main.Goals.{In-Ok}

used_within : (c : In-Ok) → c.in-Ok.used ≤ length c.put_chart_of_record-answer.new.page
used_within c =
    let call = c.put_chart_of_record-answer in
    rw call.auto.page (used_fits _ _ _ (sym call.ensures.value ∙ c.in-Ok.is))

pub slice_bounds-page-end : goal.slice_bounds-page-end
slice_bounds-page-end c = used_within (goal.at.slice_bounds-page-end c).In-Ok

pub slice_bounds-write_all-end : goal.slice_bounds-write_all-end
slice_bounds-write_all-end c = sym (length-take-le _ _ (used_within (goal.at.slice_bounds-write_all-end c).In-Ok))
