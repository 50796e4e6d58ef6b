-- `put_chart` meets its contract.
use mathlib.Core.Path.{◌≡◌, refl, ap}
use lib.ListN.{length}
use Rattle.std.proofs.lemmas.Result.{err_from_is_err_and}
use Rattle.base.specs.Refusals.{refusal}
use Rattle.volume.proofs.Judged.{err_tells, ok_takes}
use Rattle.wall_chart.specs.Pages.{Filled, with_chart, chart_table}
use Rattle.wall_chart.proofs.PagesCode.{chart_refused, chart_accepted, chart_fits}
use Rattle.wall_chart.proofs.pages.put_chart.Goals as goal
use Rattle.wall_chart.proofs.pages.put_chart.Goals.{In_ok-check_chart}

pub returns-in_err-check_chart : goal.returns-in_err-check_chart
returns-in_err-check_chart c =
    let p = err_from_is_err_and c.from_residual.result c.from_residual.ensures.1 in
    let f = chart_refused c.args.page.now _ c.args.v (err_tells _ _ c.in_err-check_chart.ensures) in
    record { value = rw (p.1, p.2) (ap (λ (x : Filled). x.answer) f); page_after = ap (λ (x : Filled). x.page) f }

passed : (c : In_ok-check_chart) → refusal (chart_table c.args.v (length c.args.page.now)) ≡ 0
passed c = ok_takes _ _ c.in_ok-check_chart.ensures

pub put_lines-requires : goal.put_lines-requires
put_lines-requires c =
    let f = chart_fits c.args.v c.args.page.now (passed (goal.at.put_lines-requires c).In_ok-check_chart) in
    record { sound_state = f.0; room = f.1 }

pub returns : goal.returns
unfolding with_chart
returns c =
    rw (chart_accepted c.args.v c.args.page.now (passed (goal.at.returns c).In_ok-check_chart), c.put_lines.ensures.value)
    record { value = refl; page_after = c.put_lines.ensures.page_after }
