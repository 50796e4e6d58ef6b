-- `put_chart_of_record` meets its contract.
use mathlib.Core.Path.{◌≡◌, sym, ap, ◌∙◌}
use Rattle.std.specs.Prelude.{Ok, Err}
use Rattle.std.proofs.lemmas.Result.{err_from_is_err_and}
use Rattle.medium.specs.Medium.{observe}
use Rattle.volume.specs.Calls.{reporting}
use Rattle.volume.specs.States.{pending_with, with_pending}
use Rattle.volume.specs.declared.Reply.{Reply}
use Rattle.volume.specs.declared.Told.{Told}
use Rattle.volume.proofs.SectorCode.{reply_refused, reply_taken}
use Rattle.volume.proofs.StatesSound.{sector_sound}
use Rattle.wall_chart.specs.Pages.{Filled, record_state}
use Rattle.wall_chart.proofs.PagesCode.{record_refused, record_taken}
use Rattle.wall_chart.proofs.pages.put_chart_of_record.Goals as goal

pub returns-in_err-reply : goal.returns-in_err-reply
returns-in_err-reply c =
    let p = err_from_is_err_and c.from_residual.result c.from_residual.ensures.1 in
    let told = reply_refused (observe c.args.sector.now) _ _ c.from_sector-reply.ensures c.in_err-reply.was in
    let f = record_refused c.args.page.now _ c.args.sector.now told.0 in
    record { value = rw (p.1, p.2) (ap (λ (x : Filled). x.answer) f); page_after = ap (λ (x : Filled). x.page) f }

pub returns : goal.returns
unfolding reporting pending_with with_pending
returns c =
    let bytes = c.args.sector.now in
    let taken = reply_taken (observe bytes) _ c.from_sector-reply.ensures (λ r e. let h : Ok c.in_ok-reply.field-0 ≡ Err r = sym c.in_ok-reply.was ∙ e in cc) in
    let state : c.from_sector-reply.result.state ≡ record_state bytes = ap (λ (r : Reply Told). r.state) taken.1 in
    let same = record_taken bytes c.args.page.now taken.0 (sector_sound (observe bytes) taken.0) in
    rw (← same, ← state) record { value = c.put_chart.ensures.value; page_after = c.put_chart.ensures.page_after }
