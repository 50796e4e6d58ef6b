-- `check_chart` meets its contract.
use mathlib.Core.Path.{◌≡◌, sym, ◌∙◌}
use mathlib.Core.Bool.{true}
use borrow.Author.Tests.{lt-ltb, le-ltb}
use Rattle.base.specs.declared.Refusal.TheVariants.{NotSound, PageTooShort}
use Rattle.base.specs.Refusals.{refusal, refusal_number}
use Rattle.volume.specs.Sound.{sound}
use Rattle.volume.proofs.CallsCode.{disks_most}
use Rattle.volume.proofs.Judged.{tells, err_checked, ok_checked}
use Rattle.volume.proofs.SoundLaws.{sound_facts}
use Rattle.wall_chart.specs.Pages.{page_short, chart_table}
use Rattle.wall_chart.proofs.Lengths.{length_chart}
use Rattle.wall_chart.proofs.pages.check_chart.Goals as goal
use Rattle.wall_chart.proofs.pages.check_chart.Goals.{Else-not-is_sound}

pub returns-then-not-is_sound : goal.returns-then-not-is_sound
unfolding refusal refusal_number chart_table
returns-then-not-is_sound c = let e = sym c.is_sound.ensures ∙ c.if-not-is_sound.true in err_checked _ NotSound (tells _ NotSound (simp e))

is_sound : (c : Else-not-is_sound) → sound c.args.v.now ≡ true
is_sound c = sym c.is_sound.ensures ∙ c.if-not-is_sound.false

pub chart_bytes-requires : goal.chart_bytes-requires
chart_bytes-requires c =
    let s = is_sound (goal.at.chart_bytes-requires c).Else-not-is_sound in
    ((sound_facts _ s).limits.rows_most, rw c.disk_count.ensures (disks_most _ s))

pub returns-then-len-chart_bytes : goal.returns-then-len-chart_bytes
unfolding refusal refusal_number chart_table page_short
returns-then-len-chart_bytes c =
    let e = rw c.disk_count.ensures at c.chart_bytes.ensures ∙ sym (length_chart c.args.v.now) in
    let short = lt-ltb _ _ (rw e at c.if-len-chart_bytes.true) in
    err_checked _ PageTooShort (tells _ PageTooShort (simp (is_sound (goal.at.returns-then-len-chart_bytes c).Else-not-is_sound, short)))

pub returns : goal.returns
unfolding refusal chart_table page_short
returns c =
    let e = rw c.disk_count.ensures at c.chart_bytes.ensures ∙ sym (length_chart c.args.v.now) in
    ok_checked _ (simp (is_sound (goal.at.returns c).Else-not-is_sound, le-ltb _ _ (rw e at c.if-len-chart_bytes.false)))
