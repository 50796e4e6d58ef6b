-- Pages: refusals, and what a page holds with a chart.
use Prim.Native.Nat.{ℕ, ◌≤◌}
use mathlib.Core.Path.{◌≡◌, refl, sym}
use mathlib.Core.Bool.{Bool, true}
use mathlib.Core.List.{List}
use mathlib.Core.Logic.{◌≢◌}
use native.Mathlib.Nat.{zero-add}
use native.Mathlib.Omega.{arith}
use lib.ListN.{length}
use Rattle.std.specs.Prelude.{Ok}
use Rattle.base.specs.Refusals.{refusal, refusal_number, refusal_with, refusals}
use Rattle.base.proofs.Lists.{part_stored, drop_kept}
use Rattle.base.proofs.Refusals.{all_numbers, has_refusal, number_back}
use Rattle.volume.specs.declared.Volume.{Volume}
use Rattle.volume.specs.Answers.{number}
use Rattle.volume.specs.Calls.{judged}
use Rattle.volume.proofs.Judged.{judged_cases, accepted_when}
use Rattle.wall_chart.specs.Chart.{chart}
use Rattle.wall_chart.specs.Laws.{FillRefuses, Fills}
use Rattle.wall_chart.specs.Pages.{bytes_used, Filled, untouched, with_chart, chart_table, charted, record_state, record_chart_table, record_charted}
use Rattle.wall_chart.proofs.PagesCode.{chart_fits, record_room}

module _ (v : Volume) (page : List ℕ) (table : List (ℕ × Bool)) where
  abbrev filling : Filled
  filling = judged table (untouched page) (with_chart v page)

  refuses : all_numbers has_refusal table ≡ true → FillRefuses table page filling
  unfolding untouched with_chart number bytes_used
  refuses known =
      record {
        number_told = judged_cases (λ (f : Filled). number f.answer ≡ refusal table) table (untouched page) _ (λ e. sym e) (number_back table known);
        nothing_used = judged_cases (λ (f : Filled). refusal table ≢ 0 → bytes_used f.answer ≡ 0) table (untouched page) _ (λ e h. absurd (h e)) (λ _ _. refl);
        page_kept = judged_cases (λ (f : Filled). refusal table ≢ 0 → f.page ≡ page) table (untouched page) _ (λ e h. absurd (h e)) (λ _ _. refl);
      }

  fills : refusal table ≡ 0 → length (chart v) ≤ length page → Fills v page filling
  unfolding with_chart bytes_used
  fills e room =
      rw (accepted_when table (untouched page) (with_chart v page) e)
      (record {
        all_used = refl;
        room = room;
        chart_put = part_stored page (chart v) 0 (rw zero-add room);
        rest_kept = drop_kept page (chart v) 0 (length (chart v)) (omega arith);
      })

pub chart_refuses : (v : Volume) (page : List ℕ) → FillRefuses (chart_table v (length page)) page (charted v page)
unfolding charted chart_table refusal_number refusal_with refusals
chart_refuses v page = refuses v page (chart_table v (length page)) refl

pub chart_fills : (v : Volume) (page : List ℕ) → refusal (chart_table v (length page)) ≡ 0 → Fills v page (charted v page)
unfolding charted
chart_fills v page e = fills v page (chart_table v (length page)) e (chart_fits v page e).1

pub record_refuses : (bytes page : List ℕ) → FillRefuses (record_chart_table bytes (length page)) page (record_charted bytes page)
unfolding record_charted record_chart_table refusal_number refusal_with refusals
record_refuses bytes page = refuses (record_state bytes) page (record_chart_table bytes (length page)) refl

pub record_fills : (bytes page : List ℕ) → refusal (record_chart_table bytes (length page)) ≡ 0
    → Fills (record_state bytes) page (record_charted bytes page)
unfolding record_charted
record_fills bytes page e = fills (record_state bytes) page (record_chart_table bytes (length page)) e (record_room bytes page e)

-- what is said to be used lies in the page
pub used_fits : (bytes page : List ℕ) (n : ℕ) → (record_charted bytes page).answer ≡ Ok n → n ≤ length page
unfolding record_charted untouched with_chart
used_fits bytes page n =
    judged_cases (λ (f : Filled). f.answer ≡ Ok n → n ≤ length page) (record_chart_table bytes (length page)) (untouched page) (with_chart (record_state bytes) page)
    (λ e f. let k : length (chart (record_state bytes)) ≡ n = cc in omega (arith, record_room bytes page e))
    (λ _ f. absurd (cc))
