-- Document 02, W1: a lent page filled with the chart of a state, or of a record's state. "The library fills a lent page, says how much
-- it used and leaves the rest as it was."
use Rattle.std.specs.Prelude.{ℕ, Bool, not, List, [], ◌∷◌, ◌++◌, ltb, length, Result, Ok, Err}
use Rattle.std.proofs.lemmas.List.Edits.{sets}
use Rattle.base.specs.declared.Refusal.{Refusal}
use Rattle.base.specs.Refusals.{refusal_with}
use Rattle.medium.specs.Medium.{observe}
use Rattle.volume.specs.declared.Volume.{Volume}
use Rattle.volume.specs.Calls.{judged, sector_table}
use Rattle.volume.specs.Records.{state_read}
use Rattle.volume.specs.Sound.{sound}
use Rattle.wall_chart.specs.Chart.{chart}

-- The one figure of an answer, beside its number: how much of the page was used.
unfoldable pub bytes_used : (a : Result ℕ Refusal) → ℕ
bytes_used (Err r) = 0
bytes_used (Ok n) = n

-- What is answered, and what the page then holds.
pub record Filled : Type 0 where
  pub answer : Result ℕ Refusal
  pub page : List ℕ

-- "with the page untouched"
unfoldable pub untouched : (page : List ℕ) (k : ℕ) → Filled
untouched page k = record { answer = Err (refusal_with k); page = page }

-- the chart from the page's first byte on, the rest as it was
unfoldable pub with_chart : (v : Volume) (page : List ℕ) → Filled
with_chart v page = record { answer = Ok (length (chart v)); page = sets page 0 (chart v) }

-- "16 when the page is too short for the chart"
unfoldable pub page_short : (v : Volume) (page_bytes : ℕ) → Bool
page_short v page_bytes = ltb page_bytes (length (chart v))

-- ---- of a state: 1; 16, "tested after 1"

unfoldable pub chart_table : (v : Volume) (page_bytes : ℕ) → List (ℕ × Bool)
chart_table v page_bytes = (1, not (sound v)) ∷ (16, page_short v page_bytes) ∷ []

unfoldable pub charted : (v : Volume) (page : List ℕ) → Filled
charted v page = judged (chart_table v (length page)) (untouched page) (with_chart v page)

-- ---- of a record sector: "it reads the first 512 bytes by restart's rules, 2 for fewer and then 13 but no further 2"; 16

abbrev pub record_state : (bytes : List ℕ) → Volume
record_state bytes = state_read (observe bytes).sector

unfoldable pub record_chart_table : (bytes : List ℕ) (page_bytes : ℕ) → List (ℕ × Bool)
record_chart_table bytes page_bytes = sector_table (observe bytes) ++ ((16, page_short (record_state bytes) page_bytes) ∷ [])

unfoldable pub record_charted : (bytes page : List ℕ) → Filled
record_charted bytes page =
    judged (record_chart_table bytes (length page)) (untouched page) (with_chart (record_state bytes) page)
