-- What is proved of the chart and of pages filled with it: `ChartLaws`. `proofs/Theorems.antt` has the proof.
use Rattle.std.specs.Prelude.{ℕ, ◌+◌, ◌*◌, ◌≤◌, ◌<◌, ◌≡◌, Bool, true, List, ◌≢◌, length, take, drop, get_or, Result}
use Rattle.base.specs.declared.Refusal.{Refusal}
use Rattle.base.specs.Refusals.{refusal}
use Rattle.layout.specs.declared.Block.{Block}
use Rattle.record.specs.declared.Column.TheVariants.{Number, Blank, NotANumber}
use Rattle.record.specs.Decimal.{column_width, decimal, column_fold, read_column}
use Rattle.record.specs.Sector.{line_feed}
use Rattle.volume.specs.declared.Volume.{Volume}
use Rattle.volume.specs.Answers.{number, holder_number, block_told}
use Rattle.volume.specs.Calls.{holder_reply}
use Rattle.volume.specs.Records.{record_of}
use Rattle.volume.specs.Sound.{sound}
use Rattle.volume.specs.States.{disks}
use Rattle.wall_chart.specs.Chart.{heading, row_width, dash, cell, spot_at, text_bytes, line_bytes, chart}
use Rattle.wall_chart.specs.Pages.{bytes_used, Filled, chart_table, charted, record_state, record_chart_table, record_charted}

-- ---- places in a chart

-- where line k begins: the first is line 0, that of row b is line b + 1. In it the columns of disk d begin at `text_bytes d`.
abbrev pub line_start : (v : Volume) (k : ℕ) → ℕ
line_start v k = k * line_bytes (disks v)

-- so many bytes of the chart, from a byte on
abbrev pub bytes_of : (v : Volume) (from count : ℕ) → List ℕ
bytes_of v from count = take count (drop from (chart v))

-- the ten bytes of a spot
abbrev pub cell_bytes : (v : Volume) (disk row : ℕ) → List ℕ
cell_bytes v disk row = bytes_of v (line_start v (row + 1) + text_bytes disk) column_width

abbrev pub says : (v : Volume) (disk row : ℕ) → Result Block Refusal
says v disk row = (holder_reply v (spot_at disk row)).answer

-- The cell of a spot: read as a column of the record is read, it holds the block that holder says; or it is "-", and holder says 15.
pub record CellTold (v : Volume) (disk row : ℕ) : Type 0 where
  pub block : holder_number (says v disk row) ≡ 0 → read_column (cell_bytes v disk row) ≡ Number (block_told (says v disk row))
  pub no_block : holder_number (says v disk row) ≢ 0 → (holder_number (says v disk row) ≡ 15) × (cell_bytes v disk row ≡ dash)

-- ---- pages

-- a refusal: the table's number, no bytes used, the page as it was
pub record FillRefuses (table : List (ℕ × Bool)) (page : List ℕ) (filled : Filled) : Type 0 where
  pub number_told : number filled.answer ≡ refusal table
  pub nothing_used : refusal table ≢ 0 → bytes_used filled.answer ≡ 0
  pub page_kept : refusal table ≢ 0 → filled.page ≡ page

-- a page with a chart: its first bytes are the chart's, and so many were used; the rest is as it was
pub record Fills (v : Volume) (page : List ℕ) (filled : Filled) : Type 0 where
  pub all_used : bytes_used filled.answer ≡ length (chart v)
  pub room : length (chart v) ≤ length page
  pub chart_put : take (length (chart v)) filled.page ≡ chart v
  pub rest_kept : drop (length (chart v)) filled.page ≡ drop (length (chart v)) page

pub record ChartLaws : Type 0 where
  -- the length, as a function of the state
  pub chart_length : (v : Volume) → length (chart v) ≡ (v.rows + 1) * line_bytes (disks v)
  -- what stands where
  pub heading_first : (v : Volume) → bytes_of v 0 row_width ≡ heading
  pub disk_number : (v : Volume) (disk : ℕ) → disk < disks v → bytes_of v (text_bytes disk) column_width ≡ decimal column_width disk
  pub row_number : (v : Volume) (row : ℕ) → row < v.rows → bytes_of v (line_start v (row + 1)) row_width ≡ decimal row_width row
  pub cell_of_holder : (v : Volume) (disk row : ℕ) → disk < disks v → row < v.rows → cell_bytes v disk row ≡ cell (says v disk row)
  pub line_end : (v : Volume) (k : ℕ) → k ≤ v.rows → get_or (chart v) (line_start v k + text_bytes (disks v)) 0 ≡ line_feed
  -- what it says of a sound state: no number is cut off, and "-" stands where holder says 15 and nowhere else
  pub disk_told : (v : Volume) (disk : ℕ) → sound v ≡ true → disk < disks v → read_column (bytes_of v (text_bytes disk) column_width) ≡ Number disk
  pub row_told : (v : Volume) (row : ℕ) → sound v ≡ true → row < v.rows
      → column_fold Blank (bytes_of v (line_start v (row + 1)) row_width) ≡ Number row
  pub cell_told : (v : Volume) (disk row : ℕ) → sound v ≡ true → disk < disks v → row < v.rows → CellTold v disk row
  pub dash_no_number : read_column dash ≡ NotANumber
  pub at_rest_all_told : (v : Volume) (disk row : ℕ) → sound v ≡ true → v.growing ≡ 0 → disk < disks v → row < v.rows
      → holder_number (says v disk row) ≡ 0
  -- the record of a state has that state's chart
  pub record_chart : (v : Volume) → sound v ≡ true → chart (record_state (record_of v)) ≡ chart v
  -- pages
  pub chart_refuses : (v : Volume) (page : List ℕ) → FillRefuses (chart_table v (length page)) page (charted v page)
  pub chart_fills : (v : Volume) (page : List ℕ) → refusal (chart_table v (length page)) ≡ 0 → Fills v page (charted v page)
  pub record_refuses : (bytes page : List ℕ) → FillRefuses (record_chart_table bytes (length page)) page (record_charted bytes page)
  pub record_fills : (bytes page : List ℕ) → refusal (record_chart_table bytes (length page)) ≡ 0
      → Fills (record_state bytes) page (record_charted bytes page)
