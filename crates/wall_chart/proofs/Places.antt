-- What stands where in a chart.
use Prim.Native.Nat.{ℕ, zero, suc, ◌+◌, ◌*◌, ◌≤◌, ◌<◌}
use mathlib.Core.Path.{◌≡◌, sym, ◌∙◌}
use mathlib.Core.List.{List, [], ◌∷◌, ◌++◌, append-nil, append_assoc}
use native.Mathlib.Nat.{zero-add, zero-mul, suc-mul, add_comm}
use native.Mathlib.Numerals.{add-one}
use lib.ListN.{length, take, drop, get_or, take-append-drop}
use lib.Seq.{take_at, drop_at, drop-drop, get_or_at, get_or-drop}
use Rattle.base.specs.Below.{joined}
use Rattle.base.proofs.Lists.{length_joined, joined_part}
use Rattle.record.specs.Decimal.{column_width, decimal}
use Rattle.record.specs.Sector.{line_feed}
use Rattle.record.proofs.Lengths.{length_decimal}
use Rattle.volume.specs.declared.Volume.{Volume}
use Rattle.volume.specs.States.{disks}
use Rattle.wall_chart.specs.Chart.{heading, row_width, cell, cell_at, text_bytes, line_bytes, line, heading_line, row_line, chart}
use Rattle.wall_chart.specs.Laws.{line_start, bytes_of, cell_bytes, says}
use Rattle.wall_chart.proofs.Lengths.{length_heading, length_cell_at, length_heading_line, length_row_line}

-- ---- a line, whatever follows

module _ (start : List ℕ) (column_of : ℕ → List ℕ) (count : ℕ) (rest : List ℕ) (six : length start ≡ row_width) (each : (i : ℕ) → length (column_of i) ≡ column_width) where
  line_start_law : take row_width (line start column_of count ++ rest) ≡ start
  unfolding line
  line_start_law = rw (append_assoc start _ rest) (take_at start _ row_width six)

  behind_start : drop 6 (line start column_of count ++ rest) ≡ joined column_of count ++ (line_feed ∷ rest)
  unfolding line
  behind_start =
      rw (append_assoc start (joined column_of count ++ (line_feed ∷ [])) rest, drop_at start _ 6 six, append_assoc (joined column_of count) (line_feed ∷ []) rest)

  line_column : (i : ℕ) → i < count → take column_width (drop (text_bytes i) (line start column_of count ++ rest)) ≡ column_of i
  line_column i h =
      rw (← drop-drop (i * 10) 6 (line start column_of count ++ rest), behind_start) (joined_part column_of column_width each count i (line_feed ∷ rest) h)

  line_feed_law : get_or (line start column_of count ++ rest) (text_bytes count) 0 ≡ line_feed
  line_feed_law =
      sym (get_or-drop 6 (line start column_of count ++ rest) (count * 10) 0)
      ∙ rw behind_start (get_or_at (joined column_of count) line_feed rest 0 (count * 10) (length_joined column_of column_width each count))

-- ---- the lines of a chart

module _ (v : Volume) where
  abbrev all_rows : List ℕ
  all_rows = joined (row_line v (disks v)) v.rows

  -- what stands from the line of a row on
  module _ (row : ℕ) (h : row < v.rows) where
    abbrev after : List ℕ
    after = drop (line_bytes (disks v)) (drop (row * line_bytes (disks v)) all_rows)

    row_there : drop (line_start v (row + 1)) (chart v) ≡ row_line v (disks v) row ++ after
    unfolding chart
    row_there =
        let w = line_bytes (disks v) in
        let e : line_start v (row + 1) ≡ w + row * w = rw (add-one row) (suc-mul row w ∙ add_comm (row * w) w) in
        let part = joined_part (row_line v (disks v)) w (length_row_line v (disks v)) v.rows row [] h in
        rw (e, ← drop-drop (row * w) w (heading_line (disks v) ++ all_rows), drop_at (heading_line (disks v)) all_rows w (length_heading_line (disks v)))
        (sym (take-append-drop w (drop (row * w) all_rows)) ∙ rw (rw (append-nil all_rows) at part))

  pub heading_first : bytes_of v 0 row_width ≡ heading
  unfolding chart heading_line
  heading_first = line_start_law heading (decimal column_width) (disks v) all_rows length_heading (length_decimal column_width)

  pub disk_number : (disk : ℕ) → disk < disks v → bytes_of v (text_bytes disk) column_width ≡ decimal column_width disk
  unfolding chart heading_line
  disk_number = line_column heading (decimal column_width) (disks v) all_rows length_heading (length_decimal column_width)

  pub row_number : (row : ℕ) → row < v.rows → bytes_of v (line_start v (row + 1)) row_width ≡ decimal row_width row
  unfolding row_line
  row_number row h =
      rw (row_there row h)
      (line_start_law (decimal row_width row) (cell_at v row) (disks v) (after row h) (length_decimal row_width row) (length_cell_at v row))

  pub cell_of_holder : (disk row : ℕ) → disk < disks v → row < v.rows → cell_bytes v disk row ≡ cell (says v disk row)
  unfolding row_line
  cell_of_holder disk row d h =
      rw (← drop-drop (text_bytes disk) (line_start v (row + 1)) (chart v), row_there row h)
      (line_column (decimal row_width row) (cell_at v row) (disks v) (after row h) (length_decimal row_width row) (length_cell_at v row) disk d)

  pub line_end : (k : ℕ) → k ≤ v.rows → get_or (chart v) (line_start v k + text_bytes (disks v)) 0 ≡ line_feed
  unfolding chart heading_line row_line
  line_end zero h =
      rw (zero-mul, zero-add) (line_feed_law heading (decimal column_width) (disks v) all_rows length_heading (length_decimal column_width))
  line_end (suc row) h =
      sym (get_or-drop (line_start v (suc row)) (chart v) (text_bytes (disks v)) 0)
      ∙ rw (rw (add-one row) at (row_there row h))
      (line_feed_law (decimal row_width row) (cell_at v row) (disks v) (after row h) (length_decimal row_width row) (length_cell_at v row))
