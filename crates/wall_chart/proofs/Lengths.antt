-- The lengths of the chart's parts.
use Prim.Native.Nat.{ℕ, ◌+◌, ◌*◌}
use mathlib.Core.Path.{◌≡◌, refl}
use mathlib.Core.List.{List}
use native.Mathlib.Nat.{suc-mul}
use native.Mathlib.Numerals.{add-one}
use native.Mathlib.Omega.{arith}
use lib.ListN.{length, length-append}
use Rattle.std.specs.Prelude.{Result, Ok, Err}
use Rattle.base.specs.declared.Refusal.{Refusal}
use Rattle.base.specs.Below.{joined}
use Rattle.base.proofs.Lists.{length_joined}
use Rattle.layout.specs.declared.Block.{Block}
use Rattle.record.specs.Decimal.{column_width, decimal}
use Rattle.record.proofs.Lengths.{length_decimal}
use Rattle.volume.specs.declared.Volume.{Volume}
use Rattle.volume.specs.Calls.{holder_reply}
use Rattle.volume.specs.States.{disks}
use Rattle.wall_chart.specs.Chart.{heading, row_width, dash, cell, spot_at, cell_at, line_bytes, line, heading_line, row_line, chart}

pub length_heading : length heading ≡ row_width
unfolding heading
length_heading = refl

pub length_cell : (says : Result Block Refusal) → length (cell says) ≡ column_width
unfolding cell dash
length_cell (Err r) = refl
length_cell (Ok x) = length_decimal column_width x.0

pub length_cell_at : (v : Volume) (row disk : ℕ) → length (cell_at v row disk) ≡ column_width
length_cell_at v row disk = length_cell (holder_reply v (spot_at disk row)).answer

pub length_line : (start : List ℕ) (column_of : ℕ → List ℕ) (count : ℕ) → length start ≡ row_width → ((i : ℕ) → length (column_of i) ≡ column_width)
    → length (line start column_of count) ≡ line_bytes count
unfolding line
length_line start column_of count six each = simp (length-append, six, length_joined column_of column_width each count) (omega arith)

pub length_heading_line : (count : ℕ) → length (heading_line count) ≡ line_bytes count
unfolding heading_line
length_heading_line count = length_line heading (decimal column_width) count length_heading (length_decimal column_width)

pub length_row_line : (v : Volume) (count row : ℕ) → length (row_line v count row) ≡ line_bytes count
unfolding row_line
length_row_line v count row = length_line (decimal row_width row) (cell_at v row) count (length_decimal row_width row) (length_cell_at v row)

pub length_rows : (v : Volume) (count rows : ℕ) → length (joined (row_line v count) rows) ≡ rows * line_bytes count
length_rows v count rows = length_joined (row_line v count) (line_bytes count) (length_row_line v count) rows

pub length_chart : (v : Volume) → length (chart v) ≡ (v.rows + 1) * line_bytes (disks v)
unfolding chart
length_chart v =
    rw (add-one v.rows, suc-mul v.rows (line_bytes (disks v)))
    (simp (length-append, length_heading_line (disks v), length_rows v (disks v) v.rows) (omega arith))
