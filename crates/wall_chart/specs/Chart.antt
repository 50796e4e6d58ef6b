-- Document 02, W1: the bytes of the wall chart of a state. Bytes are numbers here.
use Rattle.std.specs.Prelude.{ℕ, ◌+◌, ◌*◌, List, [], ◌∷◌, ◌++◌, replicate, Result, Ok, Err}
use Rattle.base.specs.declared.Refusal.{Refusal}
use Rattle.base.specs.Below.{joined}
use Rattle.layout.specs.declared.Block.{Block}
use Rattle.layout.specs.declared.Spot.{Spot}
use Rattle.record.specs.Decimal.{space, column_width, decimal}
use Rattle.record.specs.Sector.{line_feed}
use Rattle.volume.specs.declared.Volume.{Volume}
use Rattle.volume.specs.Calls.{holder_reply}
use Rattle.volume.specs.States.{disks}

-- "The chart opens with the six bytes "   row"": the heading.
unfoldable pub heading : List ℕ
heading = 0x20 ∷ 0x20 ∷ 0x20 ∷ 0x72 ∷ 0x6F ∷ 0x77 ∷ []

-- "the row in six columns"; a disk number or a block has the record's ten, `column_width`
abbrev pub row_width : ℕ
row_width = 6

-- "-", right-justified in ten columns
unfoldable pub dash : List ℕ
dash = replicate 9 space ++ (0x2D ∷ [])

-- "each spot's block, or "-" where holder says 15, in ten": the cell of a spot, by what holder says of it
unfoldable pub cell : (says : Result Block Refusal) → List ℕ
cell (Err r) = dash
cell (Ok x) = decimal column_width x.0

abbrev pub spot_at : (disk row : ℕ) → Spot
spot_at disk row = record { disk = disk; row = record { 0 = row } }

abbrev pub cell_at : (v : Volume) (row disk : ℕ) → List ℕ
cell_at v row disk = cell (holder_reply v (spot_at disk row)).answer

-- the bytes of a line before its line feed, and with it
abbrev pub text_bytes : (count : ℕ) → ℕ
text_bytes count = row_width + count * column_width

abbrev pub line_bytes : (count : ℕ) → ℕ
line_bytes count = text_bytes count + 1

-- six bytes, ten for each of so many disks, and "Every line ends in 0x0A."
unfoldable pub line : (start : List ℕ) (column_of : ℕ → List ℕ) (count : ℕ) → List ℕ
line start column_of count = start ++ (joined column_of count ++ (line_feed ∷ []))

-- the heading, "then each disk number right-justified in ten columns"
unfoldable pub heading_line : (count : ℕ) → List ℕ
heading_line count = line heading (decimal column_width) count

-- "One line a row follows, right-justified too": the row, then each spot's cell
unfoldable pub row_line : (v : Volume) (count row : ℕ) → List ℕ
row_line v count row = line (decimal row_width row) (cell_at v row) count

-- the chart; it has N[t] columns, also while a growth runs
unfoldable pub chart : (v : Volume) → List ℕ
chart v = heading_line (disks v) ++ joined (row_line v (disks v)) v.rows
