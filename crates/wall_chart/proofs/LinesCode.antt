-- What the code of the lines needs.
use Prim.Native.Nat.{ℕ, ◌+◌, ◌-◌, ◌≤◌}
use mathlib.Core.Path.{◌≡◌, sym, ◌∙◌}
use mathlib.Core.List.{List, [], ◌∷◌, ◌++◌}
use native.Mathlib.Omega.{arith}
use lib.ListN.{length, take, drop, set}
use lib.Seq.{sets, length-sets}
use Rattle.base.specs.Below.{joined}
use Rattle.base.proofs.Lists.{sets_append, front_stored, joined_back, whole_stored, length_joined}
use Rattle.record.specs.Decimal.{column_width}
use Rattle.record.specs.Sector.{line_feed}
use Rattle.wall_chart.specs.Chart.{row_width, text_bytes, line_bytes, line}
use Rattle.wall_chart.proofs.Lengths.{length_line}

-- a line's first six bytes
pub start_stored : (m l start : List ℕ) → length start ≡ row_width → row_width ≤ length m → l ≡ start → l ++ drop row_width m ≡ sets m 0 start
start_stored m l start six h put = rw put (rw six at (front_stored m start (rw six h)))

-- one column more, by its part of the line
pub column_put : (column_of : ℕ → List ℕ) → ((i : ℕ) → length (column_of i) ≡ column_width) → (m l part : List ℕ) (i at : ℕ) → at ≡ text_bytes i
    → at + column_width ≤ length l → l ≡ sets m row_width (joined column_of i) → part ≡ column_of i
    → take at l ++ (part ++ drop (at + column_width - at) (drop at l)) ≡ sets m row_width (joined column_of (i + 1))
column_put column_of each m l part i at here room stored put =
    rw here (joined_back column_of column_width each m l part row_width i (rw (← here) room) stored put).0

-- a line from its three parts
pub line_parts : (m start : List ℕ) (column_of : ℕ → List ℕ) (count : ℕ) → length m ≡ line_bytes count → length start ≡ row_width
    → ((i : ℕ) → length (column_of i) ≡ column_width)
    → set (sets (sets m 0 start) 6 (joined column_of count)) (text_bytes count) line_feed ≡ line start column_of count
unfolding line
line_parts m start column_of count long six each =
    let whole = whole_stored m (line start column_of count) (length_line start column_of count six each ∙ sym long) in
    sym
    (sym whole
    ∙ rw (
      sets_append m 0 start (joined column_of count ++ (line_feed ∷ [])),
      six,
      sets_append (sets m 0 start) 6 (joined column_of count) (line_feed ∷ []),
      length_joined column_of column_width each count,
    ))

-- as the code stores its last byte
pub line_made : (m l start : List ℕ) (column_of : ℕ → List ℕ) (count : ℕ) → length m ≡ line_bytes count → length start ≡ row_width
    → ((i : ℕ) → length (column_of i) ≡ column_width) → l ≡ sets (sets m 0 start) 6 (joined column_of count)
    → set l (length l - 1) line_feed ≡ line start column_of count
line_made m l start column_of count long six each stored =
    let n : length l ≡ length m = rw stored (length-sets (sets m 0 start) 6 (joined column_of count) ∙ length-sets m 0 start) in
    let last : length l - 1 ≡ text_bytes count = omega arith in
    rw (last, stored) (line_parts m start column_of count long six each)
