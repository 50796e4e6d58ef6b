-- What the code of the pages needs.
use Prim.Native.Nat.{ℕ, suc, ◌+◌, ◌*◌, ◌≤◌, ◌<◌}
use mathlib.Core.Path.{◌≡◌, refl, sym, ap, ◌∙◌}
use mathlib.Core.Bool.{true}
use mathlib.Core.List.{List, [], ◌∷◌, ◌++◌}
use native.Mathlib.Nat.{zero-add, suc-mul, mul-le-mul, mul-le-mul_right}
use native.Mathlib.Numerals.{add-one}
use native.Mathlib.Omega.{arith}
use lib.Dec.{ltb}
use lib.ListN.{length, drop}
use lib.Seq.{sets, length-sets}
use borrow.Author.Tests.{ltb-false}
use Rattle.std.specs.Prelude.{Err}
use Rattle.base.specs.declared.Refusal.{Refusal}
use Rattle.base.specs.Below.{joined}
use Rattle.base.specs.Refusals.{refusal}
use Rattle.base.proofs.Lists.{sets_append, front_stored}
use Rattle.base.proofs.Refusals.{passed, held, passed_first}
use Rattle.layout.specs.Limits.{most_disks, most_rows}
use Rattle.medium.specs.Medium.{record_bytes, observe}
use Rattle.volume.specs.declared.Volume.{Volume}
use Rattle.volume.specs.Calls.{sector_table}
use Rattle.volume.specs.Records.{is_sound_record}
use Rattle.volume.specs.Sound.{sound}
use Rattle.volume.specs.States.{disks}
use Rattle.volume.proofs.Judged.{Tells, tells_before, refused_when, accepted_when}
use Rattle.wall_chart.specs.Chart.{line_bytes, heading_line, row_line, chart}
use Rattle.wall_chart.specs.Pages.{untouched, with_chart, page_short, chart_table, charted, record_state, record_chart_table, record_charted}
use Rattle.wall_chart.proofs.Lengths.{length_heading_line, length_chart}

-- a row more
pub one_row_more : (rows w : ℕ) → rows * w + w ≡ (rows + 1) * w
one_row_more rows w = rw (add-one, suc-mul rows w)

-- the bytes of so many lines
pub bytes_most : (rows n : ℕ) → rows ≤ most_rows → n ≤ most_disks → rows * line_bytes n ≤ 167_000_000
bytes_most rows n h k = mul-le-mul {m₁ = line_bytes n} {m₂ = 167} h (omega arith)

-- the line of a row lies in the page, and the first line does
pub row_room : (b rows w len : ℕ) → b < rows → (rows + 1) * w ≤ len → w + b * w + w ≤ len
row_room b rows w len h k =
    let below : suc b * w ≤ rows * w = mul-le-mul_right w h in
    omega (arith, suc-mul b w, one_row_more rows w)

pub first_room : (rows w len : ℕ) → (rows + 1) * w ≤ len → w ≤ len
first_room rows w len k = omega (arith, one_row_more rows w)

-- ---- the lines of a chart

-- a page with its first part brought back
abbrev first_back : (m first : List ℕ) (w : ℕ) → List ℕ
first_back m first w = first ++ drop w m

first_stored : (m first : List ℕ) (w : ℕ) → length first ≡ w → w ≤ length m → first_back m first w ≡ sets m 0 first
first_stored m first w l room = rw l at (front_stored m first (omega arith))

pub first_length : (m first : List ℕ) (n w : ℕ) → first ≡ heading_line n → w ≡ line_bytes n → w ≤ length m
    → length m ≡ length (first_back m first w)
first_length m first n w put wide room =
    let l : length first ≡ w = rw (put, length_heading_line n) (sym wide) in
    sym (ap length (first_stored m first w l room) ∙ length-sets m 0 first)

module _ (v : Volume) (m : List ℕ) (long : length (chart v) ≤ length m) where
  pub chart_room : (v.rows + 1) * line_bytes (disks v) ≤ length m
  chart_room = rw (← length_chart v) long

  -- the first line, then the rows
  pub lines_stored : (n w : ℕ) (first after : List ℕ) → n ≡ disks v → w ≡ line_bytes n → first ≡ heading_line n
      → after ≡ sets (first_back m first w) (line_bytes n) (joined (row_line v n) v.rows) → after ≡ sets m 0 (chart v)
  unfolding chart
  lines_stored n w first after same wide put stored =
      let l : length first ≡ w = rw (put, length_heading_line n) (sym wide) in
      let room : w ≤ length m = rw (wide, same) (first_room v.rows (line_bytes (disks v)) (length m) chart_room) in
      rw (sets_append m 0 (heading_line (disks v)) (joined (row_line v (disks v)) v.rows), length_heading_line (disks v), zero-add)
      (rw (first_stored m first w l room, put, same) at stored)

-- ---- what is told and left

-- a refusal, and the page as it was
module _ (page : List ℕ) (r : Refusal) where
  pub chart_refused : (v : Volume) → Tells (refusal (chart_table v (length page))) r → record { answer = Err r; page = page } ≡ charted v page
  unfolding charted untouched
  chart_refused v f = rw (refused_when (chart_table v (length page)) (untouched page) (with_chart v page) f.0, f.1)

  pub record_refused : (bytes : List ℕ) → Tells (refusal (sector_table (observe bytes))) r → record { answer = Err r; page = page } ≡ record_charted bytes page
  unfolding record_charted record_chart_table untouched
  record_refused bytes f =
      let g = tells_before (sector_table (observe bytes)) ((16, page_short (record_state bytes) (length page)) ∷ []) r f in
      rw (refused_when (record_chart_table bytes (length page)) (untouched page) (with_chart (record_state bytes) page) g.0, g.1)

module _ (v : Volume) (page : List ℕ) (e : refusal (chart_table v (length page)) ≡ 0) where
  pub chart_accepted : charted v page ≡ with_chart v page
  unfolding charted
  chart_accepted = accepted_when (chart_table v (length page)) (untouched page) (with_chart v page) e

  pub chart_fits : (sound v ≡ true) × (length (chart v) ≤ length page)
  unfolding chart_table page_short
  chart_fits =
      let a = held 1 (sound v) _ (omega arith) e in
      (a.0, ltb-false (length page) (length (chart v)) (passed 16 (page_short v (length page)) [] (omega arith) a.1).0)

-- of a sound state's record, the state's own chart
pub record_taken : (bytes page : List ℕ) → refusal (sector_table (observe bytes)) ≡ 0 → sound (record_state bytes) ≡ true
    → charted (record_state bytes) page ≡ record_charted bytes page
unfolding charted record_charted chart_table record_chart_table refusal
record_taken bytes page e s = rw (s, passed_first (sector_table (observe bytes)) ((16, page_short (record_state bytes) (length page)) ∷ []) refl e)

pub record_room : (bytes page : List ℕ) → refusal (record_chart_table bytes (length page)) ≡ 0 → length (chart (record_state bytes)) ≤ length page
unfolding record_chart_table page_short
record_room bytes page e =
    let o = observe bytes in
    let a = passed 2 (ltb o.byte_count record_bytes) _ (omega arith) e in
    let b = held 13 (is_sound_record o.sector) _ (omega arith) a.1 in
    ltb-false (length page) (length (chart (record_state bytes))) (passed 16 (page_short (record_state bytes) (length page)) [] (omega arith) b.1).0
