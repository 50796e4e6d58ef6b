-- What the chart of a sound state says: its numbers are whole, and "-" stands where holder says 15.
use Prim.Native.Nat.{ℕ, ◌+◌, ◌^◌, ◌<◌}
use mathlib.Core.Path.{◌≡◌, refl, sym, ap, ◌∙◌, fun_ext}
use mathlib.Core.Bool.{Bool, true, false, cond}
use mathlib.Core.List.{List, ◌++◌}
use mathlib.Core.Logic.{◌≢◌}
use native.Mathlib.Omega.{arith}
use lib.Dec.{eqb}
use lib.ListN.{take}
use lib.Seq.{take_all}
use borrow.Author.Tests.{lt-leb, eqb-true, eqb-false}
use Rattle.std.specs.Prelude.{Result, Ok, Err}
use Rattle.base.specs.declared.Refusal.{Refusal}
use Rattle.base.specs.Below.{joined}
use Rattle.base.specs.Refusals.{refusal, refusal_with}
use Rattle.base.proofs.Booleans.{by_test, cond_cases}
use Rattle.layout.specs.declared.Block.{Block}
use Rattle.layout.specs.declared.Spot.{Spot}
use Rattle.layout.specs.Tally.{live_block_of, moved_blocks}
use Rattle.medium.specs.Medium.{record_bytes, observe}
use Rattle.record.specs.declared.Column.TheVariants.{Number, Blank, NotANumber}
use Rattle.record.specs.Decimal.{column_width, decimal, is_digit, column_step, column_fold, read_column}
use Rattle.record.proofs.ColumnLaws.{column_read, decimal_found}
use Rattle.volume.specs.declared.Volume.{Volume}
use Rattle.volume.specs.declared.Reply.{Reply}
use Rattle.volume.specs.Answers.{number, holder_number, block_told}
use Rattle.volume.specs.Calls.{judged, is_none, block_found, holder_table, holder_reply}
use Rattle.volume.specs.Records.{record_of}
use Rattle.volume.specs.Sound.{sound}
use Rattle.volume.specs.States.{history_of, disks, tally_of, with_pending, with_growth, recorded_only}
use Rattle.volume.proofs.Accepted.{holder_accepted}
use Rattle.volume.proofs.Judged.{accepted_when}
use Rattle.volume.proofs.LiveCode.{open_most}
use Rattle.volume.proofs.LookUpLaws.{look_ups_of, at_rest_no_15}
use Rattle.volume.proofs.RecordLaws.{record_length, record_read, recorded_sound}
use Rattle.volume.proofs.RefusalLaws.{holder_refuses}
use Rattle.volume.proofs.SoundLaws.{sound_facts}
use Rattle.wall_chart.specs.Chart.{row_width, dash, cell, spot_at, text_bytes, line, heading_line, row_line, chart}
use Rattle.wall_chart.specs.Laws.{line_start, bytes_of, says, CellTold}
use Rattle.wall_chart.specs.Pages.{record_state}
use Rattle.wall_chart.proofs.Places.{disk_number, row_number, cell_of_holder}

-- ---- whole numbers

pub disk_told : (v : Volume) (disk : ℕ) → sound v ≡ true → disk < disks v → read_column (bytes_of v (text_bytes disk) column_width) ≡ Number disk
unfolding disks
disk_told v disk s h =
    rw (disk_number v disk h) (column_read disk (omega (arith, (sound_facts v s).limits.disks_most)))

pub row_told : (v : Volume) (row : ℕ) → sound v ≡ true → row < v.rows
    → column_fold Blank (bytes_of v (line_start v (row + 1)) row_width) ≡ Number row
row_told v row s h = rw (row_number v row h) (decimal_found 5 row (omega (arith, (sound_facts v s).limits.rows_most)))

pub dash_no_number : read_column dash ≡ NotANumber
unfolding dash read_column column_fold column_step is_digit
dash_no_number = refl

-- ---- holder's answer

answer_inside : (t : Bool) (a b : Reply Block) → (cond t a b).answer ≡ cond t a.answer b.answer
answer_inside true a b = refl
answer_inside false a b = refl

answer_judged : (v : Volume) (p : Spot) → (holder_reply v p).answer
    ≡ judged (holder_table v p) (λ k. Err (refusal_with k)) (Ok (record { 0 = block_found (live_block_of (tally_of v) p) }))
unfolding holder_reply
answer_judged v p = answer_inside (eqb (refusal (holder_table v p)) 0) _ _

-- a refusal's cell is "-"
refused_cell : (a : Result Block Refusal) → holder_number a ≢ 0 → cell a ≡ dash
unfolding number cell
refused_cell (Err r) h = refl
refused_cell (Ok x) h = absurd (h refl)

-- ---- cells

-- holder of a spot of a sound state
module _ (v : Volume) (disk row : ℕ) (s : sound v ≡ true) (d : disk < disks v) (h : row < v.rows) where
  -- the number told is 0 or 15
  number_there : holder_number (says v disk row) ≡ cond (is_none (live_block_of (tally_of v) (spot_at disk row))) 15 0
  unfolding holder_table refusal
  number_there = (holder_refuses v (spot_at disk row)).number_told ∙ rw (s, lt-leb (disks v) disk d, lt-leb v.rows row h)

  only_15 : holder_number (says v disk row) ≢ 0 → holder_number (says v disk row) ≡ 15
  only_15 f =
      cond_cases (λ k. holder_number (says v disk row) ≡ k → holder_number (says v disk row) ≡ 15) (is_none (live_block_of (tally_of v) (spot_at disk row)))
      (λ _ e. e) (λ _ e. absurd (f e)) number_there

  -- a block's cell holds its number
  block_cell : holder_number (says v disk row) ≡ 0 → read_column (cell (says v disk row)) ≡ Number (block_told (says v disk row))
  unfolding block_told cell tally_of
  block_cell e =
      let p = spot_at disk row in
      let r : refusal (holder_table v p) ≡ 0 = sym (holder_refuses v p).number_told ∙ e in
      let f = holder_accepted v p r in
      let x = f.block_there_law.0 in
      let below = ((look_ups_of v s).live_of_block p x f.spot_within f.block_there_law.1).0 in
      let small : x < 10 ^ column_width = omega (arith, open_most v s) in
      let there : says v disk row ≡ Ok (record { 0 = x }) = answer_judged v p ∙ accepted_when (holder_table v p) (λ k. Err (refusal_with k)) _ r ∙ rw f.block_there_law.1 in
      rw there (column_read x small)

  pub cell_told : CellTold v disk row
  cell_told =
      let there = cell_of_holder v disk row d h in
      record {
        block = λ e. rw there (block_cell e);
        no_block = λ f. (only_15 f, there ∙ refused_cell (says v disk row) f);
      }

  pub at_rest_all_told : v.growing ≡ 0 → holder_number (says v disk row) ≡ 0
  at_rest_all_told rest =
      by_test (eqb (holder_number (says v disk row)) 0) (λ e. eqb-true _ 0 e)
      (λ e. absurd (at_rest_no_15 v (spot_at disk row) rest (only_15 (eqb-false _ 0 e))))

-- ---- the record of a state

-- holder looks at the recorded marks alone
same_holder : (v : Volume) (p : Spot) → sound v ≡ true → (holder_reply (recorded_only v) p).answer ≡ (holder_reply v p).answer
unfolding holder_table disks history_of tally_of live_block_of moved_blocks recorded_only with_pending with_growth
same_holder v p s = rw (answer_judged (recorded_only v) p, answer_judged v p, recorded_sound v s, s)

same_rows : (v : Volume) (n : ℕ) → sound v ≡ true → row_line (recorded_only v) n ≡ row_line v n
unfolding row_line
same_rows v n s =
    fun_ext (λ row. ap (λ (column_of : ℕ → List ℕ). line (decimal row_width row) column_of n) (fun_ext (λ disk. ap cell (same_holder v (spot_at disk row) s))))

same_chart : (v : Volume) → sound v ≡ true → chart (recorded_only v) ≡ chart v
unfolding chart disks history_of recorded_only with_pending with_growth
same_chart v s = ap (λ (row : ℕ → List ℕ). heading_line (disks v) ++ joined row v.rows) (same_rows v (disks v) s)

pub record_chart : (v : Volume) → sound v ≡ true → chart (record_state (record_of v)) ≡ chart v
unfolding observe
record_chart v s =
    let whole : take record_bytes (record_of v) ≡ record_of v = take_all record_bytes (record_of v) (omega (arith, record_length v)) in
    rw (whole, (record_read v s).1) (same_chart v s)
