-- The part that advance tells of a block, and the part that address tells once the copy is recorded.
use Prim.Native.Nat.{ℕ, suc, ◌*◌, ◌-◌, ◌<◌}
use mathlib.Core.Path.{◌≡◌, refl, sym, ap, ◌∙◌}
use mathlib.Core.Bool.{true, false}
use mathlib.Core.List.{List, []}
use mathlib.Core.Logic.{◌⊎◌, inl, inr}
use mathlib.Core.Option.{Option, none, some, none-ne-some, some-injective}
use native.Mathlib.Omega.{arith}
use lib.Dec.{eqb, ltb}
use lib.ListN.{length}
use lib.Seq.{get_or-set_same}
use borrow.Author.Tests.{eqb-true, eq-eqb, lt-ltb, le-ltb}
use Rattle.std.specs.Prelude.{Result, Ok}
use Rattle.base.specs.declared.Refusal.{Refusal}
use Rattle.base.proofs.Bits.{bits_length}
use Rattle.base.proofs.Booleans.{cond_cases, and_left, and_right, and_both}
use Rattle.layout.specs.declared.Block.{Block}
use Rattle.layout.specs.declared.Part.{Part}
use Rattle.layout.specs.declared.Reason.TheVariants.{MovedBy}
use Rattle.layout.specs.Growth.{moves_from, change_of}
use Rattle.layout.specs.History.{earlier, old_count, added_count, rising}
use Rattle.layout.specs.Live.{at_new_spot}
use Rattle.layout.specs.Reasons.{reason_after, reason_of}
use Rattle.layout.specs.Tally.{Tally, is_running, open_blocks, recorded_by, moved_blocks, growths_of, live_reason_of, moves_now, next_block, window_full, last_window}
use Rattle.layout.specs.Windows.{old_spot, moving, window_of, moving_in, mark_of, marked_blocks, part_moved}
use Rattle.layout.proofs.HistoryCode.{history_length}
use Rattle.layout.proofs.NextBlocks.{moving_in_old, next_some}
use Rattle.layout.proofs.Theorems.{old_among, reason_after_newest}
use Rattle.marks.specs.Words.{marks_of}
use Rattle.marks.proofs.BlocksCode.{history_before}
use Rattle.marks.proofs.MarkSets.{its_mark}
use Rattle.medium.specs.Medium.{Observations}
use Rattle.volume.specs.declared.Advanced.{Advanced}
use Rattle.volume.specs.declared.Advanced.TheVariants.{Copied}
use Rattle.volume.specs.declared.Told.{Told}
use Rattle.volume.specs.declared.Told.TheVariants as told
use Rattle.volume.specs.declared.Volume.{Volume}
use Rattle.volume.specs.Answers.{copied_block, copied_part, block_copied, part_copied, reason_told}
use Rattle.volume.specs.Calls.{Outcome, refused, telling, advance_table, checkpoint_told, advancing, advance_effect, advance_outcome, address_reply}
use Rattle.volume.specs.Laws.{SoundFacts, RecordsCopy}
use Rattle.volume.specs.States.{history_of, mode_of, tally_of, with_growth, with_copy, checkpointed}
use Rattle.volume.proofs.Accepted.{AdvanceFacts, advance_accepted}
use Rattle.volume.proofs.Judged.{judged_cases}
use Rattle.volume.proofs.LookUpLaws.{is_open, reason_told_law}
use Rattle.volume.proofs.SoundLaws.{sound_facts, some_old}
use Rattle.volume.proofs.StatesSound.{copied_marks, copied_sound, checkpointed_sound}

-- ---- an advance that tells a copy

record CopyTold (v : Volume) (o : Observations) (x : ℕ) (part : Part) : Type 0 where
  advances : AdvanceFacts v o.byte_count
  is_next : next_block (tally_of v) ≡ some x
  its_part : part_moved v.rows (history_of v) x ≡ part

-- a checkpoint tells none
no_part : (v : Volume) → copied_part (checkpoint_told v) ≡ none
unfolding checkpoint_told copied_part
no_part v = cond_cases (λ (did : Advanced). copied_part did ≡ none) (eqb v.growing 0) (λ _. refl) (λ _. refl)

module _ (v : Volume) (o : Observations) (x : Block) (part : Part) (n : ℕ) where
  abbrev TellsCopy : (out : Outcome) → Type 0
  TellsCopy out = out.reply.answer ≡ Ok (told.Advanced (Copied x part) n)

  block_and_part : (a : Result Told Refusal) → a ≡ Ok (told.Advanced (Copied x part) n) → (block_copied a ≡ x.0) × (part_copied a ≡ some part)
  unfolding block_copied part_copied copied_block copied_part
  block_and_part a e = rw e (refl, refl)

  advancing_told : AdvanceFacts v o.byte_count → (next : Option ℕ) → next_block (tally_of v) ≡ next → TellsCopy (advancing v next o)
      → CopyTold v o x.0 part
  unfolding advancing telling block_copied part_copied copied_block copied_part
  advancing_told f none e told = absurd (none-ne-some part (sym (no_part (checkpointed v)) ∙ (block_and_part _ told).1))
  advancing_told f (some y) e told =
      let p = block_and_part _ told in
      record { advances = f; is_next = e ∙ ap some p.0; its_part = rw p.0 at (some-injective _ _ p.1) }

  copy_told : TellsCopy (advance_outcome v o) → CopyTold v o x.0 part
  unfolding advance_outcome advance_effect refused part_copied
  copy_told =
      judged_cases (λ (out : Outcome). TellsCopy out → CopyTold v o x.0 part) (advance_table v o.byte_count) (λ k. refused v k [])
      (advancing v (next_block (tally_of v)) o)
      (λ e. advancing_told (advance_accepted v o.byte_count e).0 (next_block (tally_of v)) refl)
      (λ _ told. absurd (none-ne-some part (block_and_part _ told).1))

-- ---- why a block is there that the newest growth moved

moved_reason : (s : ℕ) (h : List ℕ) → rising h ≡ true → 0 < old_count h → (x : ℕ) → moving s h x ≡ true
    → reason_of s h x ≡ MovedBy (length (earlier h)) (part_moved s h x)
unfolding change_of reason_after part_moved moving
moved_reason s h r g x m =
    let old = ltb x (old_count h * s) in
    let moves = moves_from (old_count h) (added_count h) (old_spot s h x) in
    reason_after_newest s h r g x ∙ rw (and_left old moves m, and_right old moves m)

-- all growths made its live spot
all_growths : (t : Tally) (x : ℕ) → moving t.rows t.counts x ≡ true → (is_running t.mode ≡ false) ⊎ (moved_blocks t x ≡ true)
    → growths_of t x ≡ t.counts
unfolding growths_of at_new_spot
all_growths t x m (inl e) = rw e
all_growths t x m (inr e) = rw (m, e) (cond_cases (λ (h : List ℕ). h ≡ t.counts) (is_running t.mode) (λ _. refl) (λ _. refl))

-- an old block is open, whether the growth runs or not
old_open : (t : Tally) (x : ℕ) → rising t.counts ≡ true → 0 < old_count t.counts → x < old_count t.counts * t.rows → x < open_blocks t
unfolding open_blocks
old_open t x r g h =
    cond_cases (λ (k : ℕ). x < k * t.rows) (is_running t.mode) (λ _. h)
    (λ _. omega (arith, h, old_among t.rows t.counts r g))

module _ (v : Volume) (o : Observations) (x : ℕ) (part : Part) (c : CopyTold v o x part) where
  moves : moving_in v.rows (history_of v) v.window x ≡ true
  unfolding moves_now tally_of
  moves = (next_some (tally_of v) x c.is_next).0

  moves_newest : moving v.rows (history_of v) x ≡ true
  unfolding moving_in
  moves_newest = and_left (moving v.rows (history_of v) x) (eqb (window_of v.rows (history_of v) x) v.window) moves

  in_window : window_of v.rows (history_of v) x ≡ v.window
  unfolding moving_in
  in_window =
      eqb-true (window_of v.rows (history_of v) x) v.window
      (and_right (moving v.rows (history_of v) x) (eqb (window_of v.rows (history_of v) x) v.window) moves)

  facts : SoundFacts v
  facts = sound_facts v c.advances.is_sound

  old : 0 < old_count (history_of v)
  old = some_old v c.advances.is_sound c.advances.is_growing

  newest_number : length (earlier (history_of v)) ≡ v.growths
  unfolding history_of
  newest_number =
      let t = v.growths in
      let some : 0 < t = (facts.while_growing c.advances.is_growing).has_growth in
      rw (← history_before t v.counts some) (history_length (t - 1) v.counts ∙ omega arith)

  later_told : (u : Volume) → RecordsCopy v u x → reason_told (address_reply u x).answer ≡ MovedBy v.growths part
  unfolding tally_of live_reason_of
  later_told u r =
      let s = r.same_rows in
      let h = r.same_history in
      let rises : rising (history_of u) ≡ true = rw h facts.limits.rise in
      let below : x < old_count (history_of u) * u.rows = rw (h, s) (moving_in_old v.rows (history_of v) v.window x moves) in
      let found = is_open u x r.is_sound (old_open (tally_of u) x rises (rw h old) below) in
      reason_told_law u x found
      ∙ rw (all_growths (tally_of u) x (rw (h, s) moves_newest) r.recorded, h, s)
      (moved_reason v.rows (history_of v) facts.limits.rise old x moves_newest ∙ rw (newest_number, c.its_part))

  -- its copied mark is set
  mark_set : marked_blocks v.rows (history_of v) v.window (marks_of (with_copy v x).copied) x ≡ true
  unfolding marked_blocks
  mark_set =
      let j = mark_of v.rows (history_of v) x in
      let k = (its_mark v.rows (history_of v) facts.limits old v.window x moves).0 in
      and_both moves (rw (copied_marks v x) (get_or-set_same (marks_of v.copied) j true false (omega (arith, k, bits_length 64 v.copied))))

  abbrev Recorded : (u : Volume) → Type 0
  Recorded u =
      (u.rows ≡ v.rows) × (history_of u ≡ history_of v) × ((is_running (tally_of u).mode ≡ false) ⊎ (moved_blocks (tally_of u) x ≡ true))

  checkpoint_records : Recorded (checkpointed (with_copy v x))
  unfolding checkpointed with_copy with_growth tally_of history_of mode_of moved_blocks recorded_by
  checkpoint_records =
      let t = tally_of (with_copy v x) in
      cond_cases Recorded (window_full t)
      (λ _.
      cond_cases Recorded (last_window t) (λ _. (refl, refl, inl refl))
      (λ _. (refl, refl, inr (rw (in_window, lt-ltb v.window (suc v.window) (omega arith))))))
      (λ _. (refl, refl, inr (rw (in_window, le-ltb v.window v.window (omega arith), eq-eqb v.window v.window refl) mark_set)))

  recorded_next : RecordsCopy v (checkpointed (with_copy v x)) x
  recorded_next =
      let a = c.advances in
      let r = checkpoint_records in
      record {
        is_sound = checkpointed_sound (with_copy v x) (copied_sound v x a.is_sound a.is_growing (next_some (tally_of v) x c.is_next).0) (unfold with_copy with_growth in a.is_growing);
        same_rows = r.0;
        same_history = r.1;
        recorded = r.2;
      }

pub part_told_law : (v u : Volume) (o : Observations) (x : Block) (part : Part) (n : ℕ) → (advance_outcome v o).reply.answer ≡ Ok (told.Advanced (Copied x part) n)
    → RecordsCopy v u x.0 → reason_told (address_reply u x.0).answer ≡ MovedBy v.growths part
part_told_law v u o x part n told = later_told v o x.0 part (copy_told v o x part n told) u

pub part_recorded : (v : Volume) (o : Observations) (x : Block) (part : Part) (n : ℕ) → (advance_outcome v o).reply.answer ≡ Ok (told.Advanced (Copied x part) n)
    → RecordsCopy v (checkpointed (with_copy v x.0)) x.0
part_recorded v o x part n told = recorded_next v o x.0 part (copy_told v o x part n told)
