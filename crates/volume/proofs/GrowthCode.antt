-- What the code of copy, checkpoint and advance needs.
use Prim.Native.Nat.{ℕ, ◌+◌, ◌≤◌, ◌<◌}
use mathlib.Core.Path.{◌≡◌, refl, sym, ◌∙◌}
use mathlib.Core.Bool.{Bool, true, false, cond, not, ◌&&◌}
use mathlib.Core.List.{List, ◌∷◌, ◌++◌}
use mathlib.Core.Logic.{◌≢◌}
use mathlib.Core.Option.{Option, none, some}
use native.Mathlib.Numerals.{add-one}
use native.Mathlib.Omega.{arith}
use lib.Dec.{eqb, leb}
use borrow.Author.Tests.{le-leb, lt-leb, le-ltb, eq-eqb, ne_eqb}
use Rattle.std.specs.Prelude.{Ok, Some, None}
use Rattle.base.specs.declared.Refusal.{Refusal}
use Rattle.base.specs.Refusals.{refusal}
use Rattle.base.proofs.Booleans.{and_left}
use Rattle.base.proofs.Refusals.{passed_first}
use Rattle.layout.specs.declared.Block.{Block}
use Rattle.layout.specs.declared.growth.GrowthDisks.{GrowthDisks}
use Rattle.layout.specs.declared.Part.{Part}
use Rattle.layout.specs.declared.Spot.{Spot}
use Rattle.layout.specs.History.{old_count, added_count, spot_of}
use Rattle.layout.specs.Limits.{most_rows}
use Rattle.layout.specs.Tally.{open_blocks, calls_left_of, moves_now, source_of, target_of, next_block, window_full, last_window}
use Rattle.layout.specs.Windows.{windows, old_spot, moving, window_of, moving_in, mark_of, marked_blocks, part_moved, all_copied}
use Rattle.layout.proofs.Theorems.{some_added, marks_fit}
use Rattle.layout.proofs.WindowsCode.{windows_most}
use Rattle.marks.specs.declared.NextCopy.{NextCopy}
use Rattle.marks.specs.Marks.{mark_count, as_next_copy}
use Rattle.marks.specs.Words.{marks_of}
use Rattle.marks.proofs.MarkSets.{marks_law}
use Rattle.medium.specs.declared.Geometry.{Geometry}
use Rattle.medium.specs.Medium.{most_size, bytes_needed, Observations, observe, record_store, block_store, apply, Inside}
use Rattle.volume.specs.declared.Advanced.{Advanced}
use Rattle.volume.specs.declared.Advanced.TheVariants.{Copied}
use Rattle.volume.specs.declared.Reply.{Reply}
use Rattle.volume.specs.declared.Told.{Told}
use Rattle.volume.specs.declared.Told.TheVariants as told
use Rattle.volume.specs.declared.Volume.{Volume}
use Rattle.volume.specs.Calls.{Outcome, telling, is_none, too_short, block_rows, record_rows, copy_table, copy_store, nothing_to_record, checkpoint_table, checkpoint_store, advance_table, growth_table, checkpoint_told, advancing, advance_effect}
use Rattle.volume.specs.Records.{record_of}
use Rattle.volume.specs.Sound.{sound}
use Rattle.volume.specs.States.{geometry, history_of, disks, tally_of, with_pending, record_pending, block_pending, pending_with, with_growth, with_mark, with_copy, checkpointed}
use Rattle.volume.proofs.Accepted.{AdvanceFacts, CopyFacts}
use Rattle.volume.proofs.CallsCode.{pending_stored, tell_made}
use Rattle.volume.proofs.CopyLaws.{moves_open}
use Rattle.volume.proofs.Judged.{Tells, tells_before}
use Rattle.volume.proofs.LiveCode.{counts_now, history_limits}
use Rattle.volume.proofs.SoundLaws.{sound_facts, some_old}
use Rattle.volume.proofs.StoresFit.{source_inside, copy_inside}

-- the copied blocks, as the code tests them
abbrev marked_now : (v : Volume) (x : ℕ) → Bool
marked_now v = marked_blocks v.rows (counts_now v) v.window (marks_of v.copied)

-- whether x is a moving block of window w
moves_told_law : (v : Volume) (x : ℕ) → moving_in v.rows (counts_now v) v.window x ≡ moves_now (tally_of v) x
unfolding moves_now tally_of history_of
moves_told_law v x = refl

-- ---- refusals: the tables of a copy, a checkpoint and an advance are the tests that they share with more behind them

module _ (v : Volume) (len : ℕ) where
  -- refused by those
  module _ (r : Refusal) (f : Tells (refusal (growth_table v len)) r) where
    pub advance_refused : Tells (refusal (advance_table v len)) r
    unfolding advance_table
    advance_refused = tells_before (growth_table v len) _ r f

    pub checkpoint_refused : Tells (refusal (checkpoint_table v len)) r
    unfolding checkpoint_table
    checkpoint_refused = tells_before (growth_table v len) _ r f

    pub copy_refused : (x : ℕ) → Tells (refusal (copy_table v x len)) r
    unfolding copy_table
    copy_refused x = tells_before (growth_table v len) _ r f

  -- what is left to test
  module _ (h : refusal (growth_table v len) ≡ 0) where
    growth_passed : (table : List (ℕ × Bool)) → refusal (growth_table v len ++ table) ≡ refusal table
    growth_passed table = passed_first (growth_table v len) table refl h

    pub checkpoint_left : (kept : Bool) → kept ≡ nothing_to_record v
        → cond kept 12 (refusal (record_rows v)) ≡ refusal (checkpoint_table v len)
    unfolding checkpoint_table refusal
    checkpoint_left kept f = rw f (sym (growth_passed ((12, nothing_to_record v) ∷ record_rows v)))

    copy_tests : (x : ℕ)
        → refusal (copy_table v x len)
        ≡ cond (leb (open_blocks (tally_of v)) x) 3 (cond (not (moves_now (tally_of v) x)) 10 (cond ((tally_of v).copied x) 11 (refusal (block_rows v))))
    unfolding copy_table refusal
    copy_tests x =
        let t = tally_of v in
        growth_passed ((3, leb (open_blocks t) x) ∷ (10, not (moves_now t x)) ∷ (11, t.copied x) ∷ block_rows v)

    pub copy_not_open : (x : ℕ) → open_blocks (tally_of v) ≤ x → 3 ≡ refusal (copy_table v x len)
    copy_not_open x a = sym (copy_tests x ∙ simp (le-leb (open_blocks (tally_of v)) x a))

    module _ (x : ℕ) (a : x < open_blocks (tally_of v)) (now : Bool) (b : now ≡ moving_in v.rows (counts_now v) v.window x) where
      pub copy_not_moving : now ≡ false → 10 ≡ refusal (copy_table v x len)
      copy_not_moving f = sym (copy_tests x ∙ simp (lt-leb (open_blocks (tally_of v)) x a, ← moves_told_law v x, ← b, f))

      pub copy_left : now ≡ true → (copied : Bool) → copied ≡ marked_now v x
          → cond copied 11 (refusal (block_rows v)) ≡ refusal (copy_table v x len)
      unfolding tally_of history_of
      copy_left f copied d = sym (copy_tests x ∙ simp (lt-leb (open_blocks (tally_of v)) x a, sym (moves_told_law v x) ∙ sym b ∙ f, d))

-- what is left to test of an advance, by its step
module _ (v : Volume) (len : ℕ) (f : AdvanceFacts v len) where
  advance_left : refusal (advance_table v len)
      ≡ cond v.pending.records 19 (cond (is_none (next_block (tally_of v)) && v.pending.blocks) 18 0)
  unfolding advance_table refusal too_short
  advance_left = simp (f.is_sound, le-ltb _ _ f.room, ne_eqb _ _ f.is_growing)

  pub record_due : next_block (tally_of v) ≡ none → refusal (record_rows v) ≡ refusal (advance_table v len)
  unfolding refusal
  record_due e = sym (advance_left ∙ rw e)

  pub block_due : (x : ℕ) → next_block (tally_of v) ≡ some x → refusal (block_rows v) ≡ refusal (advance_table v len)
  unfolding refusal
  block_due x e = sym (advance_left ∙ rw e)

-- ---- a block that is copied

-- what storing a copy asks, as facts
pub copy_facts : (v : Volume) (x len : ℕ) → (sound v ≡ true) × (v.growing ≢ 0)
    → (bytes_needed (geometry v) (disks v) ≤ len) × ((moves_now (tally_of v) x ≡ true) × ((tally_of v).copied x ≡ false)) → CopyFacts v x len
copy_facts v x len e f =
    record {
      advances = record { is_sound = e.0; room = f.0; is_growing = e.1 };
      block_open = moves_open v x e.1 f.1.0;
      moves = f.1.0;
      not_copied = f.1.1;
    }

pub now_moving : (v : Volume) (x : ℕ) → moves_now (tally_of v) x ≡ true → moving v.rows (counts_now v) x ≡ true
unfolding moves_now moving_in tally_of history_of
now_moving v x m = and_left (moving v.rows (counts_now v) x) (eqb (window_of v.rows (counts_now v) x) v.window) m

module _ (v : Volume) (x len : ℕ) (f : CopyFacts v x len) where
  -- what copying it from its old spot to its new one requires
  pub copy_asks : (k : Geometry) → k ≡ geometry v
      → (from to : Spot) → from ≡ old_spot v.rows (history_of v) x → to ≡ spot_of v.rows (counts_now v) x
      → ((0 < k.size) × (k.size ≤ most_size)) × (Inside k len from × Inside k len to)
  unfolding geometry source_of target_of tally_of history_of
  copy_asks k same from to a b =
      let g = f.advances in
      let size = sound_facts v g.is_sound in
      rw (same, a, b) (
        (omega (arith, size.size_least), size.size_most),
        (
          source_inside v x len f,
          copy_inside v x len g.is_sound g.is_growing f.moves g.room,
        ),
      )

pub copy_stored : (v : Volume) (x : ℕ) (k : Geometry) → k ≡ geometry v
    → (from to : Spot) → from ≡ old_spot v.rows (history_of v) x → to ≡ spot_of v.rows (counts_now v) x
    → (m after : List ℕ) → after ≡ apply k (block_store to ((observe m).bytes_at k from)) m
    → after ≡ apply (geometry v) (copy_store v x (observe m)) m
unfolding copy_store source_of target_of tally_of history_of
copy_stored v x k same from to a b m after made = rw (same, a, b) at made

-- ---- the state with a block copied, by its mark

pub copied_at : (v : Volume) (x j : ℕ) → j ≡ mark_of v.rows (history_of v) x → with_mark v j ≡ with_copy v x
unfolding with_copy
copied_at v x j e = rw e

pub copied_asks : (v : Volume) (x len : ℕ) → CopyFacts v x len → (j : ℕ) → j ≡ mark_of v.rows (history_of v) x → j < mark_count
unfolding history_of
copied_asks v x len f j e =
    let a = f.advances in
    let l = history_limits v a.is_sound in
    let o = some_old v a.is_sound a.is_growing in
    let b = (marks_law v.rows (counts_now v) l o).mark_within x (now_moving v x f.moves) in
    rw e (omega (arith, b, marks_fit v.rows (counts_now v) l o))

-- ---- the state that a checkpoint records

module _ (v : Volume) where
  -- whether w is full and the last window
  full_told : all_copied v.rows (counts_now v) v.window (marked_now v) ≡ window_full (tally_of v)
  unfolding window_full all_copied moves_now tally_of history_of
  full_told = refl

  last_told : (g : GrowthDisks) → g.old ≡ old_count (counts_now v) → g.added ≡ added_count (counts_now v) → (r : ℕ) → r ≡ windows g.old g.added v.rows
      → last_window (tally_of v) ≡ eqb (v.window + 1) r
  unfolding last_window tally_of history_of
  last_told g a c r b = rw (b, a, c, add-one)

  module _ (full : Bool) (a : full ≡ all_copied v.rows (counts_now v) v.window (marked_now v)) where
    pub marks_recorded : full ≡ false → with_growth v v.growths v.counts v.growing v.window v.copied v.copied ≡ checkpointed v
    unfolding checkpointed
    marks_recorded f = rw (← full_told, ← a, f)

    module _ (f : full ≡ true) (g : GrowthDisks) (b : g.old ≡ old_count (counts_now v)) (c : g.added ≡ added_count (counts_now v)) (r : ℕ) (d : r ≡ windows g.old g.added v.rows) where
      pub growth_finished : v.window + 1 ≡ r → with_growth v v.growths v.counts 0 0 0 0 ≡ checkpointed v
      unfolding checkpointed
      growth_finished l = rw (← full_told, ← a, f, last_told g b c r d, eq-eqb (v.window + 1) r l)

      pub window_finished : v.window + 1 ≢ r
          → with_growth v v.growths v.counts v.growing (v.window + 1) 0 0 ≡ checkpointed v
      unfolding checkpointed
      window_finished l = rw (← full_told, ← a, f, last_told g b c r d, ne_eqb (v.window + 1) r l, add-one)

-- w of a growth that runs does not wrap
pub window_most : (v : Volume) → sound v ≡ true → v.growing ≢ 0 → v.window < most_rows
window_most v e runs =
    let f = sound_facts v e in
    let o = some_old v e runs in
    let k = windows_most (old_count (history_of v)) (added_count (history_of v)) v.rows (some_added v.rows (history_of v) f.limits.rise o) in
    omega (arith, k, (f.while_growing runs).window_below, f.limits.rows_most)

-- ---- what the two arms of a match on the block to copy next know

pub next_none : (s : ℕ) (h : List ℕ) (found : Option ℕ) → as_next_copy s h found ≡ None → found ≡ none
unfolding as_next_copy
next_none s h none e = refl
next_none s h (some x) e = cc

pub next_some : (s : ℕ) (h : List ℕ) (found : Option ℕ) (next : NextCopy) → as_next_copy s h found ≡ Some next
    → (found ≡ some next.block.0) × (next.part ≡ part_moved s h next.block.0) × (next.from ≡ old_spot s h next.block.0) × (next.mark ≡ mark_of s h next.block.0)
unfolding as_next_copy
next_some s h none next e = (cc, cc, cc, cc)
next_some s h (some y) next e =
    let f : next ≡ record { block = record { 0 = y }; part = part_moved s h y; from = old_spot s h y; mark = mark_of s h y } = cc in
    rw f (refl, refl, refl, refl)

-- the reply and the store of an advance
module _ (v : Volume) (o : Observations) where
  abbrev advanced : Outcome
  advanced = advance_effect v o

  module _ (e : next_block (tally_of v) ≡ none) (w : Volume) (n : w ≡ checkpointed v) where
    records : advanced ≡ telling (checkpointed v) (checkpoint_told (checkpointed v)) (checkpoint_store v)
    unfolding advance_effect advancing
    records = rw e

    pub records_told : (u : Volume) → u ≡ with_pending w (record_pending w.pending) → (did : Advanced) → did ≡ checkpoint_told w
        → (q : Reply Told) → q ≡ record { state = u; answer = Ok (told.Advanced did (calls_left_of (tally_of u))) } → q ≡ advanced.reply
    unfolding pending_with checkpoint_store
    records_told u m did known q made =
        rw records (tell_made (checkpointed v) w u (checkpoint_store v) n m q (checkpoint_told (checkpointed v)) (rw (known, n) at made))

    pub records_stored : (u : Volume) → u ≡ with_pending w (record_pending w.pending) → (g : Geometry) (before after : List ℕ)
        → after ≡ apply (geometry u) (record_store (record_of u)) before → after ≡ apply g advanced.store before
    unfolding telling checkpoint_store pending_with
    records_stored u m g before after made =
        rw records (pending_stored (checkpointed v) w u (checkpoint_store v) n m g before after made)

  module _ (x : Block) (part : Part) (e : next_block (tally_of v) ≡ some x.0) (p : part ≡ part_moved v.rows (history_of v) x.0) where
    copies : advanced ≡ telling (with_copy v x.0) (Copied x part) (copy_store v x.0 o)
    unfolding advance_effect advancing
    copies = rw (e, p)

    pub copies_told : (w : Volume) → w ≡ with_copy v x.0 → (u : Volume) → u ≡ with_pending w (block_pending w.pending)
        → (q : Reply Told) → q ≡ record { state = u; answer = Ok (told.Advanced (Copied x part) (calls_left_of (tally_of u))) } → q ≡ advanced.reply
    unfolding pending_with copy_store
    copies_told w n u m q made = rw copies (tell_made (with_copy v x.0) w u (copy_store v x.0 o) n m q (Copied x part) made)

    pub copies_stored : (g : Geometry) (m after : List ℕ) → after ≡ apply g (copy_store v x.0 o) m → after ≡ apply g advanced.store m
    unfolding telling
    copies_stored g m after made = rw copies made
