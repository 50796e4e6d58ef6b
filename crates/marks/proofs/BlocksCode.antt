-- What the code that looks for a block of a growth under way meets.
use Prim.Native.Nat.{ℕ, zero, suc, ◌+◌, ◌-◌, ◌*◌, ◌≤◌, ◌<◌}
use Rattle.std.specs.Prelude.{Some, None}
use mathlib.Core.Path.{◌≡◌, refl, sym, ◌∙◌, ap}
use mathlib.Core.Bool.{Bool, true, false, not, ◌&&◌, ◌||◌}
use mathlib.Core.List.{List}
use native.Mathlib.Omega.{arith}
use lib.Dec.{eqb, ltb}
use lib.ListN.{length, get_or}
use borrow.Author.Tests.{lt-ltb, le-ltb}
use Rattle.base.proofs.Booleans.{and_right, by_test}
use Rattle.layout.specs.declared.Address.{Address}
use Rattle.layout.specs.declared.Block.{Block}
use Rattle.layout.specs.declared.growth.GrowthDisks.{GrowthDisks}
use Rattle.layout.specs.declared.Spot.{Spot}
use Rattle.layout.specs.Growth.{moves_from, change_of, added_index, spot_before}
use Rattle.layout.specs.History.{Within, history, disk_count, earlier, old_count, added_count, rising, spot_of, block_at}
use Rattle.layout.specs.Limits.{Limits, Grows}
use Rattle.layout.specs.Live.{at_new_spot, live_spot, live_block}
use Rattle.layout.specs.Reasons.{reason_after, address_of}
use Rattle.layout.specs.Tally.{recorded_by}
use Rattle.layout.specs.Windows.{window_of_row, mark_of_spot, old_spot, moving, window_of, moving_in, mark_of, marked_blocks}
use Rattle.layout.proofs.HistoryCode.{history_disks, limits_at, newest_old, back_added, back_older}
use Rattle.layout.proofs.LiveMoves.{moved_more, moves_there}
use Rattle.layout.proofs.MarkSpots.{mark_below}
use Rattle.layout.proofs.Theorems.{disks_sum, spots_and_blocks, spot_after_newest, reason_after_newest}
use Rattle.layout.proofs.WindowsCode.{marks_most}
use Rattle.marks.specs.Marks.{mark_count, moves_at, marked_at, moved_at, live_from, moved_address, address_from, as_live_block, difference}
use Rattle.marks.proofs.MarkWords.{difference_at}

-- ---- the mark of a moving block

pub mark_fits : (m n : ℕ) (p : Spot) → Grows m n → (p.disk < m) × (moves_from m n p ≡ true) → mark_of_spot m n p < mark_count
mark_fits m n p g k = omega (arith, mark_below m n g.old g.added p k.0 k.1, marks_most m n g.most)

-- ---- before the newest growth

pub history_before : (t : ℕ) (l : List ℕ) → 0 < t → history (t - 1) l ≡ earlier (history t l)
unfolding history earlier
history_before zero l o = absurd (omega arith)
history_before (suc j) l o = let e : suc j - 1 ≡ j = omega arith in rw e

module _ (s t : ℕ) (l : List ℕ) (a : Limits s (history t l)) (o : 0 < t) where
  pub disks_before : disk_count (history (t - 1) l) ≡ old_count (history t l)
  unfolding old_count
  disks_before = ap disk_count (history_before t l o)

  pub limits_before : Limits s (history (t - 1) l)
  limits_before = limits_at s t (t - 1) l a (omega arith)

  pub block_before : (x : ℕ) → x < old_count (history t l) * s → x < disk_count (history (t - 1) l) * s
  block_before x h = rw disks_before h

  pub spot_before_law : (p : Spot) → Within s (history t l) p → p.disk < old_count (history t l) → Within s (history (t - 1) l) p
  spot_before_law p w h = record { disk = rw disks_before h; row = w.row }

-- ---- the newest growth, which the code has read

pub record ReadGrowth (s t : ℕ) (l : List ℕ) (g : GrowthDisks) : Type 0 where
  pub limits : Limits s (history t l)
  pub grown : 0 < t
  pub old_read : g.old ≡ old_count (history t l)
  pub added_read : g.added ≡ added_count (history t l)

module _ {s t : ℕ} {l : List ℕ} {g : GrowthDisks} (r : ReadGrowth s t l g) where
  pub some_old : 0 < old_count (history t l)
  some_old = newest_old s t l r.grown r.limits

  -- what finding the old spot of block x asks
  pub spot_asks : {x : ℕ} → x < g.old * s → Limits s (history (t - 1) l) × (x < disk_count (history (t - 1) l) * s)
  spot_asks h =
      (limits_before s t l r.limits r.grown, block_before s t l r.limits r.grown _ (rw r.old_read at h))

-- ---- the old spot of block x, which the code has found

module _ {s t : ℕ} {l : List ℕ} {g : GrowthDisks} (r : ReadGrowth s t l g) {x : ℕ} {p : Spot} (h : x < g.old * s)
    (e : p ≡ spot_of s (history (t - 1) l) x) where
  pub on_old_disk : p.disk < g.old
  on_old_disk =
      let a = spot_asks r h in
      let w = (spots_and_blocks s (history (t - 1) l) a.0.rise).spot_within x a.1 in
      rw (e, r.old_read, ← disks_before s t l r.limits r.grown) w.disk

  pub spot_found : p ≡ old_spot s (history t l) x
  unfolding old_spot
  spot_found = e ∙ ap (λ (k : List ℕ). spot_of s k x) (history_before t l r.grown)

-- ---- what marks say of an old block, read at its old spot p

-- copied and not recorded: one test of the marks that are in one set and not in the other
both_told : (a b g : Bool) → (a && (b && not g)) ≡ ((a && b) && not (a && g))
both_told true b g = refl
both_told false b g = refl

pub waiting_told : (m n w : ℕ) (copied recorded : List Bool) (p : Spot) → Grows m n → p.disk < m → (left : List Bool) → left ≡ difference copied recorded
    → (r : Bool) → r ≡ marked_at m n w left p → r ≡ (marked_at m n w copied p && not (marked_at m n w recorded p))
unfolding marked_at moves_at
waiting_told m n w copied recorded p g h left e r f =
    by_test (moves_from m n p)
    (λ k.
    let d : get_or left (mark_of_spot m n p) false ≡ (get_or copied (mark_of_spot m n p) false && not (get_or recorded (mark_of_spot m n p) false)) =
    rw e (difference_at copied recorded (mark_of_spot m n p) (mark_fits m n p g (h, k))) in
    rw (f, d) (both_told (moves_at m n w p) (get_or copied (mark_of_spot m n p) false) (get_or recorded (mark_of_spot m n p) false)))
    (λ k. rw (f, k))

-- ---- and at the old spot of block x

-- a marked block is one of window w
window_twice : (a l e g : Bool) → (a && (l || ((a && e) && g))) ≡ (a && (l || (e && ((a && e) && g))))
window_twice false l e g = refl
window_twice true l true g = refl
window_twice true l false g = refl

module _ (s : ℕ) (h : List ℕ) (w x : ℕ) (k : x < old_count h * s) where
  pub moves_at_spot : moves_at (old_count h) (added_count h) w (old_spot s h x) ≡ moving_in s h w x
  unfolding moves_at moving_in moving window_of
  moves_at_spot = rw (lt-ltb x (old_count h * s) k)

  pub marked_at_spot : (marks : List Bool) → marked_at (old_count h) (added_count h) w marks (old_spot s h x) ≡ marked_blocks s h w marks x
  unfolding marked_at marked_blocks mark_of
  marked_at_spot marks = rw moves_at_spot

  moved_at_spot : (marks : List Bool)
      → moved_at (old_count h) (added_count h) w marks (old_spot s h x) ≡ at_new_spot s h (recorded_by s h w (marked_blocks s h w marks)) x
  unfolding moved_at marked_at moves_at at_new_spot recorded_by marked_blocks moving_in moving window_of mark_of
  moved_at_spot marks =
      let m = old_count h in
      let n = added_count h in
      let p = old_spot s h x in
      rw (lt-ltb x (old_count h * s) k)
      (window_twice (moves_from m n p) (ltb (window_of_row m n p.row) w) (eqb (window_of_row m n p.row) w) (get_or marks (mark_of_spot m n p) false))

-- ---- live spots and blocks

-- the live spot, from the old one
pub live_from_spot : (s : ℕ) (h : List ℕ) (w x : ℕ) → rising h ≡ true → 0 < old_count h → x < old_count h * s → (marks : List Bool)
    → live_from (old_count h) (added_count h) s w marks x (old_spot s h x) ≡ live_spot s h (recorded_by s h w (marked_blocks s h w marks)) x
unfolding live_from live_spot
live_from_spot s h w x r g k marks = rw (moved_at_spot s h w x k marks, ← spot_after_newest s h r g x)

-- why it is there, the reason before the growth or that it moved, and how often it was moved, as often as before or once more
module _ (s : ℕ) (h : List ℕ) (w x k : ℕ) (below : x < old_count h * s) (marks : List Bool) where
  abbrev newest : (old : Address) → Address
  newest old = address_from (old_count h) (added_count h) s k w marks x old

  abbrev moved : Bool
  moved = at_new_spot s h (recorded_by s h w (marked_blocks s h w marks)) x

  moved_told : moved_at (old_count h) (added_count h) w marks (spot_of s (earlier h) x) ≡ moved
  unfolding old_spot
  moved_told = moved_at_spot s h w x below marks

  pub address_stays : moved ≡ false → newest (address_of s (earlier h) x) ≡ address_of s (earlier h) x
  unfolding address_from address_of
  address_stays e = rw (moved_told, e)

  moving_then : moved ≡ true → moving s h x ≡ true
  moving_then = moves_there s h (recorded_by s h w (marked_blocks s h w marks)) x

  moves_then : moved ≡ true → moves_from (old_count h) (added_count h) (spot_of s (earlier h) x) ≡ true
  unfolding moving old_spot
  moves_then e = and_right (ltb x (old_count h * s)) _ (moving_then e)

  pub address_moved : rising h ≡ true → 0 < old_count h → k ≡ length (earlier h) → moved ≡ true → newest (address_of s (earlier h) x) ≡ address_of s h x
  unfolding address_from moved_address address_of reason_after change_of old_spot
  address_moved r g q e =
      rw (moved_told, e, q, spot_after_newest s h r g x, reason_after_newest s h r g x, lt-ltb x (old_count h * s) below, moves_then e, moved_more s h x (moving_then e))

-- ---- spots of old blocks

-- the block that had an old spot, and its spot
module _ (s t : ℕ) (l : List ℕ) (a : Limits s (history t l)) (o : 0 < t) (p : Spot) (w : Within s (history (t - 1) l) p) where
  block_of_old : block_at s (history (t - 1) l) p < old_count (history t l) * s
  block_of_old =
      rw (← disks_before s t l a o) ((spots_and_blocks s (history (t - 1) l) (limits_before s t l a o).rise).block_within p w)

  spot_of_old : old_spot s (history t l) (block_at s (history (t - 1) l) p) ≡ p
  unfolding old_spot
  spot_of_old =
      rw (← history_before t l o) ((spots_and_blocks s (history (t - 1) l) (limits_before s t l a o).rise).spot_of_block p w)

module _ {s t : ℕ} {l : List ℕ} {g : GrowthDisks} (r : ReadGrowth s t l g) where
  -- whether the block that had an old spot has left it
  pub left_told : (w : ℕ) (marks : List Bool) (p : Spot) → Within s (history (t - 1) l) p
      → moved_at g.old g.added w marks p
      ≡ at_new_spot s (history t l) (recorded_by s (history t l) w (marked_blocks s (history t l) w marks)) (block_at s (history (t - 1) l) p)
  left_told w marks p k =
      let a = r.limits in
      let o = r.grown in
      rw (r.old_read, r.added_read)
      (rw (spot_of_old s t l a o p k) at (moved_at_spot s (history t l) w (block_at s (history (t - 1) l) p) (block_of_old s t l a o p k) marks))

  -- a spot after the growth, and one growth back
  old_then : g.old ≡ get_or l (t - 1) 0
  old_then = r.old_read ∙ sym (disks_before s t l r.limits r.grown) ∙ history_disks (t - 1) l

  added_then : g.added ≡ get_or l (t - 1 + 1) 0 - get_or l (t - 1) 0
  unfolding added_count
  added_then =
      let o = r.grown in
      let k : t - 1 + 1 ≡ t = omega arith in
      rw k (r.added_read ∙ rw (history_disks t l, ← r.old_read, old_then))

  module _ (p : Spot) (k : Within s (history t l) p) where
    pub on_some_disk : p.disk < g.old + g.added
    on_some_disk = rw (r.old_read, r.added_read, disks_sum s (history t l) r.limits.rise (some_old r)) k.disk

    module _ (i : ℕ) (e : i ≡ added_index g.old g.added p.disk p.row.0) where
      step : t ≡ suc (t - 1)
      step = let o = r.grown in omega arith

      -- a block that the growth added, which is not open
      pub added_there : i < g.added → old_count (history t l) * s ≤ block_at s (history t l) p
      added_there h =
          let b = back_added s t (t - 1) t l r.limits step (omega arith) g.old g.added old_then added_then p p.row.0 k refl i e h in
          rw (← r.old_read) (omega (arith, b))

      -- an old one, at its spot before
      pub before_there : g.added ≤ i → (q : Spot) → q ≡ spot_before g.old g.added p
          → Within s (history (t - 1) l) q × (block_at s (history (t - 1) l) q ≡ block_at s (history t l) p)
      before_there h q f =
          let b = back_older s t (t - 1) t l r.limits step (omega arith) g.old g.added old_then added_then p p.row.0 k refl i e q h f in
          (b.0, b.2)

pub added_unmoved : (s : ℕ) (h : List ℕ) (moved : ℕ → Bool) (x : ℕ) → old_count h * s ≤ x → false ≡ at_new_spot s h moved x
unfolding at_new_spot moving
added_unmoved s h moved x k = rw (le-ltb _ _ k)

-- at a spot of the old disks lives its block of before the growth, unless that is at its new spot
module _ (s t : ℕ) (l : List ℕ) (o : 0 < t) (moved : ℕ → Bool) (p : Spot) (x : Block) (h : p.disk < old_count (history t l))
    (e : x.0 ≡ block_at s (history (t - 1) l) p) (r : Bool) (f : r ≡ at_new_spot s (history t l) moved x.0) where
  pub gone_from_old : r ≡ true → None ≡ as_live_block (live_block s (history t l) moved p)
  unfolding live_block as_live_block
  gone_from_old q = rw (lt-ltb _ _ h, ← history_before t l o, ← e, ← f, q)

  pub lives_on_old : r ≡ false → Some x ≡ as_live_block (live_block s (history t l) moved p)
  unfolding live_block as_live_block
  lives_on_old q = rw (lt-ltb _ _ h, ← history_before t l o, ← e, ← f, q)

-- at one of the added disks lives its block of after the growth, if that is at its new spot
module _ (s : ℕ) (h : List ℕ) (moved : ℕ → Bool) (p : Spot) (x : Block) (k : old_count h ≤ p.disk) (e : x.0 ≡ block_at s h p)
    (r : Bool) (f : r ≡ at_new_spot s h moved x.0) where
  pub lives_on_added : r ≡ true → Some x ≡ as_live_block (live_block s h moved p)
  unfolding live_block as_live_block
  lives_on_added q = rw (le-ltb _ _ k, ← e, ← f, q)

  pub not_yet_on_added : r ≡ false → None ≡ as_live_block (live_block s h moved p)
  unfolding live_block as_live_block
  not_yet_on_added q = rw (le-ltb _ _ k, ← e, ← f, q)
