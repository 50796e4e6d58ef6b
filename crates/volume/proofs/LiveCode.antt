-- What the code that looks up open blocks, live spots and calls left of a state meets, at rest and while a growth runs.
use Prim.Native.Nat.{ℕ, ◌-◌, ◌*◌, ◌≤◌, ◌<◌, ◌^◌}
use mathlib.Core.Path.{◌≡◌, refl, sym, ap, ◌∙◌}
use mathlib.Core.Bool.{Bool, true, false, cond, not, ◌&&◌}
use mathlib.Core.List.{List}
use mathlib.Core.Logic.{◌≢◌, ◌⊎◌, inl, inr}
use native.Mathlib.Nat.{mul-le-mul}
use native.Mathlib.Decide.{ℕ_discrete}
use native.Mathlib.Omega.{arith}
use lib.Dec.{eqb, ltb}
use lib.ListN.{length, get_or}
use borrow.Author.Tests.{eq-eqb, ne_eqb}
use Rattle.base.proofs.Booleans.{and_left, by_test}
use Rattle.layout.specs.declared.Address.{Address}
use Rattle.layout.specs.declared.Block.{Block}
use Rattle.layout.specs.declared.growth.GrowthDisks.{GrowthDisks}
use Rattle.layout.specs.declared.Spot.{Spot}
use Rattle.layout.specs.Growth.{moves_from, spot_after}
use Rattle.layout.specs.History.{history, disk_count, earlier, old_count, added_count, spot_of, block_at}
use Rattle.layout.specs.Limits.{Limits, most_disks, most_growths}
use Rattle.layout.specs.Live.{at_new_spot, live_spot, live_block}
use Rattle.layout.specs.Reasons.{address_of}
use Rattle.layout.specs.Tally.{not_growing, growing, open_blocks, recorded_by, moved_blocks, live_spot_of, live_block_of, growths_of, live_reason_of, live_move_count_of, live_address_of, waiting, calls_left_of}
use Rattle.layout.specs.Windows.{windows, window_of_row, mark_of_spot, mark_of, old_spot, moving_in, marked_blocks, calls_left}
use Rattle.layout.proofs.HistoryCode.{newest_old, history_disks, history_length, growths_most, moves_below}
use Rattle.layout.proofs.Theorems.{some_added, disks_sum, spot_after_newest}
use Rattle.std.specs.Prelude.{Some}
use Rattle.marks.specs.Marks.{moves_at, marked_at, live_from, address_from, as_live_block}
use Rattle.marks.specs.Words.{marks_of}
use Rattle.marks.proofs.BlocksCode.{ReadGrowth, history_before, limits_before, block_before, some_old, on_old_disk, spot_found, moves_at_spot, marked_at_spot, live_from_spot, address_stays, address_moved}
use Rattle.medium.specs.declared.Geometry.{Geometry}
use Rattle.medium.specs.Medium.{bytes_needed}
use Rattle.volume.specs.declared.Volume.{Volume}
use Rattle.volume.specs.Calls.{too_short}
use Rattle.volume.specs.Sound.{sound}
use Rattle.volume.specs.States.{geometry, history_of, disks, mode_of, tally_of}
use Rattle.volume.proofs.ByteBounds.{bytes_bound}
use Rattle.volume.proofs.SoundLaws.{sound_facts}

-- the history as the lower crates have it, and before the newest growth
abbrev pub counts_now : (v : Volume) → List ℕ
counts_now v = history v.growths v.counts

abbrev pub counts_before : (v : Volume) → List ℕ
counts_before v = history (v.growths - 1) v.counts

-- ---- a sound state

-- blocks on disks within the limits do not wrap
blocks_bound : (s t : ℕ) (l : List ℕ) → Limits s (history t l) → get_or l t 0 * s ≤ 16_000_000
blocks_bound s t l a = let d : get_or l t 0 ≤ most_disks = omega (arith, history_disks t l, a.disks_most) in mul-le-mul d a.rows_most

module _ (v : Volume) (e : sound v ≡ true) where
  pub history_limits : Limits v.rows (counts_now v)
  unfolding history_of
  history_limits = (sound_facts v e).limits

  pub growths_below : v.growths < 8
  growths_below = omega (arith, growths_most v.rows v.growths v.counts history_limits)

  pub blocks_most : get_or v.counts v.growths 0 * v.rows ≤ 16_000_000
  blocks_most = blocks_bound v.rows v.growths v.counts history_limits

  -- what counting the bytes of so many disks asks
  pub bytes_asked : (g : Geometry) → g ≡ geometry v → (n : ℕ) → n ≤ most_disks → (0 < g.size) × (bytes_needed g n < 2 ^ 64)
  unfolding geometry
  bytes_asked g same n h =
      let f = sound_facts v e in
      rw same (omega (arith, f.size_least), bytes_bound (geometry v) n f.size_most f.limits.rows_most h)

pub disks_read : (v : Volume) → get_or v.counts v.growths 0 ≡ disks v
unfolding disks history_of
disks_read v = sym (history_disks v.growths v.counts)

pub short_told : (v : Volume) (g : Geometry) → g ≡ geometry v → (n len needed : ℕ) → needed ≡ bytes_needed g n → ltb len needed ≡ too_short (geometry v) n len
unfolding too_short
short_told v g same n len needed e = ap (ltb len) (rw same at e)

-- ---- at rest

module _ (v : Volume) (g : v.growing ≡ 0) where
  rest_mode : mode_of v.growing ≡ not_growing
  unfolding mode_of
  rest_mode = rw (eq-eqb v.growing 0 g)

  rest_blocks : open_blocks (tally_of v) ≡ disk_count (counts_now v) * v.rows
  unfolding open_blocks tally_of history_of
  rest_blocks = rw rest_mode

  pub rest_open : get_or v.counts v.growths 0 * v.rows ≡ open_blocks (tally_of v)
  rest_open = rw (rest_blocks, history_disks v.growths v.counts)

  -- what finding the spot of an open block asks, and its address
  pub rest_asks : (x : ℕ) → sound v ≡ true → x < open_blocks (tally_of v) → Limits v.rows (counts_now v) × (x < disk_count (counts_now v) * v.rows)
  rest_asks x e h = (history_limits v e, rw rest_blocks at h)

  pub rest_spot : (x : ℕ) → spot_of v.rows (counts_now v) x ≡ live_spot_of (tally_of v) x
  unfolding live_spot_of tally_of history_of
  rest_spot x = rw rest_mode

  pub rest_address : (x : ℕ) → address_of v.rows (counts_now v) x ≡ live_address_of (tally_of v) x
  unfolding address_of live_address_of live_spot_of live_reason_of live_move_count_of growths_of tally_of history_of
  rest_address x = rw rest_mode

  pub rest_block : (p : Spot) (x : Block) → x.0 ≡ block_at v.rows (counts_now v) p → Some x ≡ as_live_block (live_block_of (tally_of v) p)
  unfolding as_live_block live_block_of tally_of history_of
  rest_block p x e = rw (rest_mode, ← e)

  pub rest_waiting : (x : ℕ) → false ≡ waiting (tally_of v) x
  unfolding waiting tally_of
  rest_waiting x = rw rest_mode

  pub rest_calls : 0 ≡ calls_left_of (tally_of v)
  unfolding calls_left_of tally_of
  rest_calls = rw rest_mode

-- ---- while a growth runs

module _ (v : Volume) (g : v.growing ≢ 0) where
  -- the blocks of marks, and the blocks moved so far
  abbrev marked : (marks : List Bool) → ℕ → Bool
  marked marks = marked_blocks v.rows (counts_now v) v.window marks

  abbrev moved : ℕ → Bool
  moved = recorded_by v.rows (counts_now v) v.window (marked (marks_of v.recorded))

  growing_mode : mode_of v.growing ≡ growing
  unfolding mode_of
  growing_mode = rw (ne_eqb v.growing 0 g)

  growing_blocks : open_blocks (tally_of v) ≡ old_count (counts_now v) * v.rows
  unfolding open_blocks tally_of history_of
  growing_blocks = rw growing_mode

  pub old_block : (x : ℕ) → x < open_blocks (tally_of v) → x < old_count (counts_now v) * v.rows
  old_block x h = rw growing_blocks at h

  growing_spot : (x : ℕ) → live_spot v.rows (counts_now v) moved x ≡ live_spot_of (tally_of v) x
  unfolding live_spot_of moved_blocks tally_of history_of
  growing_spot x = rw growing_mode

  pub growing_block : (p : Spot) → as_live_block (live_block v.rows (counts_now v) moved p) ≡ as_live_block (live_block_of (tally_of v) p)
  unfolding live_block_of moved_blocks tally_of history_of
  growing_block p = rw growing_mode

  new_address : (x : ℕ) → at_new_spot v.rows (counts_now v) moved x ≡ true → address_of v.rows (counts_now v) x ≡ live_address_of (tally_of v) x
  unfolding address_of live_address_of live_spot_of live_spot live_reason_of live_move_count_of growths_of moved_blocks tally_of history_of
  new_address x e = rw (growing_mode, e)

  growing_waiting : (x : ℕ) → (marked (marks_of v.copied) x && not (marked (marks_of v.recorded) x)) ≡ waiting (tally_of v) x
  unfolding waiting tally_of history_of
  growing_waiting x = rw growing_mode

  pub growing_calls : calls_left v.rows (counts_now v) v.window (marked (marks_of v.copied)) ≡ calls_left_of (tally_of v)
  unfolding calls_left_of tally_of history_of
  growing_calls = rw growing_mode

  module _ (e : sound v ≡ true) where
    pub has_growth : 0 < v.growths
    has_growth = ((sound_facts v e).while_growing g).has_growth

    pub window_below : v.window < windows (old_count (counts_now v)) (added_count (counts_now v)) v.rows
    unfolding history_of
    window_below = ((sound_facts v e).while_growing g).window_below

    limits_then : Limits v.rows (counts_before v)
    limits_then = limits_before v.rows v.growths v.counts (history_limits v e) has_growth

    pub old_blocks_most : get_or v.counts (v.growths - 1) 0 * v.rows ≤ 16_000_000
    old_blocks_most = blocks_bound v.rows (v.growths - 1) v.counts limits_then

    pub growing_open : get_or v.counts (v.growths - 1) 0 * v.rows ≡ open_blocks (tally_of v)
    unfolding old_count
    growing_open = rw (growing_blocks, ← history_before v.growths v.counts has_growth, history_disks (v.growths - 1) v.counts)

    -- what finding the spot of an open block before the newest growth asks
    pub asks_before : (x : ℕ) → x < open_blocks (tally_of v) → Limits v.rows (counts_before v) × (x < disk_count (counts_before v) * v.rows)
    asks_before x h =
        (limits_then, block_before v.rows v.growths v.counts (history_limits v e) has_growth x (old_block x h))

    old_address : (x : ℕ) → at_new_spot v.rows (counts_now v) moved x ≡ false → address_of v.rows (counts_before v) x ≡ live_address_of (tally_of v) x
    unfolding address_of live_address_of live_spot_of live_spot old_spot live_reason_of live_move_count_of growths_of moved_blocks tally_of history_of
    old_address x f = rw (growing_mode, f, history_before v.growths v.counts has_growth)

-- ---- the newest growth, which the code has read while it runs

module _ (v : Volume) (g : v.growing ≢ 0) (e : sound v ≡ true) where
  -- the spot before it, as definitions have it
  pub spot_before_it : (x : ℕ) (p : Spot) → p ≡ old_spot v.rows (history_of v) x → p ≡ spot_of v.rows (counts_before v) x
  unfolding old_spot history_of
  spot_before_it x p f = rw (history_before v.growths v.counts (has_growth v g e)) f

  pub spot_is_old : (x : ℕ) (p : Spot) → p ≡ spot_of v.rows (counts_before v) x → p ≡ old_spot v.rows (history_of v) x
  unfolding old_spot history_of
  spot_is_old x p f = rw (history_before v.growths v.counts (has_growth v g e)) at f

  module _ (d : GrowthDisks) (o : d.old ≡ old_count (counts_now v)) (n : d.added ≡ added_count (counts_now v)) where
    growth_read : ReadGrowth v.rows v.growths v.counts d
    growth_read = record { limits = history_limits v e; grown = has_growth v g e; old_read = o; added_read = n }

    -- the old spot of an open block
    module _ (x : ℕ) (h : x < open_blocks (tally_of v)) (p : Spot) (f : p ≡ spot_of v.rows (counts_before v) x) where
      below : x < old_count (counts_now v) * v.rows
      below = old_block v g x h

      pub disk_below : p.disk < d.old
      disk_below = on_old_disk growth_read (rw o below) f

      its_spot : p ≡ old_spot v.rows (counts_now v) x
      its_spot = spot_found growth_read (rw o below) f

      pub moves_read : moves_at d.old d.added v.window p ≡ moving_in v.rows (counts_now v) v.window x
      moves_read = rw (o, n, its_spot) (moves_at_spot v.rows (counts_now v) v.window x below)

      pub marked_read : (marks : List Bool) → marked_at d.old d.added v.window marks p ≡ marked_blocks v.rows (counts_now v) v.window marks x
      marked_read marks =
          rw (o, n, its_spot) (marked_at_spot v.rows (counts_now v) v.window x below marks)

      -- of a moving block of window w: what reading its mark asks, the mark, and whether it is set
      pub mark_asks : moves_at d.old d.added v.window p ≡ true → (p.disk < d.old) × (moves_from d.old d.added p ≡ true)
      unfolding moves_at
      mark_asks k = (disk_below, and_left (moves_from d.old d.added p) (eqb (window_of_row d.old d.added p.row) v.window) k)

      module _ (j : ℕ) (i : j ≡ mark_of_spot d.old d.added p) where
        pub mark_read : j ≡ mark_of v.rows (history_of v) x
        unfolding mark_of history_of
        mark_read = rw (o, n, its_spot) at i

        pub mark_set_read : moves_at d.old d.added v.window p ≡ true → (marks : List Bool) (r : Bool) → r ≡ get_or marks j false
            → r ≡ marked_blocks v.rows (counts_now v) v.window marks x
        unfolding marked_at
        mark_set_read k marks r u =
            let m : (moves_at d.old d.added v.window p && get_or marks (mark_of_spot d.old d.added p) false)
            ≡ marked_blocks v.rows (counts_now v) v.window marks x = marked_read marks in
            rw i at u ∙ (rw k at m)

      pub waiting_read : (r : Bool)
          → r ≡ (marked_at d.old d.added v.window (marks_of v.copied) p && not (marked_at d.old d.added v.window (marks_of v.recorded) p))
          → r ≡ waiting (tally_of v) x
      waiting_read r k = rw (marked_read (marks_of v.copied), marked_read (marks_of v.recorded)) at k ∙ growing_waiting v g x

      pub new_read : (to : Spot) → to ≡ spot_after d.old d.added v.rows x p → to ≡ spot_of v.rows (counts_now v) x
      new_read to k =
          rw (o, n, its_spot) at k
          ∙ sym (spot_after_newest v.rows (counts_now v) (history_limits v e).rise (some_old growth_read) x)

      pub live_read : live_from d.old d.added v.rows v.window (marks_of v.recorded) x p ≡ live_spot_of (tally_of v) x
      live_read =
          rw (o, n, its_spot)
          (live_from_spot v.rows (counts_now v) v.window x (history_limits v e).rise (some_old growth_read) below (marks_of v.recorded))
          ∙ growing_spot v g x

    -- and its address
    module _ (x : ℕ) (h : x < open_blocks (tally_of v)) (a : Address) (f : a ≡ address_of v.rows (counts_before v) x) where
      a_spot : a.spot ≡ spot_of v.rows (counts_before v) x
      unfolding address_of
      a_spot = rw f

      a_moves : a.moves ≤ most_growths
      unfolding address_of
      a_moves =
          moves_below v.rows v.growths (v.growths - 1) v.counts x a.moves (growths_most v.rows v.growths v.counts (history_limits v e))
          (omega arith) (ap (λ (b : Address). b.moves) f)

      pub address_asks : (a.spot.disk < d.old) × (a.moves ≤ most_growths)
      address_asks = (disk_below x h a.spot a_spot, a_moves)

      number : v.growths ≡ length (earlier (counts_now v))
      number = rw (← history_before v.growths v.counts (has_growth v g e)) (omega (arith, has_growth v g e, history_length (v.growths - 1) v.counts))

      pub address_read : address_from d.old d.added v.rows v.growths v.window (marks_of v.recorded) x a ≡ live_address_of (tally_of v) x
      address_read =
          let s = v.rows in
          let c = counts_now v in
          let k = old_block v g x h in
          let b : a ≡ address_of s (earlier c) x = rw (← history_before v.growths v.counts (has_growth v g e)) f in
          rw (o, n, b)
          (by_test (at_new_spot s c (moved v g) x)
          (λ t. address_moved s c v.window x v.growths k (marks_of v.recorded) (history_limits v e).rise (some_old growth_read) number t ∙ new_address v g x t)
          (λ t. address_stays s c v.window x v.growths k (marks_of v.recorded) t ∙ rw (← history_before v.growths v.counts (has_growth v g e)) (old_address v g e x t)))

  -- the growth itself
  abbrev pub newest : GrowthDisks
  newest =
      let a = history_limits v e in
      let o = newest_old v.rows v.growths v.counts (has_growth v g e) a in
      record {
        old = old_count (counts_now v);
        added = added_count (counts_now v);
        within_limits = record {
          old = o;
          added = some_added v.rows (counts_now v) a.rise o;
          most = omega (arith, disks_sum v.rows (counts_now v) a.rise o, a.disks_most);
        };
      }

-- ---- whether a growth runs or not

pub open_most : (v : Volume) → sound v ≡ true → open_blocks (tally_of v) ≤ 16_000_000
open_most v e =
    elim (ℕ_discrete v.growing 0) [
      | yes g ↦ rw (← rest_open v g) (blocks_most v e)
      | no g ↦ rw (← growing_open v g e) (old_blocks_most v g e)
    ]

-- what counting the calls left asks, and that they are told
module _ (v : Volume) (e : sound v ≡ true) where
  pub calls_asks : (v.growing ≡ 0) ⊎ ((0 < v.growths) × (v.window < windows (old_count (counts_now v)) (added_count (counts_now v)) v.rows))
  calls_asks =
      elim (ℕ_discrete v.growing 0) [
        | yes g ↦ inl g
        | no g ↦ inr (has_growth v g e, window_below v g e)
      ]

pub calls_told : (v : Volume) (n : ℕ)
    → n ≡ cond (eqb v.growing 0) 0 (calls_left v.rows (counts_now v) v.window (marked_blocks v.rows (counts_now v) v.window (marks_of v.copied)))
    → n ≡ calls_left_of (tally_of v)
calls_told v n k =
    elim (ℕ_discrete v.growing 0) [
      | yes g ↦ (simp (eq-eqb v.growing 0 g) at k) ∙ rest_calls v g
      | no g ↦ (simp (ne_eqb v.growing 0 g) at k) ∙ growing_calls v g
    ]

-- The spot of an open block before the growth under way or, with none, its only one: growing is 0 or 1, so it is that after t - growing growths.
abbrev pub counts_old : (v : Volume) → List ℕ
counts_old v = history (v.growths - v.growing) v.counts

old_at_rest : (v : Volume) → v.growing ≡ 0 → counts_old v ≡ counts_now v
old_at_rest v g = let k : v.growths - v.growing ≡ v.growths = omega (arith, g) in ap (λ (t : ℕ). history t v.counts) k

module _ (v : Volume) (e : sound v ≡ true) where
  pub old_in_growth : v.growing ≢ 0 → counts_old v ≡ counts_before v
  old_in_growth g =
      let k : v.growths - v.growing ≡ v.growths - 1 = omega (arith, ((sound_facts v e).while_growing g).growing_one) in
      ap (λ (t : ℕ). history t v.counts) k

  pub growing_most : v.growing ≤ v.growths
  growing_most =
      elim (ℕ_discrete v.growing 0) [
        | yes g ↦ omega (arith, g)
        | no g ↦ omega (arith, ((sound_facts v e).while_growing g).growing_one, has_growth v g e)
      ]

  module _ (x : ℕ) (h : x < open_blocks (tally_of v)) where
    pub open_asks : Limits v.rows (counts_old v) × (x < disk_count (counts_old v) * v.rows)
    open_asks =
        elim (ℕ_discrete v.growing 0) [
          | yes g ↦ rw (old_at_rest v g) (rest_asks v g x e h)
          | no g ↦ rw (old_in_growth g) (asks_before v g e x h)
        ]

    module _ (p : Spot) (f : p ≡ spot_of v.rows (counts_old v) x) where
      pub spot_in_growth : v.growing ≢ 0 → p ≡ spot_of v.rows (counts_before v) x
      spot_in_growth g = rw (old_in_growth g) at f

      -- what finding its live spot asks, and that it is found
      pub spot_known : (v.growing ≡ 0) ⊎ ((0 < v.growths) × (p.disk < old_count (counts_now v)))
      spot_known =
          elim (ℕ_discrete v.growing 0) [
            | yes g ↦ inl g
            | no g ↦ inr (has_growth v g e, disk_below v g e (newest v g e) refl refl x h p (spot_in_growth g))
          ]

      pub live_told : (r : Spot)
          → r ≡ cond (eqb v.growing 0) p (live_from (old_count (counts_now v)) (added_count (counts_now v)) v.rows v.window (marks_of v.recorded) x p)
          → r ≡ live_spot_of (tally_of v) x
      live_told r k =
          elim (ℕ_discrete v.growing 0) [
            | yes g ↦ (simp (eq-eqb v.growing 0 g) at k) ∙ (rw (old_at_rest v g) at f) ∙ rest_spot v g x
            | no g ↦ (simp (ne_eqb v.growing 0 g) at k) ∙ live_read v g e (newest v g e) refl refl x h p (spot_in_growth g)
          ]
