-- Address by a table of moves agrees with document 01's formula.
use Prim.Native.Nat.{ℕ, ◌-◌, ◌*◌, ◌≤◌, ◌<◌}
use mathlib.Core.Path.{◌≡◌, refl, sym, ◌∙◌, ap}
use mathlib.Core.Bool.{true, cond}
use mathlib.Core.List.{List, [], ◌∷◌}
use mathlib.Core.Logic.{⊎_elim}
use native.Mathlib.Nat.{zero-mul, not-suc-le-zero}
use native.Mathlib.Omega.{arith}
use lib.Dec.{ltb}
use lib.ListN.{get_or}
use borrow.Author.Tests.{ltb-true}
use Rattle.base.proofs.Booleans.{by_test}
use Rattle.layout.specs.declared.Spot.{Spot}
use Rattle.layout.specs.Growth.{disk_after, moves_from, old_block_spot, added_spot, spot_after}
use Rattle.layout.specs.History.{disk_count, earlier, old_count, added_count, rising, spot_of}
use Rattle.layout.specs.Windows.{mark_of_spot, old_spot, moving, mark_of}
use Rattle.layout.specs.Limits.{Grows, Limits, most_disks}
use Rattle.layout.specs.Tally.{Tally, is_running, live_spot_of, growths_of}
use Rattle.layout.proofs.Histories.{not_rising, rising_up, rising_earlier, rising_some, rising_before}
use Rattle.layout.proofs.MarkSpots.{mark_below, mark_disk, mark_row}
use Rattle.layout.proofs.Spots.{same_spot}
use Rattle.layout.proofs.NewestGrowth.{old_within, old_block, moving_moves}
use Rattle.layout.proofs.NextBlocks.{moving_old}
use Rattle.layout.proofs.Theorems.{disks_sum, look_ups}
use Rattle.move_table.specs.Entries.{disk_of_mark}
use Rattle.move_table.specs.Tables.{IsMark, IsMoveTable, AddressAgrees, disk_by_table, spot_by_table}

-- ---- one growth

-- the disk of a moving block's mark is its disk after the growth
module _ (m n : ℕ) (g : Grows m n) (p : Spot) (old : p.disk < m) (mv : moves_from m n p ≡ true) where
  its_mark : IsMark m n (mark_of_spot m n p)
  its_mark = record { pair = g; below = mark_below m n g.old g.added p old mv }

  mark_agrees : disk_of_mark m n (mark_of_spot m n p) ≡ (old_block_spot m n p).disk
  unfolding disk_of_mark old_block_spot disk_after moves_from
  mark_agrees = rw (mark_row m n g.old g.added p old mv, mark_disk m n g.old g.added p old mv, mv)

-- a growth of a history within the limits
growth : (c m : ℕ) (h : List ℕ) → rising (c ∷ m ∷ h) ≡ true → c ≤ most_disks → Grows m (c - m)
growth c m h r most =
    let up : m < c = rising_up c m h r in
    record { old = rising_some m h (rising_earlier c m h r); added = omega arith; most = omega arith }

module _ (numbers : List ℕ) (place : (m n j : ℕ) → ℕ) (is : IsMoveTable numbers place) where
  moved_agrees : (m n : ℕ) → Grows m n → (p : Spot) → p.disk < m → moves_from m n p ≡ true
      → get_or numbers (place m n (mark_of_spot m n p)) 0 ≡ (old_block_spot m n p).disk
  moved_agrees m n g p old mv =
      is.its_disk m n (mark_of_spot m n p) (its_mark m n g p old mv) ∙ mark_agrees m n g p old mv

  disk_agrees : (m n : ℕ) → Grows m n → (p : Spot) → p.disk < m → disk_by_table numbers place m n p ≡ (old_block_spot m n p).disk
  disk_agrees m n g p old =
      by_test (moves_from m n p)
      (λ e. unfold disk_by_table in rw e (moved_agrees m n g p old e))
      (λ e. unfold disk_by_table old_block_spot disk_after moves_from in rw e)

  -- the spot of any block, q being the one before the growth by the table
  growth_agrees : (m n s x : ℕ) (p q : Spot) → Grows m n → q ≡ p → (x < m * s → p.disk < m)
      → cond (ltb x (m * s)) (record { disk = disk_by_table numbers place m n q; row = q.row }) (added_spot m n (x - m * s)) ≡ spot_after m n s x p
  growth_agrees m n s x p q g e old =
      rw e
      (by_test (ltb x (m * s))
      (λ t. unfold spot_after in rw t (same_spot (disk_agrees m n g p (old (ltb-true x (m * s) t))) (unfold old_block_spot in refl)))
      (λ t. unfold spot_after in rw t))

  -- ---- a history

  spot_agrees : (s : ℕ) (h : List ℕ) (x : ℕ) → rising h ≡ true → disk_count h ≤ most_disks → spot_by_table numbers place s h x ≡ spot_of s h x
  unfolding spot_by_table spot_of disk_count
  spot_agrees s [] x r most = refl
  spot_agrees s (c ∷ []) x r most = refl
  spot_agrees s (c ∷ m ∷ h) x r most =
      growth_agrees m (c - m) s x (spot_of s (m ∷ h) x) (spot_by_table numbers place s (m ∷ h) x) (growth c m h r most)
      (spot_agrees s (m ∷ h) x (rising_earlier c m h r) (omega (arith, rising_up c m h r)))
      (λ k. (old_within s c m h r x k).disk)

  moving_agrees : (s : ℕ) (h : List ℕ) (x : ℕ) → Limits s h → moving s h x ≡ true
      → get_or numbers (place (old_count h) (added_count h) (mark_of s h x)) 0 ≡ (spot_of s h x).disk
  unfolding old_count added_count earlier disk_count mark_of old_spot
  moving_agrees s [] x l e = absurd (not_rising l.rise)
  moving_agrees s (c ∷ []) x l e = absurd (not-suc-le-zero (rw zero-mul at (moving_old s (c ∷ []) x e)))
  moving_agrees s (c ∷ m ∷ h) x l e =
      let r = l.rise in
      let k : x < m * s = moving_old s (c ∷ m ∷ h) x e in
      moved_agrees m (c - m) (growth c m h r l.disks_most) (spot_of s (m ∷ h) x) (old_within s c m h r x k).disk (moving_moves s c m h r x e)
      ∙ ap (λ (p : Spot). p.disk) (sym (old_block s c m h r x k))

  module _ (t : Tally) (x : ℕ) (l : Limits t.rows t.counts) where
    -- through the growths k
    through : (k : List ℕ) → growths_of t x ≡ k → rising k ≡ true → disk_count k ≤ most_disks
        → spot_by_table numbers place t.rows (growths_of t x) x ≡ spot_of t.rows (growths_of t x) x
    through k e r most = rw e (spot_agrees t.rows k x r most)

    through_earlier : 0 < old_count t.counts → growths_of t x ≡ earlier t.counts
        → spot_by_table numbers place t.rows (growths_of t x) x ≡ spot_of t.rows (growths_of t x) x
    unfolding old_count
    through_earlier g e =
        through (earlier t.counts) e (rising_before t.counts l.rise g)
        (omega (arith, disks_sum t.rows t.counts l.rise g, l.disks_most))

    live_agrees : (is_running t.mode ≡ true → 0 < old_count t.counts) → spot_by_table numbers place t.rows (growths_of t x) x ≡ live_spot_of t x
    live_agrees g =
        let known = look_ups t l.rise g in
        by_test (is_running t.mode)
        (λ e. ⊎_elim (λ q. through t.counts q l.rise l.disks_most) (through_earlier (g e)) (known.all_or_earlier x))
        (λ e. through t.counts (unfold growths_of in rw e) l.rise l.disks_most)
        ∙ sym (known.live_growths x)

  pub agrees_law : AddressAgrees numbers place
  agrees_law =
      record {
        moving_block = moving_agrees;
        every_block = λ s h x l. spot_agrees s h x l.rise l.disks_most;
        live_block = live_agrees;
      }
