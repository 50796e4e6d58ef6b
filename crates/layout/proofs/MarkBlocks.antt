-- Marks and moving blocks of the windows of the newest growth, from m disks to c, are one to one.
use Rattle.std.proofs.Common.{◌≡◌, ℕ, ◌-◌, ◌*◌, ◌<◌, true, List, ◌∷◌, refl, ap, ◌∙◌, arith, ltb-true, lt-ltb}
use Rattle.layout.specs.declared.Spot.{Spot}
use Rattle.layout.specs.History.{Within, disk_count, earlier, old_count, added_count, rising, spot_of, block_at}
use Rattle.layout.specs.Windows.{windows, window_of_row, mark_of_spot, spot_of_mark, row_exists, old_spot, moving, window_of, mark_of, block_of_mark}
use Rattle.layout.specs.Laws.{Marks}
use Rattle.layout.proofs.NewestGrowth.{up, old_some, old_bijection, old_within, moving_old, moving_moves, moves_moving}
use Rattle.layout.proofs.MarkSpots.{mark_below, spot_of_mark_law, mark_spot_disk, mark_spot_window, mark_spot_moves, mark_of_spot_law, row_window, window_row, first_mark}

module _ (s c m : ℕ) (h : List ℕ) (r : rising (c ∷ m ∷ h) ≡ true) where
  abbrev n : ℕ
  n = c - m

  abbrev old : ℕ → Spot
  old x = spot_of s (m ∷ h) x

  pub old_pos : 0 < m
  old_pos = old_some s c m h r

  pub added_pos : 0 < c - m
  added_pos = omega (arith, up s c m h r)

  on_old : (x : ℕ) → moving s (c ∷ m ∷ h) x ≡ true → (old x).disk < m
  unfolding disk_count
  on_old x e = (old_within s c m h r x (moving_old s c m h r x e)).disk

  -- the definitions, read for this history
  window_is : (x : ℕ) → window_of s (c ∷ m ∷ h) x ≡ window_of_row m n (old x).row
  unfolding window_of old_count added_count old_spot earlier disk_count
  window_is x = refl

  mark_is : (x : ℕ) → mark_of s (c ∷ m ∷ h) x ≡ mark_of_spot m n (old x)
  unfolding mark_of old_count added_count old_spot earlier disk_count
  mark_is x = refl

  block_is : (w j : ℕ) → block_of_mark s (c ∷ m ∷ h) w j ≡ block_at s (m ∷ h) (spot_of_mark m n w j)
  unfolding block_of_mark old_count added_count earlier disk_count
  block_is w j = refl

  -- from a moving block to its mark
  module _ (x : ℕ) (e : moving s (c ∷ m ∷ h) x ≡ true) where
    below : mark_of s (c ∷ m ∷ h) x < m * n
    below = rw (mark_is x) (mark_below m n old_pos added_pos (old x) (on_old x e) (moving_moves s c m h r x e))

    spot_is : spot_of_mark m n (window_of s (c ∷ m ∷ h) x) (mark_of s (c ∷ m ∷ h) x) ≡ old x
    spot_is =
        rw (window_is x, mark_is x) (spot_of_mark_law m n old_pos added_pos (old x) (on_old x e) (moving_moves s c m h r x e))

    row_there : row_exists m n s (window_of s (c ∷ m ∷ h) x) (mark_of s (c ∷ m ∷ h) x) ≡ true
    unfolding row_exists
    row_there = rw spot_is (lt-ltb _ s (old_within s c m h r x (moving_old s c m h r x e)).row)

    leads_back : block_of_mark s (c ∷ m ∷ h) (window_of s (c ∷ m ∷ h) x) (mark_of s (c ∷ m ∷ h) x) ≡ x
    unfolding disk_count
    leads_back =
        block_is _ _ ∙ ap (block_at s (m ∷ h)) spot_is ∙ (old_bijection s c m h r).block_of_spot x (moving_old s c m h r x e)

    in_windows : window_of s (c ∷ m ∷ h) x < windows m n s
    unfolding window_of_row
    in_windows =
        rw (window_is x) (row_window m n old_pos added_pos s (old x).row.0 (old_within s c m h r x (moving_old s c m h r x e)).row)

  -- from a mark to its block
  module _ (w j : ℕ) (hj : j < m * n) (e : row_exists m n s w j ≡ true) where
    within : Within s (m ∷ h) (spot_of_mark m n w j)
    unfolding disk_count row_exists
    within = record { disk = mark_spot_disk m n old_pos added_pos w j hj; row = ltb-true _ s e }

    block : ℕ
    block = block_at s (m ∷ h) (spot_of_mark m n w j)

    block_old : block < m * s
    unfolding disk_count block
    block_old = (old_bijection s c m h r).block_within _ within

    old_is : old block ≡ spot_of_mark m n w j
    unfolding block
    old_is = (old_bijection s c m h r).spot_of_block _ within

    mark_moves : (moving s (c ∷ m ∷ h) (block_of_mark s (c ∷ m ∷ h) w j) ≡ true)
        × (window_of s (c ∷ m ∷ h) (block_of_mark s (c ∷ m ∷ h) w j) ≡ w)
        × (mark_of s (c ∷ m ∷ h) (block_of_mark s (c ∷ m ∷ h) w j) ≡ j)
    unfolding block
    mark_moves =
        rw (block_is w j) (
          moves_moving s c m h r block block_old (rw old_is (mark_spot_moves m n old_pos added_pos w j hj)),
          window_is block ∙ rw old_is (mark_spot_window m n old_pos added_pos w j hj),
          mark_is block ∙ rw old_is (mark_of_spot_law m n old_pos added_pos w j hj),
        )

  -- every window has its first mark
  first_there : (w : ℕ) → w < windows m n s → row_exists m n s w 0 ≡ true
  unfolding row_exists
  first_there w k =
      lt-ltb _ s (rw (first_mark m n old_pos added_pos w).1 (window_row m n old_pos added_pos s w k))

  some_block : (w : ℕ) → w < windows m n s → (x : ℕ) × (moving s (c ∷ m ∷ h) x ≡ true) × (window_of s (c ∷ m ∷ h) x ≡ w)
  some_block w k =
      let t = mark_moves w 0 (first_mark m n old_pos added_pos w).0 (first_there w k) in
      (block_of_mark s (c ∷ m ∷ h) w 0, t.0, t.1)

  pub marks_law : Marks s (c ∷ m ∷ h)
  unfolding old_count added_count earlier disk_count
  marks_law =
      record {
        mark_within = below;
        mark_row = row_there;
        block_of_mark_law = leads_back;
        mark_moves = mark_moves;
        in_windows = in_windows;
        some_block = some_block;
      }
