-- What the newest growth, from m disks to c, does with the old blocks.
use Rattle.std.proofs.Common.{◌≡◌, ℕ, ◌-◌, ◌*◌, ◌<◌, ◌≤◌, true, false, ltb, List, ◌∷◌, ap, ◌∙◌, mul-le-mul_right, arith, ltb-true, lt-ltb}
use Rattle.layout.specs.declared.Spot.{Spot}
use Rattle.layout.specs.Growth.{moves_from, old_block_spot}
use Rattle.layout.specs.History.{Within, disk_count, earlier, old_count, added_count, rising, spot_of}
use Rattle.layout.specs.Windows.{old_spot, moving}
use Rattle.layout.specs.Laws.{Bijection, Moving}
use Rattle.base.proofs.Booleans.{and_left, and_right, and_both}
use Rattle.layout.proofs.Histories.{rising_up, rising_earlier, rising_some}
use Rattle.layout.proofs.OneRow.{goes, stays}
use Rattle.layout.proofs.OneGrowth.{spot_after_old}
use Rattle.layout.proofs.Bijection.{bijection}

module _ (s c m : ℕ) (h : List ℕ) (r : rising (c ∷ m ∷ h) ≡ true) where
  pub up : m < c
  up = rising_up c m h r

  pub old_some : 0 < m
  old_some = rising_some m h (rising_earlier c m h r)

  pub old_bijection : Bijection s (m ∷ h)
  old_bijection = bijection s (m ∷ h) (rising_earlier c m h r)

  pub new_bijection : Bijection s (c ∷ m ∷ h)
  new_bijection = bijection s (c ∷ m ∷ h) r

  -- an old block has its spot before and after the growth
  pub old_within : (x : ℕ) → x < m * s → Within s (m ∷ h) (spot_of s (m ∷ h) x)
  unfolding disk_count
  old_within x k = old_bijection.spot_within x k

  pub still_there : (x : ℕ) → x < m * s → x < c * s
  still_there x k = omega (arith, mul-le-mul_right s up)

  pub moving_old : (x : ℕ) → moving s (c ∷ m ∷ h) x ≡ true → x < m * s
  unfolding moving old_count earlier disk_count
  moving_old x e = ltb-true x (m * s) (and_left (ltb x (m * s)) _ e)

  pub moving_moves : (x : ℕ) → moving s (c ∷ m ∷ h) x ≡ true → moves_from m (c - m) (spot_of s (m ∷ h) x) ≡ true
  unfolding moving old_count added_count old_spot earlier disk_count
  moving_moves x e = and_right (ltb x (m * s)) _ e

  pub moves_moving : (x : ℕ) → x < m * s → moves_from m (c - m) (spot_of s (m ∷ h) x) ≡ true → moving s (c ∷ m ∷ h) x ≡ true
  unfolding moving old_count added_count old_spot earlier disk_count
  moves_moving x k e = and_both (lt-ltb x (m * s) k) e

  pub old_block : (x : ℕ) → x < m * s → spot_of s (c ∷ m ∷ h) x ≡ old_block_spot m (c - m) (spot_of s (m ∷ h) x)
  unfolding spot_of
  old_block x k = spot_after_old m (c - m) s x (spot_of s (m ∷ h) x) k

  same_row : (x : ℕ) → x < m * s → (spot_of s (c ∷ m ∷ h) x).row ≡ (spot_of s (m ∷ h) x).row
  unfolding old_block_spot
  same_row x k = ap (λ (p : Spot). p.row) (old_block x k)

  to_added_disk : (x : ℕ) → moving s (c ∷ m ∷ h) x ≡ true → (m ≤ (spot_of s (c ∷ m ∷ h) x).disk) × ((spot_of s (c ∷ m ∷ h) x).disk < c)
  unfolding old_block_spot moves_from disk_count
  to_added_disk x e =
      let k = moving_old x e in (
        rw (old_block x k)
            (goes m (c - m) (spot_of s (m ∷ h) x).row.0 old_some (omega (arith, up)) (spot_of s (m ∷ h) x).disk (old_within x k).disk (moving_moves x e)),
        (new_bijection.spot_within x (still_there x k)).disk,
      )

  still : (x : ℕ) → x < m * s → moving s (c ∷ m ∷ h) x ≡ false → spot_of s (c ∷ m ∷ h) x ≡ spot_of s (m ∷ h) x
  unfolding old_block_spot moves_from moving old_count added_count old_spot earlier disk_count
  still x k e =
      let f : moves_from m (c - m) (spot_of s (m ∷ h) x) ≡ false = (rw (lt-ltb x (m * s) k) at e) in
      old_block x k
      ∙ ap (λ (d : ℕ). record { disk = d; row = (spot_of s (m ∷ h) x).row })
      (stays m (c - m) (spot_of s (m ∷ h) x).row.0 old_some (omega (arith, up)) (spot_of s (m ∷ h) x).disk f)

  pub moving_law : Moving s (c ∷ m ∷ h)
  unfolding old_count old_spot earlier disk_count
  moving_law = record { same_row = same_row; to_added_disk = to_added_disk; stays = still }
