-- Which spots have a block that the newest growth, from m disks to c, added, no growth running.
use Rattle.std.proofs.Common.{◌≡◌, ℕ, ◌+◌, ◌-◌, ◌*◌, ◌/◌, ◌%◌, ◌<◌, ◌≤◌, Bool, true, false, List, ◌∷◌, sym, ap, ◌∙◌, subst, true≢false, mod-lt, div-add-mod', arith}
use mathlib.Core.Option.{some}
use Rattle.layout.specs.declared.Spot.{Spot}
use Rattle.layout.specs.Growth.{added_spot, added_index, spot_before}
use Rattle.layout.specs.History.{Within, disk_count, earlier, old_count, added_count, rising, spot_of, block_at}
use Rattle.layout.specs.Tally.{Mode, not_growing, growing, is_running, Tally, live_spot_of, live_block_of}
use Rattle.layout.specs.Laws.{RemainderOf, AddedThere, AddedBlocks, AddedAt}
use Rattle.layout.proofs.Remainder.{remainder, minus_minus}
use Rattle.layout.proofs.OneRow.{added_there}
use Rattle.layout.proofs.OneGrowth.{spot_after_added, block_after_added, block_after_old}
use Rattle.layout.proofs.NewestGrowth.{up, old_some, new_bijection}

-- q is the remainder of d-(b-(n-1))
pub index_remainder : (m n d b : ℕ) → 0 < n → RemainderOf (d + (n - 1)) b (m + n) (added_index m n d b)
unfolding added_index
index_remainder m n d b h = rw (minus_minus (m + n) d b (n - 1) (omega arith)) (remainder (m + n) (d + (n - 1)) b (omega arith))

-- what is claimed of a spot, from its parts, for any q
module _ (t : Tally) (p : Spot) (m n q : ℕ) where
  abbrev added : ℕ
  added = m * t.rows + p.row.0 * n + q

  claimed : RemainderOf (p.disk + (n - 1)) p.row.0 (m + n) q → (q < n → AddedThere t p m n added)
      → ((x : ℕ) → AddedThere t p m n x → (q < n) × (x ≡ added)) → (q < n → live_block_of t p ≡ some added)
      → (n ≤ q → live_block_of t p ≡ some (block_at t.rows (earlier t.counts) (spot_before m n p))) → AddedBlocks t p m n q
  claimed i a o l e = record { remainder = i; has_added = a; added_only = o; added_told = l; older_told = e }

-- its q is the index of the added block
claimed_at : (t : Tally) (p : Spot)
    → (let m = old_count t.counts in let n = added_count t.counts in AddedBlocks t p m n (added_index m n p.disk p.row.0))
    → AddedAt t p
claimed_at t p b = b

module _ (s c m : ℕ) (h : List ℕ) (r : rising (c ∷ m ∷ h) ≡ true) where
  abbrev n : ℕ
  n = c - m

  some_added : 0 < n
  some_added = omega (arith, up s c m h r)

  whole : m + n ≡ c
  whole = omega (arith, up s c m h r)

  abbrev index : Spot → ℕ
  index p = added_index m n p.disk p.row.0

  abbrev block : Spot → ℕ
  block p = m * s + p.row.0 * n + index p

  block_added : (p : Spot) → index p < n → block_at s (c ∷ m ∷ h) p ≡ block p
  unfolding block_at
  block_added p k = block_after_added m n s p _ k

  pub block_older : (p : Spot) → n ≤ index p → block_at s (c ∷ m ∷ h) p ≡ block_at s (m ∷ h) (spot_before m n p)
  unfolding block_at
  block_older p k = block_after_old m n s p _ k

  -- the added block y of the growth is at the spot of its place y mod n in row y / n
  added_at : (y : ℕ) (p : Spot) → added_spot m n y ≡ p → (index p < n) × (y ≡ p.row.0 * n + index p)
  unfolding added_spot
  added_at y p e =
      let t = added_there m n (y / n) (old_some s c m h r) some_added (y % n) (mod-lt y some_added) in
      subst (λ (u : Spot). (index u < n) × (y ≡ u.row.0 * n + index u)) e
      (rw t.1 (mod-lt y some_added), rw t.1 (sym (div-add-mod' y n)))

  spot_added : (x : ℕ) → m * s ≤ x → spot_of s (c ∷ m ∷ h) x ≡ added_spot m n (x - m * s)
  unfolding spot_of
  spot_added x k = spot_after_added m n s x _ k

  module _ (w : ℕ) (copied recorded : ℕ → Bool) where
    abbrev tally : Mode → Tally
    tally mode = record { rows = s; counts = c ∷ m ∷ h; mode = mode; window = w; copied = copied; recorded = recorded }

    at_rest_law : (p : Spot) → Within s (c ∷ m ∷ h) p → AddedAt (tally not_growing) p
    unfolding live_spot_of live_block_of old_count added_count earlier disk_count
    at_rest_law p l =
        let B = new_bijection s c m h r in
        claimed_at (tally not_growing) p
        (claimed (tally not_growing) p m n (index p) (index_remainder m n p.disk p.row.0 some_added)
        (λ k.
        record {
          not_old = omega arith;
          is_open = rw whole (subst (λ (x : ℕ). x < c * s) (block_added p k) (B.block_within p l));
          lives = subst (λ (x : ℕ). spot_of s (c ∷ m ∷ h) x ≡ p) (block_added p k) (B.spot_of_block p l);
        })
        (λ x a.
        let i = added_at (x - m * s) p (sym (spot_added x a.not_old) ∙ a.lives) in
        (i.0, omega (arith, i.1, a.not_old)))
        (λ k. ap some (block_added p k)) (λ k. ap some (block_older p k)))

    pub added_law : (mode : Mode) → is_running mode ≡ false → (p : Spot) → Within s (c ∷ m ∷ h) p → AddedAt (tally mode) p
    added_law not_growing e p l = at_rest_law p l
    added_law growing e p l = absurd (true≢false e)
