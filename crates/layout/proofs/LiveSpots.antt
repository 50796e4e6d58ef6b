-- A growth from m disks to c under way, whichever blocks have been moved.
use Rattle.std.proofs.Common.{◌≡◌, ℕ, ◌*◌, ◌<◌, ◌≤◌, Bool, true, false, cond, ltb, List, ◌∷◌, sym, refl, ap, ◌∙◌, subst, arith, ltb-false, ltb-true, le-ltb, lt-ltb}
use mathlib.Core.Option.{none, some}
use Rattle.layout.specs.declared.Spot.{Spot}
use Rattle.layout.specs.History.{Within, disk_count, earlier, old_count, rising, spot_of, block_at}
use Rattle.layout.specs.Windows.{old_spot, moving}
use Rattle.layout.specs.Live.{at_new_spot, live_spot, live_block}
use Rattle.layout.specs.Laws.{LiveSpots}
use Rattle.base.proofs.Booleans.{and_left, and_right, clash}
use Rattle.layout.proofs.Bijection.{spot_injective}
use Rattle.layout.proofs.NewestGrowth.{up, old_bijection, new_bijection, old_within, still_there, moving_old, moving_law}

module _ (s c m : ℕ) (h : List ℕ) (r : rising (c ∷ m ∷ h) ≡ true) where
  abbrev new : ℕ → Spot
  new x = spot_of s (c ∷ m ∷ h) x

  abbrev old : ℕ → Spot
  old x = spot_of s (m ∷ h) x

  to_added : (x : ℕ) → moving s (c ∷ m ∷ h) x ≡ true → m ≤ (new x).disk
  unfolding old_count earlier disk_count
  to_added x e = ((moving_law s c m h r).to_added_disk x e).0

  on_old : (x : ℕ) → x < m * s → (old x).disk < m
  unfolding disk_count
  on_old x k = (old_within s c m h r x k).disk

  old_injective : (x y : ℕ) → x < m * s → y < m * s → old x ≡ old y → x ≡ y
  unfolding disk_count
  old_injective = spot_injective s (m ∷ h) (old_bijection s c m h r)

  new_injective : (x y : ℕ) → x < c * s → y < c * s → new x ≡ new y → x ≡ y
  unfolding disk_count
  new_injective = spot_injective s (c ∷ m ∷ h) (new_bijection s c m h r)

  -- a new spot of a moving block is no block's old spot
  apart : (x y : ℕ) → moving s (c ∷ m ∷ h) x ≡ true → y < m * s → new x ≡ old y → ⊥
  apart x y e k f = omega (arith, to_added x e, on_old y k, ap (λ (p : Spot). p.disk) f)

  wide : (x : ℕ) → x < m * s → x < c * s
  wide = still_there s c m h r

  module _ (moved : ℕ → Bool) where
    abbrev there : ℕ → Bool
    there = at_new_spot s (c ∷ m ∷ h) moved

    abbrev live : ℕ → Spot
    live = live_spot s (c ∷ m ∷ h) moved

    there_moving : (x : ℕ) → there x ≡ true → moving s (c ∷ m ∷ h) x ≡ true
    unfolding at_new_spot
    there_moving x e = and_left (moving s (c ∷ m ∷ h) x) (moved x) e

    there_moved : (x : ℕ) → there x ≡ true → moved x ≡ true
    unfolding at_new_spot
    there_moved x e = and_right (moving s (c ∷ m ∷ h) x) (moved x) e

    live_new : (x : ℕ) → there x ≡ true → live x ≡ new x
    unfolding live_spot
    live_new x e = rw e

    live_old : (x : ℕ) → there x ≡ false → live x ≡ old x
    unfolding live_spot old_spot earlier
    live_old x e = rw e

    within : (x : ℕ) → x < m * s → Within s (c ∷ m ∷ h) (live x)
    unfolding disk_count
    within x k = by (there x) refl
      where
        by : (t : Bool) → there x ≡ t → Within s (c ∷ m ∷ h) (live x)
        by true e = rw (live_new x e) ((new_bijection s c m h r).spot_within x (wide x k))
        by false e =
            rw (live_old x e)
            (record { disk = omega (arith, on_old x k, up s c m h r); row = (old_within s c m h r x k).row })

    distinct : (x y : ℕ) → x < m * s → y < m * s → live x ≡ live y → x ≡ y
    distinct x y hx hy e = by (there x) (there y) refl refl
      where
        by : (a b : Bool) → there x ≡ a → there y ≡ b → x ≡ y
        by true true f g = new_injective x y (wide x hx) (wide y hy) (sym (live_new x f) ∙ e ∙ live_new y g)
        by false false f g = old_injective x y hx hy (sym (live_old x f) ∙ e ∙ live_old y g)
        by true false f g = absurd (apart x y (there_moving x f) hy (sym (live_new x f) ∙ e ∙ live_old y g))
        by false true f g = absurd (apart y x (there_moving y g) hx (sym (live_new y g) ∙ sym e ∙ live_old x f))

    target_free : (x y : ℕ) → moving s (c ∷ m ∷ h) x ≡ true → moved x ≡ false → y < m * s → live y ≡ new x → ⊥
    target_free x y e n k f = by (there y) refl
      where
        by : (t : Bool) → there y ≡ t → ⊥
        by true g =
            let i : y ≡ x = new_injective y x (wide y k) (wide x (moving_old s c m h r x e)) (sym (live_new y g) ∙ f) in
            clash (there_moved y g) (ap moved i ∙ n)
        by false g = apart x y e k (sym f ∙ live_old y g)

    -- the way back, on an old and on an added disk
    block_on_old : (p : Spot) → p.disk < m
        → live_block s (c ∷ m ∷ h) moved p ≡ cond (there (block_at s (m ∷ h) p)) none (some (block_at s (m ∷ h) p))
    unfolding live_block old_count earlier disk_count
    block_on_old p k = rw (lt-ltb p.disk m k)

    block_on_added : (p : Spot) → m ≤ p.disk
        → live_block s (c ∷ m ∷ h) moved p ≡ cond (there (block_at s (c ∷ m ∷ h) p)) (some (block_at s (c ∷ m ∷ h) p)) none
    unfolding live_block old_count earlier disk_count
    block_on_added p k = rw (le-ltb p.disk m k)

    block_of_live : (x : ℕ) → x < m * s → live_block s (c ∷ m ∷ h) moved (live x) ≡ some x
    unfolding disk_count
    block_of_live x k = by (there x) refl
      where
        by : (t : Bool) → there x ≡ t → live_block s (c ∷ m ∷ h) moved (live x) ≡ some x
        by true e =
            rw (live_new x e)
            (block_on_added (new x) (to_added x (there_moving x e)) ∙ rw ((new_bijection s c m h r).block_of_spot x (wide x k), e))
        by false e =
            rw (live_old x e)
            (block_on_old (old x) (on_old x k) ∙ rw ((old_bijection s c m h r).block_of_spot x k, e))

    module _ (p : Spot) (x : ℕ) (w : Within s (c ∷ m ∷ h) p) where
      Lives : ℕ → Type 0
      Lives y = (y < m * s) × (live y ≡ p)

      from_old : p.disk < m → cond (there (block_at s (m ∷ h) p)) none (some (block_at s (m ∷ h) p)) ≡ some x → Lives x
      unfolding disk_count Lives
      from_old k = by (there y) refl
        where
          o : Within s (m ∷ h) p
          o = record { disk = k; row = w.row }

          y : ℕ
          y = block_at s (m ∷ h) p

          by : (t : Bool) → there y ≡ t → cond t none (some y) ≡ some x → Lives x
          by true e f = let z : ◌≡◌ {A = ℕ} 0 1 = cc in absurd (omega arith)
          by false e f =
              let i : y ≡ x = cc in
              subst Lives i ((old_bijection s c m h r).block_within p o, live_old y e ∙ (old_bijection s c m h r).spot_of_block p o)

      from_added : m ≤ p.disk → cond (there (block_at s (c ∷ m ∷ h) p)) (some (block_at s (c ∷ m ∷ h) p)) none ≡ some x → Lives x
      unfolding disk_count Lives
      from_added k = by (there y) refl
        where
          y : ℕ
          y = block_at s (c ∷ m ∷ h) p

          by : (t : Bool) → there y ≡ t → cond t (some y) none ≡ some x → Lives x
          by true e f =
              let i : y ≡ x = cc in
              subst Lives i (moving_old s c m h r y (there_moving y e), live_new y e ∙ (new_bijection s c m h r).spot_of_block p w)
          by false e f = let z : ◌≡◌ {A = ℕ} 0 1 = cc in absurd (omega arith)

      live_of_block : live_block s (c ∷ m ∷ h) moved p ≡ some x → (x < m * s) × (live x ≡ p)
      unfolding Lives
      live_of_block f = by (ltb p.disk m) refl
        where
          by : (t : Bool) → ltb p.disk m ≡ t → Lives x
          by true e = let k = ltb-true p.disk m e in from_old k (sym (block_on_old p k) ∙ f)
          by false e = let k = ltb-false p.disk m e in from_added k (sym (block_on_added p k) ∙ f)

    pub live_law : LiveSpots s (c ∷ m ∷ h) moved
    unfolding old_count earlier disk_count
    live_law =
        record {
          within = within;
          distinct = distinct;
          target_free = target_free;
          block_of_live = block_of_live;
          live_of_block = live_of_block;
        }
