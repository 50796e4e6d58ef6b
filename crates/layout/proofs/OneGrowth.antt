-- One growth: the way there and the way back, over any layout before it.
use Rattle.std.proofs.Common.{◌≡◌, ℕ, ◌+◌, ◌-◌, ◌*◌, ◌/◌, ◌%◌, ◌<◌, ◌≤◌, ltb, ap, ◌∙◌, mod-lt, div-lt_iff_lt-mul, div-add-mod', arith, ltb-false, ltb-true, le-ltb, lt-ltb}
use lib.Arith.{digits_lt, digits_div, digits_mod}
use Rattle.layout.specs.declared.Spot.{Spot}
use Rattle.layout.specs.Growth.{added_disk, added_index, old_block_spot, added_spot, spot_after, spot_before, block_after}
use Rattle.base.proofs.Booleans.{cond_cases}
use Rattle.layout.proofs.OneRow.{old_there, old_back, added_there, added_back}

module _ (m n s : ℕ) where
  pub spot_after_old : (x : ℕ) (p : Spot) → x < m * s → spot_after m n s x p ≡ old_block_spot m n p
  unfolding spot_after
  spot_after_old x p h = rw (lt-ltb x (m * s) h)

  pub spot_after_added : (x : ℕ) (p : Spot) → m * s ≤ x → spot_after m n s x p ≡ added_spot m n (x - m * s)
  unfolding spot_after
  spot_after_added x p h = rw (le-ltb x (m * s) h)

  pub block_after_added : (p : Spot) (x : ℕ) → added_index m n p.disk p.row.0 < n
      → block_after m n s p x ≡ m * s + p.row.0 * n + added_index m n p.disk p.row.0
  unfolding block_after
  block_after_added p x h = rw (lt-ltb _ n h)

  pub block_after_old : (p : Spot) (x : ℕ) → n ≤ added_index m n p.disk p.row.0 → block_after m n s p x ≡ x
  unfolding block_after
  block_after_old p x h = rw (le-ltb _ n h)

  module _ (hm : 0 < m) (hn : 0 < n) where
    -- x leads to a spot r of the grown volume, from which the way back leads to x; `before` is the way back of the older layout
    Leads : (Spot → ℕ) → ℕ → Spot → Type 0
    Leads before x r = (r.disk < m + n) × (r.row.0 < s) × (block_after m n s r (before (spot_before m n r)) ≡ x)

    old_leads : (x : ℕ) (p : Spot) (before : Spot → ℕ) → p.disk < m → p.row.0 < s → before p ≡ x → Leads before x (old_block_spot m n p)
    unfolding Leads old_block_spot spot_before
    old_leads x p before hd hb e =
        let t = old_there m n p.row.0 hm hn p.disk hd in (
          t.0,
          hb,
          block_after_old _ _ t.1 ∙ ap (λ (d : ℕ). before (record { disk = d; row = p.row })) t.2 ∙ e,
        )

    added_leads : (y : ℕ) (before : Spot → ℕ) → y < n * s → Leads before (m * s + y) (added_spot m n y)
    unfolding Leads added_spot
    added_leads y before h =
        let t = added_there m n (y / n) hm hn (y % n) (mod-lt y hn) in
        let a : added_index m n (added_disk m n (y / n) (y % n)) (y / n) < n = rw t.1 (mod-lt y hn) in
        (t.0, (div-lt_iff_lt-mul hn).1 (omega arith), block_after_added _ _ a ∙ omega (arith, t.1, div-add-mod' y n))

    pub spot_leads : (x : ℕ) (p : Spot) (before : Spot → ℕ) → x < (m + n) * s → (x < m * s → (p.disk < m) × (p.row.0 < s) × (before p ≡ x))
        → let r = spot_after m n s x p in (r.disk < m + n) × (r.row.0 < s) × (block_after m n s r (before (spot_before m n r)) ≡ x)
    unfolding spot_after Leads
    spot_leads x p before hx ih =
        cond_cases (Leads before x) (ltb x (m * s))
        (λ e. let i = ih (ltb-true _ _ e) in old_leads x p before i.0 i.1 i.2)
        (λ e.
        let l : m * s ≤ x = ltb-false _ _ e in
        let z : m * s + (x - m * s) ≡ x = omega arith in
        rw z at (added_leads (x - m * s) before (omega arith)))

    -- spot p leads to a block x of the grown volume, from which the way there leads to p; `after` is the way there of the older layout
    pub block_leads : (p : Spot) (o : ℕ) (after : ℕ → Spot) → p.disk < m + n → p.row.0 < s
        → ((spot_before m n p).disk < m → (o < m * s) × (after o ≡ spot_before m n p))
        → let x = block_after m n s p o in (x < (m + n) * s) × (spot_after m n s x (after x) ≡ p)
    unfolding block_after spot_before old_block_spot added_spot
    block_leads p o after hd hb ih =
        cond_cases (λ x. (x < (m + n) * s) × (spot_after m n s x (after x) ≡ p)) (ltb (added_index m n p.disk p.row.0) n)
        (λ e.
        let q : ℕ = added_index m n p.disk p.row.0 in
        let hq : q < n = ltb-true _ _ e in
        let y : (m * s + p.row.0 * n + q) - m * s ≡ p.row.0 * n + q = omega arith in (
          omega (arith, digits_lt hb hq),
          spot_after_added _ _ (omega arith) ∙ rw (y, digits_div p.row.0 hq, digits_mod p.row.0 hq, added_back m n p.row.0 hm hn p.disk hd),
        ))
        (λ e.
        let w = old_back m n p.row.0 hm hn p.disk hd (ltb-false _ _ e) in
        let i = ih w.0 in
        (omega arith, spot_after_old _ _ i.0 ∙ rw (i.1, w.1)))
