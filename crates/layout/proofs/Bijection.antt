-- Blocks and spots are one to one, for every history whose counts rise.
use Rattle.std.proofs.Common.{◌≡◌, ℕ, ◌+◌, ◌-◌, ◌*◌, ◌<◌, true, List, [], ◌∷◌, sym, ap, ◌∙◌, subst, mod-lt, div-lt_iff_lt-mul, div-add-mod', arith}
use lib.Arith.{digits_lt, digits_div, digits_mod}
use Rattle.layout.specs.declared.Spot.{Spot}
use Rattle.layout.specs.Growth.{spot_before}
use Rattle.layout.specs.History.{Within, disk_count, rising, spot_of, block_at}
use Rattle.layout.specs.Laws.{Bijection}
use Rattle.layout.proofs.Histories.{not_rising, rising_up, rising_earlier, rising_some}
use Rattle.layout.proofs.OneGrowth.{spot_leads, block_leads}

-- at format
first : (s c : ℕ) → 0 < c → Bijection s (c ∷ [])
unfolding disk_count spot_of block_at
first s c hc =
    record {
      spot_within = λ x h. record { disk = mod-lt x hc; row = (div-lt_iff_lt-mul hc).1 (omega arith) };
      block_of_spot = λ x h. div-add-mod' x c;
      block_within = λ p w. omega (arith, digits_lt w.row w.disk);
      spot_of_block = λ p w. rw (digits_mod p.row.0 w.disk, digits_div p.row.0 w.disk);
    }

-- after one growth more
module _ (s c m : ℕ) (h : List ℕ) (hm : 0 < m) (up : m < c) (B : Bijection s (m ∷ h)) where
  whole : m + (c - m) ≡ c
  whole = omega arith

  there : (x : ℕ) → x < c * s
      → let r = spot_of s (c ∷ m ∷ h) x in (r.disk < c) × (r.row.0 < s) × (block_at s (c ∷ m ∷ h) r ≡ x)
  unfolding spot_of block_at disk_count
  there x l =
      let g =
      spot_leads m (c - m) s hm (omega arith) x (spot_of s (m ∷ h) x) (block_at s (m ∷ h)) (rw whole l)
      (λ k. ((B.spot_within x k).disk, (B.spot_within x k).row, B.block_of_spot x k))
      in
      (subst (λ (k : ℕ). (spot_of s (c ∷ m ∷ h) x).disk < k) whole g.0, g.1, g.2)

  back : (p : Spot) → p.disk < c → p.row.0 < s
      → let x = block_at s (c ∷ m ∷ h) p in (x < c * s) × (spot_of s (c ∷ m ∷ h) x ≡ p)
  unfolding spot_of block_at disk_count spot_before
  back p hd hb =
      let g =
      block_leads m (c - m) s hm (omega arith) p (block_at s (m ∷ h) (spot_before m (c - m) p)) (spot_of s (m ∷ h)) (omega arith) hb
      (λ k.
      let w : Within s (m ∷ h) (spot_before m (c - m) p) = record { disk = k; row = hb } in
      (B.block_within _ w, B.spot_of_block _ w))
      in
      (subst (λ (k : ℕ). block_at s (c ∷ m ∷ h) p < k * s) whole g.0, g.1)

  next : Bijection s (c ∷ m ∷ h)
  unfolding disk_count
  next =
      record {
        spot_within = λ x l. let t = there x l in record { disk = t.0; row = t.1 };
        block_of_spot = λ x l. (there x l).2;
        block_within = λ p w. (back p w.disk w.row).0;
        spot_of_block = λ p w. (back p w.disk w.row).1;
      }

pub bijection : (s : ℕ) (h : List ℕ) → rising h ≡ true → Bijection s h
bijection s [] e = absurd (not_rising e)
bijection s (c ∷ []) e = first s c (rising_some c [] e)
bijection s (c ∷ m ∷ h) e =
    let r = rising_earlier c m h e in
    next s c m h (rising_some m h r) (rising_up c m h e) (bijection s (m ∷ h) r)

-- two blocks with one spot are one
pub spot_injective : (s : ℕ) (h : List ℕ) → Bijection s h → (x y : ℕ) → x < disk_count h * s → y < disk_count h * s → spot_of s h x ≡ spot_of s h y → x ≡ y
spot_injective s h B x y hx hy e = sym (B.block_of_spot x hx) ∙ ap (block_at s h) e ∙ B.block_of_spot y hy
