-- One row of one growth: its old and its added blocks together are on each disk below m+n exactly once. For all m and n above 0.
use Rattle.std.proofs.Common.{◌≡◌, ℕ, ◌+◌, ◌-◌, ◌%◌, ◌<◌, ◌≤◌, Bool, true, false, cond, ◌&&◌, ltb, leb, ◌⊎◌, sym, refl, ap, ◌∙◌, inl, inr, ⊎_elim, mod-lt, arith, ltb-false, ltb-true, le-ltb, lt-ltb, leb-false, leb-true}
use Rattle.layout.specs.declared.Part.{Part}
use Rattle.layout.specs.declared.Part.TheVariants.{Head, Body, Tail}
use Rattle.layout.specs.Growth.{minus_mod, first_fit, part_of, moves, by_part, new_disk, disk_after, added_disk, added_index, disk_before, old_disk}
use Rattle.base.proofs.Booleans.{cond_cases, clash}
use Rattle.layout.proofs.Remainder.{minus_cases, minus_below, minus_mod_left, minus_add, add_minus}

-- the rule, by its cases: m ≥ n or not, and the part
pub rule_cases : (m n b1 : ℕ) → 0 < m → 0 < n → (P : Bool → Part → Type 0)
    → (b1 < m → b1 < n → (g : Bool) → P g Head)
    → (m ≤ b1 + 1 → n ≤ b1 + 1 → (g : Bool) → P g Tail)
    → (n ≤ b1 → b1 + 1 < m → P true Body)
    → (m ≤ b1 → b1 + 1 < n → P false Body)
    → P (leb n m) (part_of m n b1)
unfolding part_of
rule_cases m n b1 hm hn P head tail big small = by (leb n m) refl
  where
    by : (g : Bool) → leb n m ≡ g → P g (cond g (first_fit (leb b1 (n - 1)) (leb (m - 1) b1)) (first_fit (leb b1 (m - 1)) (leb (n - 1) b1)))
    by true e =
        cond_cases (P true) (leb b1 (n - 1)) (λ h. head (omega (arith, leb-true)) (omega (arith, leb-true)) true)
        (λ h. cond_cases (P true) (leb (m - 1) b1)
        (λ l. tail (omega (arith, leb-true, leb-false)) (omega (arith, leb-true, leb-false)) true)
        (λ l. big (omega (arith, leb-true, leb-false)) (omega (arith, leb-true, leb-false))))
    by false e =
        cond_cases (P false) (leb b1 (m - 1)) (λ h. head (omega (arith, leb-true, leb-false)) (omega (arith, leb-true, leb-false)) false)
        (λ h. cond_cases (P false) (leb (n - 1) b1)
        (λ l. tail (omega (arith, leb-true, leb-false)) (omega (arith, leb-true, leb-false)) false)
        (λ l. small (omega (arith, leb-true, leb-false)) (omega (arith, leb-true, leb-false))))

-- whether a block moves, by its cases
pub moves_cases : (n d0 b1 : ℕ) → 0 < n → (P : Bool → Type 0) → (d0 ≤ b1 → b1 < d0 + n → P true)
    → ((b1 < d0) ⊎ (d0 + n ≤ b1) → P false) → P (moves n d0 b1)
unfolding moves
moves_cases n d0 b1 hn P go stay = by (leb d0 b1) (leb b1 (d0 + n - 1)) refl refl
  where
    by : (t u : Bool) → leb d0 b1 ≡ t → leb b1 (d0 + n - 1) ≡ u → P (t && u)
    by true true e f = go (omega (arith, leb-true)) (omega (arith, leb-true))
    by true false e f = stay (inr (omega (arith, leb-false)))
    by false true e f = stay (inl (omega (arith, leb-false)))
    by false false e f = stay (inl (omega (arith, leb-false)))

pub moves_rows : (n d0 b1 : ℕ) → 0 < n → moves n d0 b1 ≡ true → (d0 ≤ b1) × (b1 < d0 + n)
moves_rows n d0 b1 hn =
    moves_cases n d0 b1 hn (λ t. t ≡ true → (d0 ≤ b1) × (b1 < d0 + n)) (λ lo hi e. (lo, hi)) (λ st e. clash e refl)

pub rows_move : (n d0 b1 : ℕ) → 0 < n → d0 ≤ b1 → b1 < d0 + n → moves n d0 b1 ≡ true
rows_move n d0 b1 hn lo hi =
    moves_cases n d0 b1 hn (λ t. t ≡ true) (λ l h. refl) (⊎_elim (λ x. absurd (omega arith)) (λ x. absurd (omega arith)))

pub disk_before_added : (m n d b1 : ℕ) → m ≤ d → disk_before m n d b1 ≡ old_disk m n d b1
unfolding disk_before
disk_before_added m n d b1 h = rw (le-ltb d m h)

pub disk_before_old : (m n d b1 : ℕ) → d < m → disk_before m n d b1 ≡ d
unfolding disk_before
disk_before_old m n d b1 h = rw (lt-ltb d m h)

-- a row of the window, b1 < m+n
module _ (m n b1 : ℕ) (hm : 0 < m) (hn : 0 < n) (hb : b1 < m + n) where
  -- a moved block: its disk is an added one, has no added block, and leads back
  pub moved : (d0 : ℕ) → d0 < m → d0 ≤ b1 → b1 < d0 + n
      → (m ≤ new_disk m n d0 b1) × (new_disk m n d0 b1 < m + n) × (b1 < new_disk m n d0 b1) × (new_disk m n d0 b1 ≤ m + b1)
      × (old_disk m n (new_disk m n d0 b1) b1 ≡ d0)
  unfolding new_disk old_disk
  moved d0 h lo hi =
      rule_cases m n b1 hm hn
      (λ g p.
      let v : ℕ = by_part p (d0 + m) (d0 + n) (cond g (m + n - 1 - (b1 - d0)) (d0 + b1 + 1)) in
      (m ≤ v) × (v < m + n) × (b1 < v) × (v ≤ m + b1) × (by_part p (v - m) (v - n) (cond g (b1 - (m + n - 1 - v)) (v - (b1 + 1))) ≡ d0))
      (λ a b g. omega arith)
      (λ a b g. omega arith)
      (λ a b. omega arith)
      (λ a b. omega arith)

  -- an added disk with no added block has a moved one
  moved_back : (d : ℕ) → m ≤ d → d < m + n → b1 < d → d ≤ m + b1
      → (old_disk m n d b1 < m) × (old_disk m n d b1 ≤ b1) × (b1 < old_disk m n d b1 + n) × (new_disk m n (old_disk m n d b1) b1 ≡ d)
  unfolding new_disk old_disk
  moved_back d lo hi free far =
      rule_cases m n b1 hm hn
      (λ g p.
      let w : ℕ = by_part p (d - m) (d - n) (cond g (b1 - (m + n - 1 - d)) (d - (b1 + 1))) in
      (w < m) × (w ≤ b1) × (b1 < w + n) × (by_part p (w + m) (w + n) (cond g (m + n - 1 - (b1 - w)) (w + b1 + 1)) ≡ d))
      (λ a b g. omega arith)
      (λ a b g. omega arith)
      (λ a b. omega arith)
      (λ a b. omega arith)

  -- added_index is d + n - 1 - b1, up to a multiple of m+n
  index_cases : (d : ℕ) → d < m + n
      → (added_index m n d b1 < m + n)
      × ((added_index m n d b1 + b1 + 1 ≡ d + n) ⊎ ((added_index m n d b1 + b1 + 1 ≡ d + n + (m + n)) ⊎ (added_index m n d b1 + b1 + 1 + (m + n) ≡ d + n)))
  unfolding added_index
  index_cases d hd =
      let f : ℕ = minus_mod b1 (n - 1) (m + n) in
      let g : f < m + n = minus_below (m + n) b1 (n - 1) (omega arith) in (
        minus_below (m + n) d f (omega arith),
        ⊎_elim (λ v. ⊎_elim (λ w. inl (omega arith)) (λ w. inr (inl (omega arith))) (minus_cases (m + n) d f hd g))
            (λ v. ⊎_elim (λ w. inr (inr (omega arith))) (λ w. inl (omega arith)) (minus_cases (m + n) d f hd g))
            (minus_cases (m + n) b1 (n - 1) hb (omega arith)),
      )

  -- disk d has no added block exactly where added_index is at least n
  pub no_added : (d : ℕ) → d < m + n → (b1 < d → d ≤ m + b1 → n ≤ added_index m n d b1) × (d + n ≤ b1 → n ≤ added_index m n d b1)
      × (n ≤ added_index m n d b1 → (d + n ≤ b1) ⊎ ((b1 < d) × (d ≤ m + b1)))
  no_added d hd =
      let o = index_cases d hd in
      ⊎_elim (λ v. (λ x y. omega arith, λ x. omega arith, λ x. inr (omega arith)))
      (⊎_elim (λ v. (λ x y. omega arith, λ x. omega arith, λ x. inl (omega arith))) (λ v. (λ x y. omega arith, λ x. omega arith, λ x. inr (omega arith))))
      o.1

  there : (d0 : ℕ) → d0 < m
      → (disk_after m n d0 b1 < m + n) × (n ≤ added_index m n (disk_after m n d0 b1) b1) × (disk_before m n (disk_after m n d0 b1) b1 ≡ d0)
  unfolding disk_after
  there d0 h =
      moves_cases n d0 b1 hn
      (λ t. let v : ℕ = cond t (new_disk m n d0 b1) d0 in (v < m + n) × (n ≤ added_index m n v b1) × (disk_before m n v b1 ≡ d0))
      (λ lo hi.
      let w = moved d0 h lo hi in
      (w.1, (no_added (new_disk m n d0 b1) w.1).0 w.2 w.3, disk_before_added m n (new_disk m n d0 b1) b1 w.0 ∙ w.4))
      (λ st.
      let f = no_added d0 (omega arith) in
      (omega arith, ⊎_elim (λ l. f.0 l (omega arith)) (λ l. f.1 l) st, disk_before_old m n d0 b1 h))

  back : (d : ℕ) → d < m + n → n ≤ added_index m n d b1 → (disk_before m n d b1 < m) × (disk_after m n (disk_before m n d b1) b1 ≡ d)
  unfolding disk_before disk_after
  back d hd hq =
      cond_cases (λ w. (w < m) × (cond (moves n w b1) (new_disk m n w b1) w ≡ d)) (ltb d m)
      (λ e. (
        omega (arith, ltb-true),
        moves_cases n d b1 hn (λ t. cond t (new_disk m n d b1) d ≡ d)
            (λ lo hi. ⊎_elim (λ x. omega arith) (λ x. omega arith) ((no_added d hd).2 hq)) (λ st. refl),
      ))
      (λ e.
      let hm : m ≤ d = omega (arith, ltb-false) in
      let w =
      ⊎_elim {C = (b1 < d) × (d ≤ m + b1)} (λ x. (omega arith, omega arith)) (λ x. x) ((no_added d hd).2 hq)
      in
      let r = moved_back d hm hd w.0 w.1 in (
        r.0,
        moves_cases n (old_disk m n d b1) b1 hn (λ t. cond t (new_disk m n (old_disk m n d b1) b1) (old_disk m n d b1) ≡ d)
            (λ lo hi. r.3) (λ st. ⊎_elim (λ x. omega arith) (λ x. omega arith) st),
      ))

-- only the row's place in its window counts
pub index_mod : (m n d b : ℕ) → added_index m n d b ≡ added_index m n d (b % (m + n))
unfolding added_index
index_mod m n d b = ap (λ f. minus_mod d f (m + n)) (sym (minus_mod_left (m + n) b (n - 1)))

-- any row b
module _ (m n b : ℕ) (hm : 0 < m) (hn : 0 < n) where
  -- an old block that was on disk d0
  pub old_there : (d0 : ℕ) → d0 < m
      → let v = disk_after m n d0 (b % (m + n)) in (v < m + n) × (n ≤ added_index m n v b) × (disk_before m n v (b % (m + n)) ≡ d0)
  old_there d0 h =
      let t = there m n (b % (m + n)) hm hn (mod-lt b (omega arith)) d0 h in
      (t.0, rw index_mod t.1, t.2)

  -- a disk that has no added block
  pub old_back : (d : ℕ) → d < m + n → n ≤ added_index m n d b
      → let w = disk_before m n d (b % (m + n)) in (w < m) × (disk_after m n w (b % (m + n)) ≡ d)
  old_back d hd hq = back m n (b % (m + n)) hm hn (mod-lt b (omega arith)) d hd (rw index_mod at hq)

  -- the added block q, and a disk that has one
  pub added_there : (q : ℕ) → q < n → (added_disk m n b q < m + n) × (added_index m n (added_disk m n b q) b ≡ q)
  unfolding added_disk added_index
  added_there q h =
      (mod-lt _ (omega arith), minus_add (m + n) (minus_mod b (n - 1) (m + n)) q (minus_below (m + n) b (n - 1) (omega arith)) (omega arith))

  pub added_back : (d : ℕ) → d < m + n → added_disk m n b (added_index m n d b) ≡ d
  unfolding added_disk added_index
  added_back d h = add_minus (m + n) (minus_mod b (n - 1) (m + n)) d (minus_below (m + n) b (n - 1) (omega arith)) h

  -- an added disk with no added block has a moved one: what the way back asks
  pub has_moved : (d : ℕ) → m ≤ d → d < m + n → n ≤ added_index m n d b
      → let b1 = b % (m + n) in (m ≤ d) × (d < m + n) × (b1 < d) × (d ≤ m + b1) × (b1 < m + n)
  has_moved d lo hi h =
      let l : b % (m + n) < m + n = mod-lt b (omega arith) in
      ⊎_elim (λ x. omega arith) (λ x. (lo, hi, x.0, x.1, l)) ((no_added m n (b % (m + n)) hm hn l d hi).2 (rw index_mod at h))

  -- a block that moves goes to an added disk, one that stays keeps its disk
  pub goes : (d0 : ℕ) → d0 < m → moves n d0 (b % (m + n)) ≡ true → m ≤ disk_after m n d0 (b % (m + n))
  unfolding disk_after
  goes d0 h e =
      let r = moves_rows n d0 (b % (m + n)) hn e in
      rw e (moved m n (b % (m + n)) hm hn (mod-lt b (omega arith)) d0 h r.0 r.1).0

  pub stays : (d0 : ℕ) → moves n d0 (b % (m + n)) ≡ false → disk_after m n d0 (b % (m + n)) ≡ d0
  unfolding disk_after
  stays d0 e = rw e
