-- What the code of one growth needs besides the laws of one row.
use Rattle.std.proofs.Common.{◌≡◌, ℕ, ◌+◌, ◌-◌, ◌*◌, ◌%◌, ◌^◌, ◌<◌, ◌≤◌, ltb, leb, sym, ◌∙◌, mod-lt, mod-eq_of_lt, mul-le-mul, arith, ltb-false, ltb-true, le-ltb, le-leb, leb-false, leb-true}
use native.Mathlib.Nat.{add-mod_right}
use borrow.Author.Tests.{lt-leb}
use Rattle.base.proofs.Booleans.{by_test}
use Rattle.layout.specs.declared.Part.{Part}
use Rattle.layout.specs.declared.Part.TheVariants.{Head, Body, Tail}
use Rattle.layout.specs.Growth.{minus_mod, part_of, moves, added_index}
use Rattle.layout.specs.Limits.{Grows, most_disks, most_rows}
use Rattle.layout.proofs.OneRow.{rule_cases}
use Rattle.layout.proofs.Remainder.{minus_minus}

-- a row past the head's is at least n-1, so that the way back takes no more off a disk than there is
abbrev PastHead : ℕ → ℕ → ℕ → Part → Type 0
PastHead m n b1 Head = Unit
PastHead m n b1 Body = n ≤ m → n ≤ b1 + 1
PastHead m n b1 Tail = n ≤ b1 + 1

pub past_head : (m n b1 : ℕ) (p : Part) → p ≡ part_of m n b1 → 0 < m → 0 < n → PastHead m n b1 p
past_head m n b1 p is hm hn =
    rw is
    (rule_cases m n b1 hm hn (λ g q. PastHead m n b1 q) (λ a b g. tt) (λ a b g. b) (λ a b h. omega arith) (λ a b h. omega arith))

-- there are few enough old blocks that m·s does not wrap
pub old_blocks_most : (m n s : ℕ) → Grows m n → s ≤ most_rows → m * s ≤ 16_000_000
old_blocks_most m n s g h = let l : m ≤ most_disks = omega (arith, g.most) in mul-le-mul l h

-- d0 ≤ b1 ≤ d0+n-1 as one test, of the difference that wraps
pub one_test : (n d0 b1 : ℕ) → 0 < n → n ≤ most_disks → d0 < most_disks → b1 < most_disks → ltb ((b1 + (2 ^ 64 - d0)) % 2 ^ 64) n ≡ moves n d0 b1
unfolding moves
one_test n d0 b1 hn hm hd hb =
    let past = (b1 + (2 ^ 64 - d0)) % 2 ^ 64 in
    by_test (leb d0 b1)
    (λ t. let h = leb-true d0 b1 t in
    let k : past + d0 ≡ b1 = omega (arith, h) in
    rw t
    (by_test (ltb past n) (λ u. let l = ltb-true past n u in u ∙ sym (le-leb b1 (d0 + n - 1) (omega (arith, l, k))))
    (λ u. let l = ltb-false past n u in u ∙ sym (lt-leb b1 (d0 + n - 1) (omega (arith, l, k))))))
    (λ f. let h = leb-false d0 b1 f in rw f (le-ltb past n (omega (arith, h))))

-- The added block that a disk has, by one remainder of up - b1, where up = d + (n-1), b1 = b mod k and k = m+n: k more where that is negative.
module _ (m n d b k : ℕ) (e : k ≡ m + n) (hn : 0 < n) (hd : d < m + n) where
  index_up : added_index m n d b ≡ (d + (n - 1) + (k - b % k)) % k
  unfolding added_index minus_mod
  index_up = rw e (minus_minus (m + n) d b (n - 1) (omega (arith, hn)))

  row_below : b % k < k
  row_below = mod-lt b (omega (arith, hn, e))

  pub index_short : d + (n - 1) < b % k → d + (n - 1) + k - b % k ≡ added_index m n d b
  index_short h =
      let f : d + (n - 1) + k - b % k ≡ d + (n - 1) + (k - b % k) = omega (arith, row_below) in
      f ∙ sym (mod-eq_of_lt (omega (arith, h, row_below))) ∙ sym index_up

  pub index_long : b % k ≤ d + (n - 1) → (d + (n - 1) - b % k) % k ≡ added_index m n d b
  index_long h =
      let f : d + (n - 1) + (k - b % k) ≡ d + (n - 1) - b % k + k = omega (arith, h, row_below) in
      sym (rw (index_up, f) (add-mod_right (d + (n - 1) - b % k) k))
