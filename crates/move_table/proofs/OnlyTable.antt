-- No other numbers and no other places are a table of moves: the order leaves each mark one place.
use Prim.Native.Nat.{ℕ, zero, suc, ◌+◌, ◌≤◌, ◌<◌}
use mathlib.Core.Path.{◌≡◌, sym, ◌∙◌, ap}
use mathlib.Core.List.{List}
use mathlib.Core.Logic.{⊎_elim}
use native.Mathlib.Nat.{not-suc-le-zero, le_of_suc-le-suc, eq-or-lt_of_le}
use native.Mathlib.Omega.{arith}
use lib.Dec.{ltb}
use lib.ListN.{get_or}
use lib.Seq.{ext_get_or}
use borrow.Author.Tests.{ltb-true, ltb-false}
use Rattle.base.proofs.Booleans.{by_test, compared}
use Rattle.move_table.specs.Entries.{entries, offset}
use Rattle.move_table.specs.Tables.{IsMark, IsMoveTable}
use Rattle.move_table.proofs.EntryPlaces.{table_law}

-- two tables have their marks in one order
module _ (numbers others : List ℕ) (place other : (m n j : ℕ) → ℕ) (one : IsMoveTable numbers place) (two : IsMoveTable others other) where
  same_pair : (m n j i : ℕ) → IsMark m n j → IsMark m n i → place m n j < place m n i → other m n j < other m n i
  same_pair m n j i a b h =
      compared j i (two.mark_rises m n j i a b) (λ e. absurd (omega (arith, (rw e at h)))) (λ l. absurd (omega (arith, one.mark_rises m n i j b a l)))

  order_kept : (m n j p q i : ℕ) → IsMark m n j → IsMark p q i → place m n j < place p q i → other m n j < other p q i
  order_kept m n j p q i a b h =
      compared (m + n) (p + q) (two.sum_rises m n j p q i a b)
      (λ e.
      compared m p (two.old_rises m n j p q i a b e)
      (λ same. let f : n ≡ q = omega arith in rw (same, f) (same_pair p q j i (rw (same, f) at a) b (rw (same, f) at h)))
      (λ l. absurd (omega (arith, one.old_rises p q i m n j b a (sym e) l))))
      (λ l. absurd (omega (arith, one.sum_rises p q i m n j b a l)))

module _ (numbers : List ℕ) (place : (m n j : ℕ) → ℕ) (is : IsMoveTable numbers place) where
  -- of the marks whose offsets are below k
  abbrev PlacedBelow : ℕ → Type 0
  PlacedBelow k = (m n j : ℕ) → IsMark m n j → offset m n j < k → place m n j ≡ offset m n j

  -- the mark before one whose offset is k+1 has place k, so that this one's is not less
  not_less : (k : ℕ) → PlacedBelow k → (m n j : ℕ) → IsMark m n j → offset m n j ≡ k → k ≤ place m n j
  not_less zero lower m n j a e = omega arith
  not_less (suc k) lower m n j a e =
      let (p, q, i, b, at) = table_law.each_place k (omega (arith, table_law.within m n j a)) in
      omega (arith, lower p q i b (omega arith), order_kept entries numbers offset place table_law is p q i m n j b a (omega arith))

  -- a mark at place k has an offset below that of one whose place is greater, and then k is its offset
  not_more : (k : ℕ) → PlacedBelow k → (m n j : ℕ) → IsMark m n j → offset m n j ≡ k → k < place m n j → ⊥
  not_more k lower m n j a e more =
      let (p, q, i, b, at) = is.each_place k (omega (arith, is.within m n j a)) in
      let less : offset p q i < offset m n j = order_kept numbers entries place offset is table_law p q i m n j b a (omega arith) in
      omega (arith, lower p q i b (omega arith))

  placed_below : (k : ℕ) → PlacedBelow k
  placed_below zero m n j a h = absurd (not-suc-le-zero h)
  placed_below (suc k) m n j a h =
      ⊎_elim
      (λ (e : offset m n j ≡ k).
      by_test (ltb k (place m n j)) (λ t. absurd (not_more k (placed_below k) m n j a e (ltb-true k (place m n j) t)))
      (λ t. let most : place m n j ≤ k = ltb-false k (place m n j) t in omega (arith, not_less k (placed_below k) m n j a e)))
      (placed_below k m n j a) (eq-or-lt_of_le (le_of_suc-le-suc h))

  pub only_places_law : (m n j : ℕ) → IsMark m n j → place m n j ≡ offset m n j
  only_places_law m n j a = placed_below (suc (offset m n j)) m n j a (omega arith)

  pub only_numbers_law : numbers ≡ entries
  only_numbers_law =
      ext_get_or 0 numbers entries (is.size ∙ sym table_law.size)
      (λ k h.
      let (m, n, j, a, at) = is.each_place k h in
      let e : offset m n j ≡ k = sym (only_places_law m n j a) ∙ at in
      ap (λ (i : ℕ). get_or numbers i 0) (sym at)
      ∙ is.its_disk m n j a
      ∙ sym (table_law.its_disk m n j a)
      ∙ ap (λ (i : ℕ). get_or entries i 0) e)
