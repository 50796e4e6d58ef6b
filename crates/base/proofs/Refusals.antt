-- Laws of tables of refusals.
use Prim.Native.Nat.{ℕ, ◌<◌}
use mathlib.Core.Path.{◌≡◌, refl, sym, ap, ◌∙◌}
use mathlib.Core.Bool.{Bool, true, false, cond, not, ◌&&◌, ◌||◌}
use mathlib.Core.List.{List, [], ◌∷◌, ◌++◌}
use mathlib.Core.Logic.{◌≢◌}
use native.Mathlib.Omega.{arith}
use lib.Dec.{eqb, ltb}
use borrow.Author.Tests.{eqb-true, eqb-false, ne_eqb, ltb-true, not-true, not-false}
use Rattle.std.specs.Prelude.{Ok, Err}
use Rattle.base.specs.declared.Refusal.{Refusal}
use Rattle.base.specs.declared.Refusal.TheVariants.{NotSound, MediumTooShort, BlockNotOpen, PieceSize, NotGrowing, Growing, CopyNotRecorded, OutsideLimits, NoMoreGrowths, NotMoving, AlreadyCopied, NothingToRecord, NoRecord, NoSuchSpot, NoBlockThere, PageTooShort, NoSuchScene, FlushBlocks, FlushRecord, BeyondDoubling, OutsideSpan}
use Rattle.base.specs.Refusals.{refusal, row_after, refusal_number, refusals, refusal_with, checked}
use Rattle.base.proofs.Booleans.{and_left, and_right, by_test}

-- where there is no refusal, the first test fails and the tests after it refuse nothing
pub passed : (k : ℕ) (test : Bool) (table : List (ℕ × Bool)) → 0 < k → refusal ((k, test) ∷ table) ≡ 0 → (test ≡ false) × (refusal table ≡ 0)
unfolding refusal
passed k true table h e = absurd (omega arith)
passed k false table h e = (refl, e)

-- the same of a test that has to hold
pub held : (k : ℕ) (test : Bool) (table : List (ℕ × Bool)) → 0 < k → refusal ((k, not test) ∷ table) ≡ 0 → (test ≡ true) × (refusal table ≡ 0)
held k test table h e = let p = passed k (not test) table h e in (not-false test p.0, p.1)

-- ---- a table's numbers

-- do all of them pass a test
abbrev pub all_numbers : (test : ℕ → Bool) (table : List (ℕ × Bool)) → Bool
all_numbers test [] = true
all_numbers test (check ∷ table) = test check.0 && all_numbers test table

-- then the refusal does, and where there is none, 0 does
pub refusal_passes : (test : ℕ → Bool) (table : List (ℕ × Bool)) → test 0 ≡ true → all_numbers test table ≡ true → test (refusal table) ≡ true
unfolding refusal
refusal_passes test [] z h = z
refusal_passes test (check ∷ table) z h =
    by_test check.1 (λ e. rw e (and_left (test check.0) (all_numbers test table) h))
    (λ e. rw e (refusal_passes test table z (and_right (test check.0) (all_numbers test table) h)))

-- a number that none of them is
pub never_told : (k : ℕ) (table : List (ℕ × Bool)) → 0 < k → all_numbers (λ j. not (eqb j k)) table ≡ true → refusal table ≢ k
never_told k table h n e =
    let z : not (eqb 0 k) ≡ true = rw (ne_eqb 0 k (λ e. omega arith)) in
    let p = refusal_passes (λ j. not (eqb j k)) table z n in
    eqb-false (refusal table) k (not-true (eqb (refusal table) k) p) e

-- is none of them 0
abbrev pub numbered : (table : List (ℕ × Bool)) → Bool
numbered table = all_numbers (ltb 0) table

-- ---- a table with another one behind it

-- where the first refuses, so do both
pub refused_first : (a b : List (ℕ × Bool)) → refusal a ≢ 0 → refusal (a ++ b) ≡ refusal a
unfolding refusal
refused_first [] b h = absurd (h refl)
refused_first (check ∷ a) b h = by_test check.1 (λ e. rw e) (λ e. rw e (refused_first a b (rw e at h)))

-- where the first refuses nothing, the second decides
pub passed_first : (a b : List (ℕ × Bool)) → numbered a ≡ true → refusal a ≡ 0 → refusal (a ++ b) ≡ refusal b
unfolding refusal
passed_first [] b n h = refl
passed_first (check ∷ a) b n h =
    by_test check.1
    (λ e.
    let k : check.0 ≡ 0 = rw e at h in
    absurd (omega (arith, k, ltb-true 0 check.0 (and_left (ltb 0 check.0) (numbered a) n))))
    (λ e. rw e (passed_first a b (and_right (ltb 0 check.0) (numbered a) n) (rw e at h)))

-- where both together refuse nothing, neither does
pub both_passed : (a b : List (ℕ × Bool)) → numbered a ≡ true → refusal (a ++ b) ≡ 0 → (refusal a ≡ 0) × (refusal b ≡ 0)
both_passed a b n e =
    by_test (eqb (refusal a) 0) (λ z. let q = eqb-true (refusal a) 0 z in (q, sym (passed_first a b n q) ∙ e))
    (λ z. let q = eqb-false (refusal a) 0 z in absurd (q (sym (refused_first a b q) ∙ e)))

-- ---- a table with one row more

-- where that row does not refuse, the table is as it was
pub row_passes : (k n : ℕ) (table : List (ℕ × Bool)) → refusal (row_after k (n, false) table) ≡ refusal table
unfolding row_after refusal
row_passes k n [] = refl
row_passes k n (check ∷ table) = go (eqb check.0 k) (row_passes k n table)
  where
    go : (b : Bool) → refusal (row_after k (n, false) table) ≡ refusal table
        → refusal (cond b (check ∷ (n, false) ∷ table) (check ∷ row_after k (n, false) table)) ≡ cond check.1 check.0 (refusal table)
    go true e = unfold refusal in refl
    go false e = unfold refusal in ap (λ (j : ℕ). cond check.1 check.0 j) e

-- ---- numbers and refusals

-- the refusal of a refusal's number is that refusal
pub refusal_back : (r : Refusal) → refusal_with (refusal_number r) ≡ r
unfolding refusal_with refusals refusal_number
refusal_back r = elim r as (λ r. refusal_with (refusal_number r) ≡ r) [ NotSound ↦ refl | MediumTooShort ↦ refl | BlockNotOpen ↦ refl | PieceSize ↦ refl | NotGrowing ↦ refl | Growing ↦ refl | CopyNotRecorded ↦ refl | OutsideLimits ↦ refl | NoMoreGrowths ↦ refl | NotMoving ↦ refl | AlreadyCopied ↦ refl | NothingToRecord ↦ refl | NoRecord ↦ refl | NoSuchSpot ↦ refl | NoBlockThere ↦ refl | PageTooShort ↦ refl | NoSuchScene ↦ refl | FlushBlocks ↦ refl | FlushRecord ↦ refl | BeyondDoubling ↦ refl | OutsideSpan ↦ refl ]

-- and its number is not 0
pub number_told : (r : Refusal) → refusal_number r ≢ 0
unfolding refusal_number
number_told r = elim r as (λ r. refusal_number r ≢ 0) [ NotSound ↦ (λ e. omega arith) | MediumTooShort ↦ (λ e. omega arith) | BlockNotOpen ↦ (λ e. omega arith) | PieceSize ↦ (λ e. omega arith) | NotGrowing ↦ (λ e. omega arith) | Growing ↦ (λ e. omega arith) | CopyNotRecorded ↦ (λ e. omega arith) | OutsideLimits ↦ (λ e. omega arith) | NoMoreGrowths ↦ (λ e. omega arith) | NotMoving ↦ (λ e. omega arith) | AlreadyCopied ↦ (λ e. omega arith) | NothingToRecord ↦ (λ e. omega arith) | NoRecord ↦ (λ e. omega arith) | NoSuchSpot ↦ (λ e. omega arith) | NoBlockThere ↦ (λ e. omega arith) | PageTooShort ↦ (λ e. omega arith) | NoSuchScene ↦ (λ e. omega arith) | FlushBlocks ↦ (λ e. omega arith) | FlushRecord ↦ (λ e. omega arith) | BeyondDoubling ↦ (λ e. omega arith) | OutsideSpan ↦ (λ e. omega arith) ]

-- a test that passed: its table refuses nothing
pub checked_passed : (k : ℕ) (u : Unit {0}) → checked k ≡ Ok u → k ≡ 0
unfolding checked
checked_passed k u e = by_test (eqb k 0) (λ z. eqb-true k 0 z) (λ z. absurd (let h : Err (refusal_with k) ≡ Ok u = rw z at e in cc))

-- a test that refused: its table refuses, with the number of this refusal
pub checked_refused : (k : ℕ) (r : Refusal) → checked k ≡ Err r → (k ≢ 0) × (refusal_with k ≡ r)
unfolding checked
checked_refused k r e =
    by_test (eqb k 0) (λ z. absurd (let h : Ok tt ≡ Err r = rw z at e in cc))
    (λ z. let h : Err (refusal_with k) ≡ Err r = rw z at e in (eqb-false k 0 z, cc))

-- is a number 0 or a refusal's
abbrev pub has_refusal : (k : ℕ) → Bool
has_refusal k = eqb k 0 || eqb (refusal_number (refusal_with k)) k

-- the number of what a table with only such numbers refuses
pub number_back : (table : List (ℕ × Bool)) → all_numbers has_refusal table ≡ true → refusal table ≢ 0
    → refusal_number (refusal_with (refusal table)) ≡ refusal table
number_back table n h =
    let p = refusal_passes has_refusal table refl n in
    eqb-true (refusal_number (refusal_with (refusal table))) (refusal table) (rw (ne_eqb (refusal table) 0 h) at p)
