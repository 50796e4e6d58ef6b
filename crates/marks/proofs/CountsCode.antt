-- What the tests of counts find, read in the counts themselves.
use Rattle.std.proofs.Common.{◌≡◌, ◌≢◌, ℕ, zero, suc, ◌+◌, ◌-◌, ◌≤◌, ◌<◌, Bool, true, false, List, length, get_or, take, drop, sym, add-one, arith, ltb-true, ltb-false, eqb-true, ◌∙◌}
use Rattle.std.specs.Prelude.{◌↔◌, IsTrue, EachIndex, nat_lt}
use Rattle.std.specs.List.{IsAllAdjacentAnswer}
use Rattle.std.proofs.lemmas.List.{get_or-take, get_or-drop, length-take-le, length-drop}
use mathlib.Core.Bool.{◌||◌, or-true}
use native.Mathlib.Decide.{dec_lt}
use lib.Dec.{eqb, leb}
use borrow.Author.Tests.{le-leb, lt-leb, eq-eqb}
use Rattle.base.specs.Below.{every}
use Rattle.base.proofs.Booleans.{same_test}
use Rattle.base.proofs.Counting.{every_use, every_make}
use Rattle.layout.specs.History.{history, rising}
use Rattle.layout.proofs.HistoryCode.{rising_first, rising_more, not_rising_more, not_rising_later}
use Rattle.marks.specs.Marks.{zeros_after}

-- a count that is not above the one before it
module _ (t : ℕ) (counts : List ℕ) (h : t < length counts) where
  abbrev passed : List ℕ
  passed = take (t + 1) counts

  passed_length : length passed ≡ t + 1
  passed_length = length-take-le (t + 1) counts (omega arith)

  next_of : (k : ℕ) (r : Bool) → k + 1 < length passed → r ≡ nat_lt (get_or passed k 0) (get_or passed (k + 1) 0)
      → (k < t) × (r ≡ nat_lt (get_or counts k 0) (get_or counts (k + 1) 0))
  next_of k r l e =
      let b : k < t = omega (arith, passed_length) in
      (b, rw (get_or-take (t + 1) counts k 0 (omega arith), get_or-take (t + 1) counts (k + 1) 0 (omega arith)) at e)

-- where each count is above the one before it the history rises
risen : (t j : ℕ) (counts : List ℕ) → 0 < get_or counts 0 0 → ((k : ℕ) → k < t → get_or counts k 0 < get_or counts (k + 1) 0) → j ≤ t
    → rising (history j counts) ≡ true
risen t zero counts h f l = rising_first counts h
risen t (suc j) counts h f l = rw add-one at (rising_more j counts (risen t j counts h f (omega arith)) (f j (omega arith)))

pub rising_told : (t : ℕ) (counts : List ℕ) → t < length counts → get_or counts 0 0 ≢ 0 → (r : Bool)
    → IsAllAdjacentAnswer (λ x y b. b ≡ nat_lt x y) (take (t + 1) counts) r → r ≡ rising (history t counts)
rising_told t counts h g true a =
    sym (risen t t counts (omega arith) (λ k l. ltb-true _ _ (sym (next_of t counts h k true (omega (arith, passed_length t counts h)) (a k 0 (omega (arith, passed_length t counts h)))).1)) (omega arith))
rising_told t counts h g false a =
    let b = next_of t counts h a.0 false a.1 (a.2 0) in
    sym (not_rising_later (a.0 + 1) t counts (omega arith) (not_rising_more a.0 counts (ltb-false _ _ (sym b.1))))

-- the counts from t + 1 on
module _ (t : ℕ) (counts rest : List ℕ) (h : length counts ≡ 8) (e : rest ≡ take (8 - (t + 1)) (drop (t + 1) counts)) where
  rest_length : length rest ≡ 8 - (t + 1)
  rest_length = rw e (length-take-le (8 - (t + 1)) (drop (t + 1) counts) (rw length-drop (omega (arith, h))))

  rest_at : (k : ℕ) → k < length rest → get_or rest k 0 ≡ get_or counts (t + 1 + k) 0
  rest_at k l =
      let b : k < 8 - (t + 1) = omega (arith, rest_length) in
      rw (e, get_or-take (8 - (t + 1)) (drop (t + 1) counts) k 0 b) (get_or-drop (t + 1) counts k 0)

  -- they are zero where each test passes
  pub zeros_told : (r : Bool) → IsTrue r ↔ EachIndex rest (λ k. get_or rest k 0 ≡ 0) → r ≡ zeros_after counts t
  unfolding zeros_after
  zeros_told r a =
      same_test r (every (λ i. leb i t || eqb (get_or counts i 0) 0) 8)
      (λ f. every_make _ 8
      (λ i l. elim (dec_lt t i) [
        | yes g ↦
            let k : t + 1 + (i - (t + 1)) ≡ i = omega arith in
            let b : i - (t + 1) < length rest = omega (arith, rest_length) in
            let z : get_or counts i 0 ≡ 0 = rw (← k) (sym (rest_at (i - (t + 1)) b) ∙ a.0 f (i - (t + 1)) b) in
            rw (eq-eqb _ 0 z) (or-true (leb i t))
        | no g ↦ rw (le-leb i t (omega (arith, g)))
      ]))
      (λ f. a.1
      (λ k b. rest_at k b
      ∙ eqb-true _ 0 (rw (lt-leb (t + 1 + k) t (omega arith)) at (every_use _ 8 f (t + 1 + k) (omega (arith, rest_length))))))
