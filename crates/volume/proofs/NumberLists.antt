-- The thirteen numbers of a record as a list: each of them, and the state that has them.
use Prim.Native.Nat.{ℕ, zero, suc, ◌<◌}
use mathlib.Core.Path.{◌≡◌, sym}
use mathlib.Core.Bool.{Bool}
use mathlib.Core.List.{List, [], ◌∷◌, ◌++◌}
use native.Mathlib.Decide.{ℕ_discrete}
use native.Mathlib.Omega.{arith}
use lib.Dec.{ltb}
use lib.ListN.{length, take, get_or, get_or-append}
use lib.Seq.{take_at, get_or_at, get_or-append-add}
use borrow.Author.Tests.{ltb-true, ltb-false}
use Rattle.base.proofs.Booleans.{by_test}
use Rattle.volume.specs.declared.Volume.{Volume}
use Rattle.volume.specs.Records.{numbers_of, state_of}
use Rattle.volume.specs.States.{none_pending, with_pending, new_state, with_growth}
use Rattle.volume.proofs.RecordCode.{thirteen_listed, counts_listed}
use Rattle.base.specs.Bits.{word_of}

module _ (counts : List ℕ) (g w : ℕ) (e : length counts ≡ 8) where
  count_at : (k : ℕ) → k < 8 → get_or (counts ++ (g ∷ w ∷ [])) k 0 ≡ get_or counts k 0
  count_at k h = get_or-append counts (g ∷ w ∷ []) 0 k (rw e h)

  growing_at : get_or (counts ++ (g ∷ w ∷ [])) 8 0 ≡ g
  growing_at = get_or_at counts g (w ∷ []) 0 8 e

  window_at : get_or (counts ++ (g ∷ w ∷ [])) 9 0 ≡ w
  window_at = rw e at (get_or-append-add counts (g ∷ w ∷ []) 1 0)

  counts_taken : take 8 (counts ++ (g ∷ w ∷ [])) ≡ counts
  counts_taken = take_at counts (g ∷ w ∷ []) 8 e

  -- the numbers from N[0] on
  after_growths : (P : ℕ → ℕ → Type 0) → ((k : ℕ) → k < 8 → P k (get_or counts k 0)) → P 8 g → P 9 w
      → (k : ℕ) → k < 10 → P k (get_or (counts ++ (g ∷ w ∷ [])) k 0)
  after_growths P c a b k h =
      by_test (ltb k 8) (λ t. let l = ltb-true k 8 t in rw (count_at k l) (c k l))
      (λ f. let l = ltb-false k 8 f in
      elim (ℕ_discrete k 8) [
        | yes q ↦ rw (q, growing_at) a
        | no q ↦ let r : k ≡ 9 = omega (arith, l, q) in rw (r, window_at) b
      ])

module _ (v : Volume) (e : length v.counts ≡ 8) where
  -- what holds of each number at its column holds of the list at each column
  pub numbers_each : (P : ℕ → ℕ → Type 0) → P 0 v.size → P 1 v.rows → P 2 v.growths
      → ((k : ℕ) → k < 8 → P (suc (suc (suc k))) (get_or v.counts k 0)) → P 11 v.growing → P 12 v.window
      → (i : ℕ) → i < 13 → P i (get_or (numbers_of v) i 0)
  unfolding numbers_of
  numbers_each P z s t c g w zero h = z
  numbers_each P z s t c g w (suc zero) h = s
  numbers_each P z s t c g w (suc (suc zero)) h = t
  numbers_each P z s t c g w (suc (suc (suc k))) h =
      after_growths v.counts v.growing v.window e (λ j n. P (suc (suc (suc j))) n) c g w k (omega arith)

  -- the state with a state's numbers
  pub state_back : (marks : List Bool) → state_of (numbers_of v) marks ≡ with_pending (with_growth v v.growths v.counts v.growing v.window (word_of marks) (word_of marks)) none_pending
  unfolding numbers_of state_of with_pending with_growth new_state
  state_back marks =
      rw (
        counts_taken v.counts v.growing v.window e,
        growing_at v.counts v.growing v.window e,
        window_at v.counts v.growing v.window e,
      )

-- thirteen numbers are those of the state with them
pub numbers_back : (numbers : List ℕ) (marks : List Bool) → length numbers ≡ 13 → numbers_of (state_of numbers marks) ≡ numbers
unfolding numbers_of state_of with_growth new_state
numbers_back numbers marks e = rw (counts_listed numbers e) (sym (thirteen_listed numbers e))
