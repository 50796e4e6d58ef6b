-- Document 02, W7: grow, and the grow without 20.
use Prim.Native.Nat.{ℕ, ◌*◌, ◌<◌}
use mathlib.Core.Path.{◌≡◌, refl, sym, ◌∙◌}
use mathlib.Core.Bool.{Bool, true, false}
use mathlib.Core.List.{List, ◌∷◌}
use mathlib.Core.Logic.{◌≢◌}
use native.Mathlib.Omega.{arith}
use lib.Dec.{eqb, ltb}
use borrow.Author.Tests.{eqb-true, eqb-false, eq-eqb, ne_eqb, ltb-true, lt-ltb, le-ltb, lt-leb}
use Rattle.base.specs.Refusals.{refusal}
use Rattle.base.proofs.Booleans.{by_test}
use Rattle.base.proofs.Refusals.{never_told, refused_first, passed_first}
use Rattle.layout.specs.Limits.{most_disks, most_growths}
use Rattle.medium.specs.Medium.{Observations}
use Rattle.volume.specs.declared.Volume.{Volume}
use Rattle.volume.specs.Calls.{doubling_rows, grow_table_of, grow_table, grow_beyond_doubling_table, grow_outcome_of, grow_outcome, grow_beyond_doubling_outcome}
use Rattle.volume.specs.Laws.{MayGrow, TwoGrows}
use Rattle.volume.specs.States.{disks}
use Rattle.volume.proofs.Accepted.{count_tests, last_tests, may_grow}

-- where their tables tell the same number, the two have the same outcome
same_outcome : (v : Volume) (count : ℕ) (o : Observations)
    → refusal (grow_table v count o.byte_count) ≡ refusal (grow_beyond_doubling_table v count o.byte_count)
    → grow_outcome v count o ≡ grow_beyond_doubling_outcome v count o
unfolding grow_outcome_of
same_outcome v count o e = rw e

tests_pass : (limited : Bool) (v : Volume) (count byte_count : ℕ) → MayGrow v count → refusal (count_tests limited v count byte_count) ≡ 0
unfolding refusal grow_table_of
tests_pass limited v count byte_count m =
    simp (
      m.is_sound,
      eq-eqb v.growing 0 m.not_growing_law,
      ne_eqb v.growths most_growths (λ e. omega (arith, e, m.one_more)),
      lt-leb count (disks v) m.more_disks,
      le-ltb most_disks count m.disks_most,
    )

module _ (v : Volume) (count byte_count : ℕ) where
  abbrev tests : List (ℕ × Bool)
  tests = count_tests true v count byte_count

  abbrev exceeds : Bool
  exceeds = ltb (2 * disks v) count

  abbrev last : List (ℕ × Bool)
  last = last_tests v count byte_count

  abbrev beyond : List (ℕ × Bool)
  beyond = (20, exceeds) ∷ last

  -- where the count does not exceed twice N[t], the last tests decide
  decided : exceeds ≡ false → refusal beyond ≡ refusal last
  unfolding refusal
  decided e = rw e

  told_beyond : refusal tests ≡ 0 → 2 * disks v < count → refusal (grow_table v count byte_count) ≡ 20
  unfolding grow_table_of doubling_rows
  told_beyond e h =
      let t : refusal beyond ≡ 20 = unfold refusal in rw (lt-ltb (2 * disks v) count h) in
      passed_first tests beyond refl e ∙ t

  beyond_told : refusal (grow_table v count byte_count) ≡ 20 → (refusal tests ≡ 0) × (2 * disks v < count)
  unfolding grow_table_of doubling_rows
  beyond_told t =
      by_test (eqb (refusal tests) 0)
      (λ z.
      let q = eqb-true (refusal tests) 0 z in
      by_test exceeds (λ x. (q, ltb-true (2 * disks v) count x))
      (λ x. absurd (never_told 20 last (omega arith) refl (sym (passed_first tests beyond refl q ∙ decided x) ∙ t))))
      (λ z. absurd (never_told 20 tests (omega arith) refl (sym (refused_first tests beyond (eqb-false (refusal tests) 0 z)) ∙ t)))

  same_refusal : refusal (grow_table v count byte_count) ≢ 20 → refusal (grow_table v count byte_count) ≡ refusal (grow_beyond_doubling_table v count byte_count)
  unfolding grow_table_of doubling_rows
  same_refusal h =
      by_test (eqb (refusal tests) 0)
      (λ z.
      let q = eqb-true (refusal tests) 0 z in
      passed_first tests beyond refl q
      ∙ by_test exceeds (λ x. absurd (h (told_beyond q (ltb-true (2 * disks v) count x)))) decided
      ∙ sym (passed_first tests last refl q))
      (λ z. let q = eqb-false (refusal tests) 0 z in refused_first tests beyond q ∙ sym (refused_first tests last q))

  never_beyond : refusal (grow_beyond_doubling_table v count byte_count) ≢ 20
  unfolding grow_table_of doubling_rows
  never_beyond = never_told 20 (grow_beyond_doubling_table v count byte_count) (omega arith) refl

pub two_grows : (v : Volume) (count : ℕ) (o : Observations) → TwoGrows v count o
two_grows v count o =
    let n = o.byte_count in
    record {
      refused_beyond = λ m. told_beyond v count n (tests_pass true v count n m);
      beyond_refused = λ t. let f = beyond_told v count n t in (may_grow true v count n f.0, f.1);
      same_otherwise = λ h. same_outcome v count o (same_refusal v count n h);
      never_beyond = never_beyond v count n;
    }
