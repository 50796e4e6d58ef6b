-- Further calls after a list that leaves a growth running, computed: where what their advances told is wrong, they break a part of demand 3.
use Prim.Native.Nat.{ℕ, ◌-◌}
use mathlib.Core.Path.{◌≡◌, refl, ap, ◌∙◌, subst}
use mathlib.Core.Bool.{Bool, true, false, cond, not, ◌&&◌, false≢true}
use mathlib.Core.List.{List, [], ◌∷◌, ◌++◌}
use mathlib.Core.Logic.{inl}
use lib.Dec.{ltb, eqb}
use lib.ListN.{length, replicate}
use borrow.Author.Tests.{ltb-true, eqb-true, not-true}
use Rattle.base.proofs.Booleans.{and_left, and_right, clash}
use Rattle.layout.specs.Tally.{Mode, is_running, calls_left_of}
use Rattle.promise.specs.Calls.{Call}
use Rattle.promise.specs.Lists.{Event, NoEarlyCut}
use Rattle.promise.specs.Model.{Model}
use Rattle.promise.specs.Promise.{Start, system_after, model_of}
use Rattle.promise.specs.WithoutCache.{DirectEvent, flushed_after, from_format, DirectFurther}
use Rattle.promise.proofs.WithoutCache.{from_append}
use Rattle.worked.specs.WrongPrograms.{Act}
use Rattle.promise.specs.Parts.{NoneTold, Finished, LastTold, EveryFurther, EveryDirectFurther}
use Rattle.worked.proofs.Computed.{Tested, tested}
use Rattle.worked.proofs.EveryProgram.{further_direct}
use Rattle.worked.proofs.BrokenGrowths.{GrowthHeard, accepted_only, all_of, advances_heard, accepted_told, direct_told, Covered, heard_there, growth_test, growth_tested}

-- ---- parts about the further calls

-- what the advances told, those accepted or all, is wrong; both
abbrev pub wrong_for : (wrong : (told : List Bool) (mode : Mode) (n : ℕ) → Bool) (counted : List (Bool × Bool) → List Bool) → GrowthHeard → Model → Model → Bool
wrong_for wrong counted h k last = wrong (counted h.advances) last.tally.mode (calls_left_of k.tally)

abbrev pub wrong_twice : (wrong : (told : List Bool) (mode : Mode) (n : ℕ) → Bool) → GrowthHeard → Model → Model → Bool
wrong_twice wrong h k last = wrong_for wrong accepted_only h k last && wrong_for wrong all_of h k last

module _ (P : (told : List Bool) (mode : Mode) (n : ℕ) → Type 0) (wrong : (told : List Bool) (mode : Mode) (n : ℕ) → Bool)
    (refutes : (told : List Bool) (mode : Mode) (n : ℕ) → wrong told mode n ≡ true → P told mode n → ⊥)
    (calls : (c : Call) → Act) (a : Start) (es further : List DirectEvent) (f : DirectFurther further) where
  abbrev wrong_there : (counted : List (Bool × Bool) → List Bool) → Bool
  wrong_there counted =
      wrong_for wrong counted (heard_there calls a (from_format es) (flushed_after further)) (model_of calls a (from_format es)) (model_of calls a (from_format es ++ flushed_after further))

  further_broken : Covered calls a (from_format es) → wrong_there accepted_only ≡ true → EveryFurther calls P → ⊥
  unfolding from_format NoEarlyCut
  further_broken c t every =
      refutes _ _ _ t
      (subst (λ (told : List Bool). P told (model_of calls a (from_format es ++ flushed_after further)).tally.mode (calls_left_of (model_of calls a (from_format es)).tally))
      (accepted_told calls (system_after calls a (from_format es)) (flushed_after further))
      (every a c.format_accepted (from_format es) c.lawful (inl refl) c.is_up_law c.is_running_law (flushed_after further) (further_direct calls f _)))

  direct_broken : Covered calls a (from_format es) → wrong_there all_of ≡ true → EveryDirectFurther calls P → ⊥
  direct_broken c t every =
      refutes _ _ _ t
      (subst (λ (l : List Event). P (all_of (advances_heard calls (system_after calls a (from_format es)) (flushed_after further))) (model_of calls a l).tally.mode (calls_left_of (model_of calls a (from_format es)).tally))
      (from_append es further)
      (subst (λ (told : List Bool). P told (model_of calls a (from_format (es ++ further))).tally.mode (calls_left_of (model_of calls a (from_format es)).tally))
      (direct_told calls (system_after calls a (from_format es)) further)
      (every a c.format_accepted es c.lawful c.is_up_law c.is_running_law further f)))

  -- on drives that keep no store; on both
  pub broken_direct : Tested calls (λ p. growth_test p a (from_format es) (flushed_after further) (wrong_for wrong all_of)) → EveryDirectFurther calls P → ⊥
  broken_direct t =
      let both = growth_tested calls a (from_format es) (flushed_after further) (wrong_for wrong all_of)
      (tested calls (λ p. growth_test p a (from_format es) (flushed_after further) (wrong_for wrong all_of)) t) in
      direct_broken both.0 both.1

  pub broken_twice : Tested calls (λ p. growth_test p a (from_format es) (flushed_after further) (wrong_twice wrong))
      → (EveryFurther calls P → ⊥) × (EveryDirectFurther calls P → ⊥)
  broken_twice t =
      let both = growth_tested calls a (from_format es) (flushed_after further) (wrong_twice wrong)
      (tested calls (λ p. growth_test p a (from_format es) (flushed_after further) (wrong_twice wrong)) t) in (
        further_broken both.0 (and_left (wrong_there accepted_only) (wrong_there all_of) both.1),
        direct_broken both.0 (and_right (wrong_there accepted_only) (wrong_there all_of) both.1),
      )

-- ---- what is wrong

unfoldable pub same_told : (told others : List Bool) → Bool
same_told [] [] = true
same_told [] (c ∷ others) = false
same_told (b ∷ told) [] = false
same_told (b ∷ told) (c ∷ others) = cond b c (not c) && same_told told others

same_told_law : (told : List Bool) → same_told told told ≡ true
unfolding same_told
same_told_law [] = refl
same_told_law (true ∷ told) = same_told_law told
same_told_law (false ∷ told) = same_told_law told

pub are_same : (told others : List Bool) → same_told told others ≡ true → told ≡ others
unfolding same_told
are_same [] [] t = refl
are_same [] (c ∷ others) t = absurd (false≢true t)
are_same (b ∷ told) [] t = absurd (false≢true t)
are_same (true ∷ told) (true ∷ others) t = ap (λ (l : List Bool). true ∷ l) (are_same told others t)
are_same (true ∷ told) (false ∷ others) t = absurd (false≢true t)
are_same (false ∷ told) (true ∷ others) t = absurd (false≢true t)
are_same (false ∷ told) (false ∷ others) t = ap (λ (l : List Bool). false ∷ l) (are_same told others t)

pub not_same : (told others : List Bool) → not (same_told told others) ≡ true → told ≡ others → ⊥
not_same told others t e = clash (same_told_law told) (ap (same_told told) e ∙ not-true _ t)

-- finished is told by one of fewer calls; it runs after all; the last of them does not tell it, or another does
abbrev pub told_early : (told : List Bool) (mode : Mode) (n : ℕ) → Bool
told_early told mode n = ltb (length told) n && not (same_told told (replicate (length told) false))

abbrev pub runs_on : (told : List Bool) (mode : Mode) (n : ℕ) → Bool
runs_on told mode n = eqb (length told) n && is_running mode

abbrev pub told_late : (told : List Bool) (mode : Mode) (n : ℕ) → Bool
told_late told mode n = eqb (length told) n && not (same_told told (replicate (n - 1) false ++ (true ∷ [])))

pub refutes_none_told : (told : List Bool) (mode : Mode) (n : ℕ) → told_early told mode n ≡ true → NoneTold told mode n → ⊥
refutes_none_told told mode n t right =
    not_same told _ (and_right (ltb (length told) n) _ t) (right (ltb-true (length told) n (and_left (ltb (length told) n) _ t)))

pub refutes_finished : (told : List Bool) (mode : Mode) (n : ℕ) → runs_on told mode n ≡ true → Finished told mode n → ⊥
refutes_finished told mode n t right =
    clash (and_right (eqb (length told) n) _ t) (right (eqb-true (length told) n (and_left (eqb (length told) n) _ t)))

pub refutes_last_told : (told : List Bool) (mode : Mode) (n : ℕ) → told_late told mode n ≡ true → LastTold told mode n → ⊥
refutes_last_told told mode n t right =
    not_same told _ (and_right (eqb (length told) n) _ t) (right (eqb-true (length told) n (and_left (eqb (length told) n) _ t)))
