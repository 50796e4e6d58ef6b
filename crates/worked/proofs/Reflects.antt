-- Tests that reflect a claim.
use Prim.Native.Nat.{ℕ}
use mathlib.Core.Bool.{Bool, true, false, not, ◌&&◌, ◌||◌, true≢false, false≢true}
use mathlib.Core.List.{List, [], ◌∷◌}
use mathlib.Core.Option.{Option, none, some}
use mathlib.Core.Path.{◌≡◌, refl, ap}
use lib.Dec.{eqb}
use borrow.Author.Tests.{eqb-true, eqb-false}

-- the claim holds and the test passes, or neither
pub data Reflects (P : Type 0) : Bool → Type 0 where
  holds : P → Reflects P true
  fails : (P → ⊥) → Reflects P false

pub passed : {P : Type 0} {test : Bool} → Reflects P test → test ≡ true → P
passed (holds p) e = p
passed (fails f) e = absurd (false≢true e)

pub failed : {P : Type 0} {test : Bool} → Reflects P test → test ≡ false → P → ⊥
failed (holds p) e = absurd (true≢false e)
failed (fails f) e = f

pub both : {P Q : Type 0} {a b : Bool} → Reflects P a → Reflects Q b → Reflects (P × Q) (a && b)
both (holds p) (holds q) = holds (p, q)
both (holds p) (fails g) = fails (λ r. g r.1)
both (fails f) d = fails (λ r. f r.0)

pub implies : {P Q : Type 0} {a b : Bool} → Reflects P a → Reflects Q b → Reflects (P → Q) (not a || b)
implies (holds p) (holds q) = holds (λ _. q)
implies (holds p) (fails g) = fails (λ h. g (h p))
implies (fails f) d = holds (λ p. absurd (f p))

pub same_number : (a b : ℕ) → Reflects (a ≡ b) (eqb a b)
same_number a b = go (eqb a b) refl
  where
    go : (test : Bool) → eqb a b ≡ test → Reflects (a ≡ b) test
    go true e = holds (eqb-true a b e)
    go false e = fails (eqb-false a b e)

abbrev pub is_empty : {A : Type 0} (l : List A) → Bool
is_empty [] = true
is_empty (x ∷ l) = false

pub is_empty_law : {A : Type 0} (l : List A) → Reflects (l ≡ []) (is_empty l)
is_empty_law [] = holds refl
is_empty_law (x ∷ l) = fails (λ e. false≢true (ap is_empty e))

abbrev pub is_nothing : {A : Type 0} (o : Option A) → Bool
is_nothing none = true
is_nothing (some x) = false

pub is_nothing_law : {A : Type 0} (o : Option A) → Reflects (o ≡ none) (is_nothing o)
is_nothing_law none = holds refl
is_nothing_law (some x) = fails (λ e. false≢true (ap is_nothing e))
