-- An outcome that a table judges: refused with the table's number, or accepted; and what a test answers in the code.
use Prim.Native.Nat.{ℕ}
use mathlib.Core.Path.{◌≡◌, refl, sym, ap, ◌∙◌}
use mathlib.Core.Bool.{Bool, true, cond, false≢true}
use mathlib.Core.List.{List, ◌++◌}
use mathlib.Core.Logic.{◌≢◌}
use lib.Dec.{eqb}
use borrow.Author.Tests.{eq-eqb, ne_eqb, eqb-true, eqb-false}
use Rattle.std.specs.Prelude.{Result, Ok, Err}
use Rattle.std.specs.Result.{IsErrAnd}
use Rattle.std.proofs.lemmas.Result.{err_from_is_err_and}
use Rattle.base.specs.declared.Refusal.{Refusal}
use Rattle.base.specs.Refusals.{refusal, refusal_number, refusal_with, checked}
use Rattle.base.proofs.Booleans.{cond_cases, by_test}
use Rattle.base.proofs.Refusals.{refusal_back, number_told, checked_refused, checked_passed, refused_first}
use Rattle.medium.specs.declared.Geometry.{Geometry}
use Rattle.medium.specs.Medium.{apply}
use Rattle.volume.specs.declared.Volume.{Volume}
use Rattle.volume.specs.Answers.{number, accepted}
use Rattle.volume.specs.declared.Reply.{Reply}
use Rattle.volume.specs.declared.Told.{Told}
use Rattle.volume.specs.Calls.{Outcome, refused, judged, found_at}

-- what holds of the refusal where there is one, and of what is accepted where there is none, holds of what is judged
pub judged_cases : {A : Type 0} (P : A → Type 0) (table : List (ℕ × Bool)) (refusing : ℕ → A) (accepted : A)
    → (refusal table ≡ 0 → P accepted) → ((refusal table ≡ 0 → ⊥) → P (refusing (refusal table))) → P (judged table refusing accepted)
judged_cases P table refusing accepted f g =
    cond_cases P (eqb (refusal table) 0) (λ e. f (eqb-true (refusal table) 0 e)) (λ e. g (eqb-false (refusal table) 0 e))

pub refused_when : {A : Type 0} (table : List (ℕ × Bool)) (refusing : ℕ → A) (accepted : A) → refusal table ≢ 0
    → judged table refusing accepted ≡ refusing (refusal table)
refused_when table refusing accepted h = simp (ne_eqb (refusal table) 0 h)

pub accepted_when : {A : Type 0} (table : List (ℕ × Bool)) (refusing : ℕ → A) (accepted : A) → refusal table ≡ 0
    → judged table refusing accepted ≡ accepted
accepted_when table refusing accepted e = simp (eq-eqb (refusal table) 0 e)

-- by two tables with the same refusal
pub same_judged : {A : Type 0} (table other : List (ℕ × Bool)) (refusing : ℕ → A) (accepted : A) → refusal table ≡ refusal other
    → judged table refusing accepted ≡ judged other refusing accepted
same_judged table other refusing accepted e = ap (λ (k : ℕ). cond (eqb k 0) accepted (refusing k)) e

-- ---- the refusal that a number tells

abbrev pub Tells : (k : ℕ) (r : Refusal) → Type 0
Tells k r = (k ≢ 0) × (refusal_with k ≡ r)

pub tells : (k : ℕ) (r : Refusal) → refusal_number r ≡ k → Tells k r
tells k r e = (λ z. number_told r (e ∙ z), rw (← e) (refusal_back r))

-- that of a table, and of this table with another one behind it
pub tells_before : (a b : List (ℕ × Bool)) (r : Refusal) → Tells (refusal a) r → Tells (refusal (a ++ b)) r
tells_before a b r f = rw (refused_first a b f.0) f

-- ---- what a test answers in the code

pub err_checked : (k : ℕ) (r : Refusal) → Tells k r → ◌≡◌ {A = Result (Unit {0}) Refusal} (Err r) (checked k)
unfolding checked
err_checked k r f = rw (ne_eqb k 0 f.0, f.1)

pub ok_checked : (k : ℕ) → k ≡ 0 → ◌≡◌ {A = Result (Unit {0}) Refusal} (Ok tt) (checked k)
unfolding checked
ok_checked k e = rw e

pub err_tells : (k : ℕ) (r : Refusal) → ◌≡◌ {A = Result (Unit {0}) Refusal} (Err r) (checked k) → Tells k r
err_tells k r e = checked_refused k r (sym e)

pub ok_takes : (k : ℕ) (u : Unit {0}) → ◌≡◌ {A = Result (Unit {0}) Refusal} (Ok u) (checked k) → k ≡ 0
ok_takes k u e = checked_passed k u (sym e)

pub checked_tells : (a : Result (Unit {0}) Refusal) (k : ℕ) (r : Refusal) → a ≡ checked k → a ≡ Err r → Tells k r
checked_tells a k r e f = checked_refused k r (sym e ∙ f)

pub checked_takes : (a : Result (Unit {0}) Refusal) (k : ℕ) → a ≡ checked k → ((r : Refusal) → a ≢ Err r) → k ≡ 0
unfolding checked
checked_takes a k e other = by_test (eqb k 0) (λ z. eqb-true k 0 z) (λ z. absurd (other (refusal_with k) (rw z at e)))

-- what a `?` hands back
pub exits : {A : Type 0} (a b : Result A Refusal) (r : Refusal) → IsErrAnd a (λ q. q ≡ r) → Err r ≡ b → a ≡ b
exits a b r e f = let p = err_from_is_err_and a e in rw (p.1, p.2) f

-- what it finds
module _ {A : Type 0} (k : ℕ) (found : A) where
  pub err_found : (r : Refusal) → Tells k r → ◌≡◌ {A = Result A Refusal} (Err r) (found_at k found)
  unfolding found_at
  err_found r f = rw (ne_eqb k 0 f.0, f.1)

  pub ok_found : (q : A) → k ≡ 0 → q ≡ found → ◌≡◌ {A = Result A Refusal} (Ok q) (found_at k found)
  unfolding found_at
  ok_found q e f = rw (e, f)

  pub found_tells : (a : Result A Refusal) (r : Refusal) → a ≡ found_at k found → a ≡ Err r → Tells k r
  unfolding found_at
  found_tells a r e f =
      by_test (eqb k 0) (λ z. absurd (let g : ◌≡◌ {A = Result A Refusal} (Ok found) (Err r) = rw z at (sym e ∙ f) in cc))
      (λ z. (eqb-false k 0 z, let g : ◌≡◌ {A = Result A Refusal} (Err (refusal_with k)) (Err r) = rw z at (sym e ∙ f) in cc))

  pub found_takes : (a : Result A Refusal) (q : A) → a ≡ found_at k found → a ≡ Ok q → (k ≡ 0) × (q ≡ found)
  unfolding found_at
  found_takes a q e f =
      by_test (eqb k 0) (λ z. (eqb-true k 0 z, let g : ◌≡◌ {A = Result A Refusal} (Ok found) (Ok q) = rw z at (sym e ∙ f) in cc))
      (λ z. absurd (let g : ◌≡◌ {A = Result A Refusal} (Err (refusal_with k)) (Ok q) = rw z at (sym e ∙ f) in cc))

-- ---- calls on a medium

-- a refused call: the reply that the code makes, and the medium and the piece as they were
module _ (table : List (ℕ × Bool)) (v : Volume) (piece : List ℕ) (accepted : Outcome) (r : Refusal) (f : Tells (refusal table) r) where
  abbrev refusing : Outcome
  refusing = judged table (λ k. refused v k piece) accepted

  pub refused_reply : (w : Volume) (q : Reply Told) → w ≡ v → q ≡ record { state = w; answer = Err r } → q ≡ refusing.reply
  unfolding refused
  refused_reply w q same made = rw (refused_when table (λ k. refused v k piece) accepted f.0, f.1) (rw same at made)

  pub refused_stores : (g : Geometry) (m : List ℕ) → m ≡ apply g refusing.store m
  unfolding refused apply
  refused_stores g m = rw (refused_when table (λ k. refused v k piece) accepted f.0)

  pub refused_piece : piece ≡ refusing.piece
  unfolding refused
  refused_piece = rw (refused_when table (λ k. refused v k piece) accepted f.0)

-- an accepted call: the reply, the medium and the piece that the code makes of it
module _ (table : List (ℕ × Bool)) (v : Volume) (piece : List ℕ) (accepted : Outcome) (e : refusal table ≡ 0) where
  abbrev accepting : Outcome
  accepting = judged table (λ k. refused v k piece) accepted

  pub accepted_reply : (q : Reply Told) → q ≡ accepted.reply → q ≡ accepting.reply
  accepted_reply q made = rw (accepted_when table (λ k. refused v k piece) accepted e) made

  pub accepted_stores : (g : Geometry) (m after : List ℕ) → after ≡ apply g accepted.store m → after ≡ apply g accepting.store m
  accepted_stores g m after made = rw (accepted_when table (λ k. refused v k piece) accepted e) made

  pub accepted_piece : (after : List ℕ) → after ≡ accepted.piece → after ≡ accepting.piece
  accepted_piece after made = rw (accepted_when table (λ k. refused v k piece) accepted e) made

-- an accepted call's number is 0
pub accepted_number : (a : Result Told Refusal) → accepted a ≡ true → number a ≡ 0
unfolding accepted number
accepted_number (Err r) e = absurd (false≢true e)
accepted_number (Ok t) e = refl
