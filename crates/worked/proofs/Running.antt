-- A list that leaves a growth running, of which is known what plain volume and tally are fed: what demand 3 says of it.
use Prim.Native.Nat.{ℕ, suc}
use mathlib.Core.Bool.{true, cond, ◌&&◌}
use mathlib.Core.List.{List, [], ◌∷◌}
use mathlib.Core.Option.{none, some}
use mathlib.Core.Path.{◌≡◌, refl, ap, ◌∙◌, subst}
use lib.ListN.{length}
use Rattle.base.proofs.Booleans.{by_test}
use Rattle.layout.specs.Tally.{is_running, calls_left_of}
use Rattle.volume.specs.Answers.{accepted}
use Rattle.promise.specs.Calls.{is_advance, Fed, ended, cut_in}
use Rattle.promise.specs.Lists.{Event, System, IsUp, runs, cut, is_accepted, call_outcome, after, NoEarlyCut, Lawful, AllFurther, fed, fed_all, last_reported, tellings, finished_told}
use Rattle.promise.specs.Model.{Model}
use Rattle.promise.specs.Promise.{Start, Finishing, Kept, formatted, begin, system_after, model_of}
use Rattle.promise.specs.WithoutCache.{DirectEvent, from_format, system_without, DirectFurther, DirectFinishing, DirectKept}
use Rattle.promise.proofs.Theorem.{promise}
use Rattle.promise.proofs.WithoutCache.{promise_without_cache}
use Rattle.worked.proofs.Computed.{model_fed, model_fed_law}

-- ---- plain volume and tally, by what they are fed

module _ (a : Start) (es : List Event) (fs : List Fed) (told : fed_all call_outcome (begin a) es ≡ fs) where
  runs_fed : is_running (model_fed a fs).tally.mode ≡ true → is_running (model_of call_outcome a es).tally.mode ≡ true
  runs_fed on = ap (λ (k : Model). is_running k.tally.mode) (model_fed_law call_outcome a es fs told) ∙ on

  pub left_fed : (n : ℕ) → calls_left_of (model_fed a fs).tally ≡ n → calls_left_of (model_of call_outcome a es).tally ≡ n
  left_fed n left = ap (λ (k : Model). calls_left_of k.tally) (model_fed_law call_outcome a es fs told) ∙ left

-- ---- with n calls left

module _ (a : Start) (format : accepted (formatted a).reply.answer ≡ true) (es : List Event) (l : Lawful call_outcome (begin a) es)
    (early : NoEarlyCut es) (is_up_law : IsUp (system_after call_outcome a es)) (fs : List Fed) (told : fed_all call_outcome (begin a) es ≡ fs)
    (on : is_running (model_fed a fs).tally.mode ≡ true) (n : ℕ) (left : calls_left_of (model_fed a fs).tally ≡ n) where
  kept : Kept call_outcome a es
  kept = promise a format es l early

  pub left_told : last_reported call_outcome (begin a) es none ≡ some n
  left_told = kept.calls_left_law is_up_law (runs_fed a es fs told on) ∙ ap some (left_fed a es fs told n left)

  pub finishing_of : (further : List Event) → AllFurther call_outcome (system_after call_outcome a es) further → Finishing call_outcome a es further n
  finishing_of further f =
      subst (Finishing call_outcome a es further) (left_fed a es fs told n left) (kept.finishes is_up_law (runs_fed a es fs told on) further f)

-- the same for drives that keep no store
module _ (a : Start) (format : accepted (formatted a).reply.answer ≡ true) (es : List DirectEvent) (l : Lawful call_outcome (begin a) (from_format es))
    (is_up_law : IsUp (system_without call_outcome a es)) (fs : List Fed) (told : fed_all call_outcome (begin a) (from_format es) ≡ fs)
    (on : is_running (model_fed a fs).tally.mode ≡ true) (n : ℕ) (left : calls_left_of (model_fed a fs).tally ≡ n) where
  direct_kept : DirectKept call_outcome a es
  direct_kept = promise_without_cache a format es l

  pub direct_left_told : last_reported call_outcome (begin a) (from_format es) none ≡ some n
  direct_left_told = direct_kept.calls_left_law is_up_law (runs_fed a (from_format es) fs told on) ∙ ap some (left_fed a (from_format es) fs told n left)

  pub direct_finishing : (further : List DirectEvent) → DirectFurther further → DirectFinishing call_outcome a es further n
  direct_finishing further f =
      subst (DirectFinishing call_outcome a es further) (left_fed a (from_format es) fs told n left)
      (direct_kept.finishes is_up_law (runs_fed a (from_format es) fs told on) further f)

-- ---- advances

-- the accepted advances among what is fed are those that tell
unfoldable pub advances_fed : (fs : List Fed) → ℕ
advances_fed [] = 0
advances_fed (ended c b ∷ fs) = cond (is_advance c && b) (suc (advances_fed fs)) (advances_fed fs)
advances_fed (cut_in c left ∷ fs) = advances_fed fs

pub tellings_fed : (s : System) (es : List Event) → length (finished_told call_outcome s es) ≡ advances_fed (fed_all call_outcome s es)
unfolding finished_told fed_all fed tellings advances_fed
tellings_fed s [] = refl
tellings_fed s (runs c ∷ es) =
    by_test (is_advance c && is_accepted call_outcome c s) (λ t. rw t (ap suc (tellings_fed (after call_outcome s (runs c)) es)))
    (λ t. rw t (tellings_fed (after call_outcome s (runs c)) es))
tellings_fed s (cut c left ∷ es) = tellings_fed (after call_outcome s (cut c left)) es
