-- `span_laws`.
use Prim.Native.Nat.{ℕ, zero, suc, ◌+◌, ◌-◌, ◌≤◌, ◌<◌}
use mathlib.Core.Path.{◌≡◌, refl, ◌∙◌}
use mathlib.Core.Bool.{true, false, cond, ◌&&◌, false≢true}
use native.Mathlib.Omega.{arith}
use Rattle.std.specs.Prelude.{Result, Ok, Err}
use Rattle.std.specs.Result.{result_unwrap_or}
use Rattle.base.specs.declared.Refusal.{Refusal}
use Rattle.base.specs.declared.Refusal.TheVariants.{OutsideSpan}
use lib.Dec.{eqb, leb, ltb}
use borrow.Author.Tests.{leb-true, leb-false}
use Rattle.base.proofs.Booleans.{by_test, cond_cases, and_left, and_right, and_both}
use Rattle.spans.specs.declared.Span.{Span}
use Rattle.spans.specs.declared.Spans.{Spans}
use Rattle.spans.specs.Spans.{reaches, short, in_span, apart, spans_hold, owned_by, allowed, no_spans, made, given}
use Rattle.spans.specs.Laws.{PlacedIn, SpansKeep, SpanLaws}
use Rattle.spans.proofs.Cases.{span_cases}

-- ---- the spans share no block

keep : (t : Spans) → spans_hold t ≡ true → SpansKeep t
unfolding spans_hold short apart reaches owned_by in_span
keep t e = record { zero_reaches = grind (arith, e); one_reaches = grind (arith, e); share_none = λ x f g. grind (arith, e, f, g) }

-- two spans that are not apart share the later one's first block
shared_first : (s t : Span) → s.first ≤ t.first → apart s t ≡ false → (in_span s t.first ≡ true) × (in_span t t.first ≡ true)
unfolding apart in_span reaches
shared_first s t h e = (grind (arith, e), grind (arith, e))

apart_flip : (s t : Span) → apart s t ≡ apart t s
unfolding apart reaches
apart_flip s t = grind (arith)

kept_spans : (t : Spans) → SpansKeep t → spans_hold t ≡ true
unfolding spans_hold short reaches owned_by
kept_spans t k =
    by_test (apart t.zero t.one) (λ e. grind (arith, e, k.zero_reaches, k.one_reaches))
    (λ e. by_test (leb t.zero.first t.one.first)
    (λ l. let h = shared_first t.zero t.one (leb-true _ _ l) e in absurd (k.share_none t.one.first h.0 h.1))
    (λ l.
    let below = leb-false t.zero.first t.one.first l in
    let h = shared_first t.one t.zero (omega (arith, below)) (apart_flip t.one t.zero ∙ e) in
    absurd (k.share_none t.zero.first h.1 h.0)))

zeros_hold : spans_hold no_spans ≡ true
unfolding spans_hold short apart reaches
zeros_hold = refl

no_block : (client x : ℕ) → allowed no_spans client x ≡ false
unfolding allowed spans_hold short apart reaches owned_by in_span
no_block zero x = grind (arith)
no_block (suc zero) x = grind (arith)
no_block (suc (suc k)) x = refl

made_holds : (t : Spans) → spans_hold (given t) ≡ true
unfolding given made
made_holds t = cond_cases (λ (m : Result Spans Refusal). spans_hold (result_unwrap_or m no_spans) ≡ true) (spans_hold t) (λ e. e) (λ _. zeros_hold)

made_own : (t : Spans) → spans_hold t ≡ true → (made t ≡ Ok t) × (given t ≡ t)
unfolding made given
made_own t e = rw e (refl, refl)

made_zeros : (t : Spans) → spans_hold t ≡ false → (made t ≡ Err OutsideSpan) × (given t ≡ no_spans)
unfolding made given
made_zeros t e = rw e (refl, refl)

-- ---- a block is one client's

two : (t : Spans) (k client x : ℕ) → SpansKeep t → owned_by t k x ≡ true → owned_by t client x ≡ true → k ≡ client
unfolding owned_by
two t zero zero x keeps f g = refl
two t zero (suc zero) x keeps f g = absurd (keeps.share_none x f g)
two t zero (suc (suc j)) x keeps f g = absurd (false≢true g)
two t (suc zero) zero x keeps f g = absurd (keeps.share_none x g f)
two t (suc zero) (suc zero) x keeps f g = refl
two t (suc zero) (suc (suc j)) x keeps f g = absurd (false≢true g)
two t (suc (suc k)) client x keeps f g = absurd (false≢true f)

-- ---- what a client may use

own_allowed : (t : Spans) (client x : ℕ) → spans_hold t ≡ true → owned_by t client x ≡ true → allowed t client x ≡ true
unfolding allowed
own_allowed t client x e f = and_both e f

allowed_holds : (t : Spans) (client x : ℕ) → allowed t client x ≡ true → spans_hold t ≡ true
unfolding allowed
allowed_holds t client x e = and_left (spans_hold t) (owned_by t client x) e

allowed_own : (t : Spans) (client x : ℕ) → allowed t client x ≡ true → owned_by t client x ≡ true
unfolding allowed
allowed_own t client x e = and_right (spans_hold t) (owned_by t client x) e

allowed_one : (t : Spans) (client other x : ℕ) → allowed t client x ≡ true → allowed t other x ≡ true → client ≡ other
allowed_one t client other x e f = two t client other x (keep t (allowed_holds t client x e)) (allowed_own t client x e) (allowed_own t other x f)

-- ---- the blocks of a span

in_span_law : (s : Span) (i : ℕ) → i < s.count → in_span s (s.first + i) ≡ true
unfolding in_span reaches
in_span_law s i h = grind (arith)

only_in_span : (s : Span) (x : ℕ) → in_span s x ≡ true → PlacedIn s x
unfolding in_span reaches
only_in_span s x e = record { place = x - s.first; below = grind (arith, e); there = grind (arith, e) }

owned_zero : (t : Spans) (x : ℕ) → owned_by t 0 x ≡ in_span t.zero x
unfolding owned_by
owned_zero t x = refl

owned_one : (t : Spans) (x : ℕ) → owned_by t 1 x ≡ in_span t.one x
unfolding owned_by
owned_one t x = refl

no_third : (t : Spans) (client x : ℕ) → 2 ≤ client → owned_by t client x ≡ false
unfolding owned_by
no_third t zero x h = absurd (omega arith)
no_third t (suc zero) x h = absurd (omega arith)
no_third t (suc (suc k)) x h = refl

-- ---- what the code tests

-- two spans, of which the second does not start below the first
pub in_order : (s t : Span) → s.first ≤ t.first
    → spans_hold (record { zero = s; one = t }) ≡ cond (ltb (t.first - s.first) s.count) (eqb t.count 0 && short s) (short t)
unfolding spans_hold short apart reaches
in_order s t h = grind (arith)

-- the two clients may change places
pub hold_flip : (s t : Span) → spans_hold (record { zero = s; one = t }) ≡ spans_hold (record { zero = t; one = s })
unfolding spans_hold short apart reaches
hold_flip s t = grind (arith)

pub owned_cases : (t : Spans) (client x : ℕ) → owned_by t client x ≡ cond (eqb client 0) (in_span t.zero x) (cond (eqb client 1) (in_span t.one x) false)
unfolding owned_by
owned_cases t zero x = refl
owned_cases t (suc zero) x = refl
owned_cases t (suc (suc k)) x = grind (arith)

pub span_laws : SpanLaws
span_laws =
    record {
      in_span_law = in_span_law;
      only_in_span = only_in_span;
      owned_zero = owned_zero;
      owned_one = owned_one;
      no_third = no_third;
      spans_keep = keep;
      keep_spans = kept_spans;
      own_allowed = own_allowed;
      allowed_holds = allowed_holds;
      allowed_own = allowed_own;
      allowed_one = allowed_one;
      made_holds = made_holds;
      made_own = made_own;
      made_zeros = made_zeros;
      zeros_allow_none = no_block;
      cases = span_cases;
    }
