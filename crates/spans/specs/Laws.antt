-- Document 02, W10: what is proved of span tables: `SpanLaws`. `proofs/Theorems.antt` has the proof.
use Rattle.std.specs.Prelude.{ℕ, ◌+◌, ◌≤◌, ◌<◌, ◌≡◌, true, false, Ok, Err}
use Rattle.base.specs.declared.Refusal.TheVariants.{OutsideSpan}
use Rattle.spans.specs.declared.Span.{Span}
use Rattle.spans.specs.declared.Spans.{Spans}
use Rattle.spans.specs.Cases.{SpanCases}
use Rattle.spans.specs.Spans.{most_reached, reaches, in_span, spans_hold, owned_by, allowed, no_spans, made, given}

-- a block of the span, by its place in it
pub record PlacedIn (s : Span) (x : ℕ) : Type 0 where
  pub place : ℕ
  pub below : place < s.count
  pub there : x ≡ s.first + place

-- "the spans share no block, and in each first plus count is at most 16,000,000"
pub record SpansKeep (t : Spans) : Type 0 where
  pub zero_reaches : reaches t.zero ≤ most_reached
  pub one_reaches : reaches t.one ≤ most_reached
  pub share_none : (x : ℕ) → owned_by t 0 x ≡ true → owned_by t 1 x ≡ true → ⊥

pub record SpanLaws : Type 0 where
  -- "a first block and a count": these blocks and no other
  pub in_span_law : (s : Span) (i : ℕ) → i < s.count → in_span s (s.first + i) ≡ true
  pub only_in_span : (s : Span) (x : ℕ) → in_span s x ≡ true → PlacedIn s x
  -- "each client" has its own; one that "is neither 0 nor 1" has none
  pub owned_zero : (t : Spans) (x : ℕ) → owned_by t 0 x ≡ in_span t.zero x
  pub owned_one : (t : Spans) (x : ℕ) → owned_by t 1 x ≡ in_span t.one x
  pub no_third : (t : Spans) (client x : ℕ) → 2 ≤ client → owned_by t client x ≡ false
  -- the test says this rule, no more and no less
  pub spans_keep : (t : Spans) → spans_hold t ≡ true → SpansKeep t
  pub keep_spans : (t : Spans) → SpansKeep t → spans_hold t ≡ true
  -- a client may use its blocks, by a table that keeps the rule, and nothing else
  pub own_allowed : (t : Spans) (client x : ℕ) → spans_hold t ≡ true → owned_by t client x ≡ true → allowed t client x ≡ true
  pub allowed_holds : (t : Spans) (client x : ℕ) → allowed t client x ≡ true → spans_hold t ≡ true
  pub allowed_own : (t : Spans) (client x : ℕ) → allowed t client x ≡ true → owned_by t client x ≡ true
  -- no two clients may use one block
  pub allowed_one : (t : Spans) (client other x : ℕ) → allowed t client x ≡ true → allowed t other x ≡ true → client ≡ other
  -- "checked when made": what is made keeps the rule, and is the table asked for
  pub made_holds : (t : Spans) → spans_hold (given t) ≡ true
  pub made_own : (t : Spans) → spans_hold t ≡ true → (made t ≡ Ok t) × (given t ≡ t)
  -- "refused with 21 too and gives zeros", in whose spans no block is
  pub made_zeros : (t : Spans) → spans_hold t ≡ false → (made t ≡ Err OutsideSpan) × (given t ≡ no_spans)
  pub zeros_allow_none : (client x : ℕ) → allowed no_spans client x ≡ false
  -- tables worked out by hand
  pub cases : SpanCases
