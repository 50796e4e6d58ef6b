-- Document 02, W10: the span table.
use Rattle.std.specs.Prelude.{ℕ, zero, suc, ◌+◌, Bool, false, cond, ◌&&◌, ◌||◌, List, Result, Ok, Err, eqb, leb, ltb, get_or}
use Rattle.std.specs.Result.{result_unwrap_or}
use Rattle.base.specs.declared.Refusal.{Refusal}
use Rattle.base.specs.declared.Refusal.TheVariants.{OutsideSpan}
use Rattle.spans.specs.declared.Span.{Span}
use Rattle.spans.specs.declared.Spans.{Spans}

-- "in each first plus count is at most 16,000,000"
abbrev pub most_reached : ℕ
most_reached = 16_000_000

unfoldable pub reaches : (s : Span) → ℕ
reaches s = s.first + s.count

unfoldable pub short : (s : Span) → Bool
short s = leb (reaches s) most_reached

-- its blocks are addresses in the volume
unfoldable pub in_span : (s : Span) (x : ℕ) → Bool
in_span s x = leb s.first x && ltb x (reaches s)

-- "the spans share no block"; one of 0 blocks shares none
unfoldable pub apart : (s t : Span) → Bool
apart s t = (eqb s.count 0 || eqb t.count 0) || (leb (reaches s) t.first || leb (reaches t) s.first)

-- "the rule on spans"
unfoldable pub spans_hold : (t : Spans) → Bool
spans_hold t = (short t.zero && short t.one) && apart t.zero t.one

-- the client's blocks; a client that "is neither 0 nor 1" has none
unfoldable pub owned_by : (t : Spans) (client x : ℕ) → Bool
owned_by t zero x = in_span t.zero x
owned_by t (suc zero) x = in_span t.one x
owned_by t (suc (suc k)) x = false

-- where 21 is not given: not "when a block is outside the client's span or the client is neither 0 nor 1, or the table breaks the rule on spans"
unfoldable pub allowed : (t : Spans) (client x : ℕ) → Bool
allowed t client x = spans_hold t && owned_by t client x

-- "making such a table is refused with 21 too and gives zeros"
unfoldable pub made : (t : Spans) → Result Spans Refusal
made t = cond (spans_hold t) (Ok t) (Err OutsideSpan)

abbrev pub no_spans : Spans
no_spans = record { zero = record { first = 0; count = 0 }; one = record { first = 0; count = 0 } }

-- the table that there is then
unfoldable pub given : (t : Spans) → Spans
given t = result_unwrap_or (made t) no_spans

-- the words of a table, in which it crosses to other languages: first and count of client 0, first and count of client 1
abbrev pub span_words : ℕ
span_words = 4

abbrev pub span_at : (words : List ℕ) (i : ℕ) → Span
span_at words i = record { first = get_or words i 0; count = get_or words (i + 1) 0 }

unfoldable pub spans_from : (words : List ℕ) → Spans
spans_from words = record { zero = span_at words 0; one = span_at words 2 }
