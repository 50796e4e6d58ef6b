-- Document 02, W10: span tables worked out by hand: `SpanCases`. `proofs/Cases.antt` has the proof, by computing.
use Rattle.std.specs.Prelude.{ℕ, ◌≡◌, Bool, true, false, List, [], ◌∷◌, Ok, Err, map}
use Rattle.base.specs.declared.Refusal.TheVariants.{OutsideSpan}
use Rattle.spans.specs.declared.Spans.{Spans}
use Rattle.spans.specs.Spans.{spans_hold, allowed, made, given}

-- the spans of both clients: first and count of the one, first and count of the other
abbrev pub span_table : (first count first1 count1 : ℕ) → Spans
span_table first count first1 count1 = record { zero = record { first = first; count = count }; one = record { first = first1; count = count1 } }

-- "in each first plus count is at most 16,000,000": tables, each with whether it keeps the rule
abbrev pub zero_bounds : List (Spans × Bool)
zero_bounds =
    (span_table 15_999_999 1 0 0, true) ∷ (span_table 16_000_000 0 0 0, true) ∷ (span_table 0 16_000_000 0 0, true) ∷ (span_table 16_000_000 1 0 0, false)
    ∷ (span_table 16_000_001 0 0 0, false) ∷ (span_table 0 16_000_001 0 0, false) ∷ (span_table 15_999_999 2 0 0, false) ∷ []

abbrev pub one_bounds : List (Spans × Bool)
one_bounds =
    (span_table 0 0 15_999_999 1, true) ∷ (span_table 0 0 16_000_000 0, true) ∷ (span_table 0 0 0 16_000_000, true) ∷ (span_table 0 0 16_000_000 1, false)
    ∷ (span_table 0 0 16_000_001 0, false) ∷ (span_table 0 0 0 16_000_001, false) ∷ (span_table 0 0 15_999_999 2, false) ∷ []

-- sums beyond 64 bits
abbrev pub sums_beyond : List (Spans × Bool)
sums_beyond =
    (span_table 18_446_744_073_709_551_615 1 0 0, false) ∷ (span_table 1 18_446_744_073_709_551_615 0 0, false)
    ∷ (span_table 0 0 18_446_744_073_709_551_615 18_446_744_073_709_551_615, false) ∷ []

-- "the spans share no block": directly one behind the other, one block shared, one inside the other, the same
abbrev pub shared_blocks : List (Spans × Bool)
shared_blocks =
    (span_table 1 3 4 2, true) ∷ (span_table 4 2 1 3, true) ∷ (span_table 1 4 4 2, false) ∷ (span_table 4 2 1 4, false) ∷ (span_table 1 3 3 2, false)
    ∷ (span_table 0 9 4 2, false) ∷ (span_table 4 2 0 9, false) ∷ (span_table 4 2 4 2, false) ∷ []

-- a span of 0 blocks shares none; zeros keep the rule
abbrev pub empty_spans : List (Spans × Bool)
empty_spans = (span_table 4 0 4 2, true) ∷ (span_table 0 9 4 0, true) ∷ (span_table 4 0 4 0, true) ∷ (span_table 0 0 0 0, true) ∷ []

-- the test says so of each
abbrev pub Keep : (tables : List (Spans × Bool)) → Type 0
Keep tables = map (λ case. spans_hold case.0) tables ≡ map (λ case. case.1) tables

-- client 0 has blocks 1 to 3, client 1 blocks 4 and 5
abbrev pub two_spans : Spans
two_spans = span_table 1 3 4 2

-- both have block 4
abbrev pub broken_spans : Spans
broken_spans = span_table 1 4 4 2

-- which of the blocks 0 to 6 a client may use
abbrev pub used_below7 : (t : Spans) (client : ℕ) → List Bool
used_below7 t client = map (allowed t client) (0 ∷ 1 ∷ 2 ∷ 3 ∷ 4 ∷ 5 ∷ 6 ∷ [])

abbrev pub none_of7 : List Bool
none_of7 = false ∷ false ∷ false ∷ false ∷ false ∷ false ∷ false ∷ []

pub record SpanCases : Type 0 where
  pub zero_bounds_law : Keep zero_bounds
  pub one_bounds_law : Keep one_bounds
  pub sums_beyond_law : Keep sums_beyond
  pub shared_blocks_law : Keep shared_blocks
  pub empty_spans_law : Keep empty_spans
  pub blocks_zero : used_below7 two_spans 0 ≡ false ∷ true ∷ true ∷ true ∷ false ∷ false ∷ false ∷ []
  pub blocks_one : used_below7 two_spans 1 ≡ false ∷ false ∷ false ∷ false ∷ true ∷ true ∷ false ∷ []
  -- a third client may use none, and nobody where the table breaks the rule
  pub blocks_two : used_below7 two_spans 2 ≡ none_of7
  pub blocks_broken : used_below7 broken_spans 0 ≡ none_of7
  -- a table made, and one refused
  pub made_two : made two_spans ≡ Ok two_spans
  pub made_broken : (made broken_spans ≡ Err OutsideSpan) × (given broken_spans ≡ span_table 0 0 0 0)
