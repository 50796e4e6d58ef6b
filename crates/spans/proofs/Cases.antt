-- Span tables worked out by hand, by computing: `span_cases`.
use mathlib.Core.Path.{◌≡◌, refl}
use mathlib.Core.Bool.{true, false}
use mathlib.Core.List.{[], ◌∷◌}
use Rattle.std.specs.Prelude.{Ok, Err}
use Rattle.base.specs.declared.Refusal.TheVariants.{OutsideSpan}
use Rattle.spans.specs.Cases.{span_table, zero_bounds, one_bounds, sums_beyond, shared_blocks, empty_spans, Keep, two_spans, broken_spans, used_below7, none_of7, SpanCases}
use Rattle.spans.specs.Spans.{reaches, short, in_span, apart, spans_hold, owned_by, allowed, made, given}

zero_bounds_law : Keep zero_bounds
unfolding spans_hold short apart reaches
zero_bounds_law = refl

one_bounds_law : Keep one_bounds
unfolding spans_hold short apart reaches
one_bounds_law = refl

sums_beyond_law : Keep sums_beyond
unfolding spans_hold short apart reaches
sums_beyond_law = refl

shared_blocks_law : Keep shared_blocks
unfolding spans_hold short apart reaches
shared_blocks_law = refl

empty_spans_law : Keep empty_spans
unfolding spans_hold short apart reaches
empty_spans_law = refl

blocks_zero : used_below7 two_spans 0 ≡ false ∷ true ∷ true ∷ true ∷ false ∷ false ∷ false ∷ []
unfolding allowed owned_by in_span spans_hold short apart reaches
blocks_zero = refl

blocks_one : used_below7 two_spans 1 ≡ false ∷ false ∷ false ∷ false ∷ true ∷ true ∷ false ∷ []
unfolding allowed owned_by in_span spans_hold short apart reaches
blocks_one = refl

blocks_two : used_below7 two_spans 2 ≡ none_of7
unfolding allowed owned_by in_span spans_hold short apart reaches
blocks_two = refl

blocks_broken : used_below7 broken_spans 0 ≡ none_of7
unfolding allowed owned_by in_span spans_hold short apart reaches
blocks_broken = refl

made_two : made two_spans ≡ Ok two_spans
unfolding made spans_hold short apart reaches
made_two = refl

made_broken : (made broken_spans ≡ Err OutsideSpan) × (given broken_spans ≡ span_table 0 0 0 0)
unfolding made given spans_hold short apart reaches
made_broken = (refl, refl)

pub span_cases : SpanCases
span_cases =
    record {
      zero_bounds_law = zero_bounds_law;
      one_bounds_law = one_bounds_law;
      sums_beyond_law = sums_beyond_law;
      shared_blocks_law = shared_blocks_law;
      empty_spans_law = empty_spans_law;
      blocks_zero = blocks_zero;
      blocks_one = blocks_one;
      blocks_two = blocks_two;
      blocks_broken = blocks_broken;
      made_two = made_two;
      made_broken = made_broken;
    }
