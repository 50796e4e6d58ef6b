-- What the code of the exported functions on a span table needs.
use Prim.Native.Nat.{ℕ}
use mathlib.Core.Path.{◌≡◌, refl, sym, ap, ◌∙◌}
use mathlib.Core.Bool.{Bool, true, false, cond, ◌&&◌}
use mathlib.Core.List.{List}
use lib.Dec.{eqb}
use lib.ListN.{length}
use borrow.Author.Tests.{eqb-true}
use Rattle.std.specs.Prelude.{Option, Some, None, Result, Ok, Err}
use Rattle.std.specs.Result.{result_unwrap_or}
use Rattle.base.specs.declared.Refusal.{Refusal}
use Rattle.base.specs.Refusals.{refusal_number, refusals, refusal_with}
use Rattle.base.proofs.Booleans.{by_test}
use Rattle.medium.specs.declared.Geometry.{Geometry}
use Rattle.medium.specs.Medium.{observe, apply}
use Rattle.volume.specs.Answers.{number}
use Rattle.volume.specs.Calls.{refused}
use Rattle.volume.specs.Sound.{sound}
use Rattle.spans.specs.declared.Spans.{Spans}
use Rattle.spans.specs.Spans.{allowed, no_spans, made, given, span_words, spans_from}
use Rattle.clients.proofs.Laws.{client_laws}
use Rattle.promise.specs.Lists.{call_outcome}
use Rattle.capi.specs.Exported.{Left, wrong_length, state_fits, untouched, handed_back, looked_up, call_left, read_left, write_left}
use Rattle.capi.specs.Clients.{words_of_spans, made_number, spans_left, client_fits, client_read_left, client_write_left}
use Rattle.capi.specs.Words.{words_of, state_from, are_state}
use Rattle.capi.proofs.ExportedCode.{given_none, given_some}
use Rattle.capi.proofs.WordLaws.{state_words_law, words_back}

-- ---- a table of words

-- what `spans_of` answers
abbrev pub table_of : (words : List ℕ) → Option Spans
table_of words = cond (eqb (length words) span_words) (Some (spans_from words)) None

no_table : (words : List ℕ) → table_of words ≡ None → eqb (length words) span_words ≡ false
no_table words h = given_none (eqb (length words) span_words) (spans_from words) h

table_there : (words : List ℕ) (t : Spans) → table_of words ≡ Some t → (eqb (length words) span_words ≡ true) × (t ≡ spans_from words)
table_there words t h = given_some (eqb (length words) span_words) (spans_from words) t h

pub table_length : (words : List ℕ) (t : Spans) → table_of words ≡ Some t → length words ≡ span_words
table_length words t h = eqb-true (length words) span_words (table_there words t h).0

-- ---- a table made

pub spans_not_made : (words : List ℕ) → table_of words ≡ None → (wrong_length ≡ (spans_left words).number) × (words ≡ (spans_left words).words)
unfolding spans_left untouched
spans_not_made words h = rw (no_table words h) (refl, refl)

number_made : (m : Result Spans Refusal) → number m ≡ made_number m
unfolding number made_number
number_made (Ok t) = refl
number_made (Err r) = refl

-- a table of the right length
module _ (words : List ℕ) (t : Spans) (h : table_of words ≡ Some t) (m : Result Spans Refusal) (f : m ≡ made (record { zero = t.zero; one = t.one })) where
  made_there : m ≡ made (spans_from words)
  made_there = f ∙ ap made (table_there words t h).1

  pub number_told : (k : ℕ) → k ≡ number m → k ≡ (spans_left words).number
  unfolding spans_left looked_up
  number_told k g = rw (table_there words t h).0 (g ∙ number_made m ∙ ap made_number made_there)

  pub spans_put : (after : List ℕ) → after ≡ words_of_spans (result_unwrap_or m no_spans) → after ≡ (spans_left words).words
  unfolding spans_left looked_up given
  spans_put after e =
      rw (table_there words t h).0 (e ∙ ap (λ (m : Result Spans Refusal). words_of_spans (result_unwrap_or m no_spans)) made_there)

-- ---- a client's read and write

-- a table of the right length: the state's words decide
fits_state : (spans words : List ℕ) → eqb (length spans) span_words ≡ true → client_fits spans words ≡ are_state words
unfolding client_fits state_fits
fits_state spans words n = rw n (and_true (are_state words))
  where
    and_true : (b : Bool) → (b && true) ≡ b
    and_true true = refl
    and_true false = refl

no_fit : (spans words : List ℕ) → table_of spans ≡ None → client_fits spans words ≡ false
unfolding client_fits
no_fit spans words h = rw (no_table spans h) refl

-- the number outside the span
abbrev outside_number : (words : List ℕ) → ℕ
outside_number words = cond (are_state words) (cond (sound (state_from words)) 21 1) wrong_length

module _ (spans : List ℕ) (client : ℕ) (words : List ℕ) (x : ℕ) (piece m : List ℕ) where
  abbrev read_here : Left
  read_here = client_read_left spans client words x piece (observe m)

  abbrev written_here : Left
  written_here = client_write_left spans client words x piece (observe m)

  pub read_not_made : table_of spans ≡ None → (wrong_length ≡ read_here.number) × (piece ≡ read_here.piece)
  unfolding client_read_left untouched
  read_not_made n = rw (no_fit spans words n) (refl, refl)

  pub write_not_made : (g : Geometry) → table_of spans ≡ None
      → (wrong_length ≡ written_here.number) × ((words ≡ written_here.words) × (m ≡ apply g written_here.store m))
  unfolding client_write_left untouched apply
  write_not_made g n = rw (no_fit spans words n) (refl, (refl, refl))

  module _ (t : Spans) (there : table_of spans ≡ Some t) where
    n : eqb (length spans) span_words ≡ true
    n = (table_there spans t there).0

    own_table : (b : Bool) → allowed t client x ≡ b → allowed (spans_from spans) client x ≡ b
    own_table b h = rw (table_there spans t there).1 at h

    -- outside the span
    pub outside_read : allowed t client x ≡ false → (k : ℕ) → k ≡ outside_number words → (k ≡ read_here.number) × (piece ≡ read_here.piece)
    unfolding client_read_left handed_back untouched refused number refusal_with refusals refusal_number
    outside_read out k h =
        by_test (are_state words)
        (λ a. by_test (sound (state_from words))
        (λ s. rw (fits_state spans words n, a, client_laws.read_21 (spans_from spans) client (state_from words) x piece (observe m) s (own_table false out)) (rw (a, s) at h, refl))
        (λ s. rw (fits_state spans words n, a, client_laws.read_1 (spans_from spans) client (state_from words) x piece (observe m) s) (rw (a, s) at h, refl)))
        (λ a. rw (fits_state spans words n, a) (rw a at h, refl))

    pub outside_write : (g : Geometry) → allowed t client x ≡ false → (k : ℕ) → k ≡ outside_number words
        → (k ≡ written_here.number) × ((words ≡ written_here.words) × (m ≡ apply g written_here.store m))
    unfolding client_write_left handed_back untouched refused number refusal_with refusals refusal_number apply
    outside_write g out k h =
        by_test (are_state words)
        (λ a.
        let back : words ≡ words_of (state_from words) = sym (words_back words (state_words_law words a)) in
        by_test (sound (state_from words))
        (λ s. rw (fits_state spans words n, a, client_laws.write_21 (spans_from spans) client (state_from words) x piece (observe m) s (own_table false out)) (rw (a, s) at h, (back, refl)))
        (λ s. rw (fits_state spans words n, a, client_laws.write_1 (spans_from spans) client (state_from words) x piece (observe m) s) (rw (a, s) at h, (back, refl))))
        (λ a. rw (fits_state spans words n, a) (rw a at h, (refl, refl)))

    -- in it: what the volume's own call leaves
    own_read : allowed (spans_from spans) client x ≡ true → read_here ≡ read_left words x piece (observe m)
    unfolding client_read_left call_left call_outcome client_fits
    own_read own = rw (n, client_laws.read_own (spans_from spans) client (state_from words) x piece (observe m) own) refl

    own_write : allowed (spans_from spans) client x ≡ true → written_here ≡ write_left words x piece (observe m)
    unfolding client_write_left call_left call_outcome client_fits
    own_write own = rw (n, client_laws.write_own (spans_from spans) client (state_from words) x piece (observe m) own) refl

    pub read_inside : allowed t client x ≡ true → (k : ℕ) (after : List ℕ)
        → (k ≡ (read_left words x piece (observe m)).number) × (after ≡ (read_left words x piece (observe m)).piece) → (k ≡ read_here.number) × (after ≡ read_here.piece)
    read_inside own k after made = rw (own_read (own_table true own)) made

    pub write_inside : (g : Geometry) → allowed t client x ≡ true → (k : ℕ) (after stored : List ℕ)
        → (k ≡ (write_left words x piece (observe m)).number)
        × ((after ≡ (write_left words x piece (observe m)).words) × (stored ≡ apply g (write_left words x piece (observe m)).store m))
        → (k ≡ written_here.number) × ((after ≡ written_here.words) × (stored ≡ apply g written_here.store m))
    write_inside g own k after stored made = rw (own_write (own_table true own)) made
