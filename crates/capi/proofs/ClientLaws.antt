-- The exported functions on a span table: the table's words, numbers, and what refused calls leave.
use Prim.Native.Nat.{ℕ}
use mathlib.Core.Path.{◌≡◌, refl, ap, ◌∙◌}
use mathlib.Core.Bool.{true, false}
use mathlib.Core.List.{List, [], ◌∷◌}
use mathlib.Core.Logic.{◌≢◌}
use native.Mathlib.Omega.{arith}
use lib.Dec.{eqb}
use lib.ListN.{length, take, replicate}
use borrow.Author.Tests.{eq-eqb}
use Rattle.base.specs.Refusals.{refusal_number, row_after}
use Rattle.base.proofs.Booleans.{by_test, cond_cases, and_right}
use Rattle.medium.specs.Medium.{Observations}
use Rattle.volume.specs.declared.Volume.{Volume}
use Rattle.volume.specs.Answers.{number}
use Rattle.volume.specs.Calls.{read_table, write_table}
use Rattle.spans.specs.declared.Spans.{Spans}
use Rattle.spans.specs.Spans.{spans_hold, made, span_words, spans_from}
use Rattle.spans.proofs.Theorems.{span_laws}
use Rattle.clients.specs.ClientCalls.{span_row, client_read_table, client_write_table, client_read, client_write}
use Rattle.clients.proofs.Laws.{client_laws}
use Rattle.capi.specs.Clients.{words_of_spans, made_number, spans_left, client_fits, client_read_left, client_write_left}
use Rattle.capi.specs.Exported.{Left, wrong_length, state_fits, untouched, handed_back, looked_up}
use Rattle.capi.specs.Figures.{no_figures}
use Rattle.capi.specs.Laws.{RefusedLeft}
use Rattle.capi.specs.Words.{words_of, state_from}
use Rattle.capi.proofs.RefusedLaws.{other_number, refused_left, fits_back, judged_write, judged_read, only_last, counts_of}

-- ---- the words of a table

pub spans_back : (t : Spans) → spans_from (words_of_spans t) ≡ t
unfolding spans_from words_of_spans
spans_back t = refl

pub span_words_back : (words : List ℕ) → length words ≡ span_words → words_of_spans (spans_from words) ≡ words
unfolding spans_from words_of_spans
span_words_back [] e = absurd (omega (arith, e))
span_words_back (a ∷ []) e = absurd (omega (arith, e))
span_words_back (a ∷ (b ∷ [])) e = absurd (omega (arith, e))
span_words_back (a ∷ (b ∷ (c ∷ []))) e = absurd (omega (arith, e))
span_words_back (a ∷ (b ∷ (c ∷ (d ∷ [])))) e = refl
span_words_back (a ∷ (b ∷ (c ∷ (d ∷ (f ∷ words))))) e = absurd (omega (arith, e))

-- ---- a table made

pub spans_accepted : (words : List ℕ) → length words ≡ span_words → spans_hold (spans_from words) ≡ true
    → ((spans_left words).number ≡ 0) × ((spans_left words).words ≡ words)
unfolding spans_left looked_up made_number
spans_accepted words e h =
    let m = span_laws.made_own (spans_from words) h in
    rw (eq-eqb (length words) span_words e) (ap made_number m.0, ap words_of_spans m.1 ∙ span_words_back words e)

pub spans_refused : (words : List ℕ) → length words ≡ span_words → spans_hold (spans_from words) ≡ false
    → ((spans_left words).number ≡ 21) × ((spans_left words).words ≡ replicate span_words 0)
unfolding spans_left looked_up made_number refusal_number
spans_refused words e h =
    let m = span_laws.made_zeros (spans_from words) h in
    rw (eq-eqb (length words) span_words e) (ap made_number m.0, ap words_of_spans m.1 ∙ (unfold words_of_spans in refl))

-- ---- numbers

pub spans_number : (t : Spans) → made_number (made t) ≢ wrong_length
unfolding made_number refusal_number
spans_number t =
    by_test (spans_hold t) (λ e w. let k : made_number (made t) ≡ 0 = ap made_number (span_laws.made_own t e).0 in omega (arith, k, w))
    (λ e w. let k : made_number (made t) ≡ 21 = ap made_number (span_laws.made_zeros t e).0 in omega (arith, k, w))

module _ (t : Spans) (client : ℕ) (v : Volume) (x : ℕ) (piece : List ℕ) (o : Observations) where
  pub client_read_number : number (client_read t client v x piece o).reply.answer ≢ wrong_length
  unfolding client_read_table row_after span_row read_table
  client_read_number = other_number (client_read_table t client v x (length piece) o.byte_count) _ (client_laws.read_refuses t client v x piece o).number_told refl

  pub client_write_number : number (client_write t client v x piece o).reply.answer ≢ wrong_length
  unfolding client_write_table row_after span_row write_table
  client_write_number = other_number (client_write_table t client v x (length piece) o.byte_count) _ (client_laws.write_refuses t client v x piece o).number_told refl

-- ---- a client's calls

module _ (spans : List ℕ) (client : ℕ) (words : List ℕ) (x : ℕ) (piece : List ℕ) (o : Observations) where
  state_there : client_fits spans words ≡ true → state_fits words 0 [] ≡ true
  unfolding client_fits
  state_there e = and_right (eqb (length spans) span_words) (state_fits words 0 []) e

  pub client_read_refused : client_fits spans words ≡ true → (client_read_left spans client words x piece o).number ≢ 0
      → RefusedLeft words 0 piece (client_read_left spans client words x piece o)
  unfolding client_read_left
  client_read_refused e =
      refused_left words 0 piece no_figures (λ _ _. refl) (client_fits spans words) (untouched words [] piece)
      (client_laws.read_refuses (spans_from spans) client (state_from words) x piece o) (fits_back words 0 [] (state_there e)) e

  pub client_write_refused : client_fits spans words ≡ true → (client_write_left spans client words x piece o).number ≢ 0
      → RefusedLeft words 0 piece (client_write_left spans client words x piece o)
  unfolding client_write_left
  client_write_refused e =
      refused_left words 0 piece no_figures (λ _ _. refl) (client_fits spans words) (untouched words [] piece)
      (client_laws.write_refuses (spans_from spans) client (state_from words) x piece o) (fits_back words 0 [] (state_there e)) e

  pub client_write_keeps : take 15 (client_write_left spans client words x piece o).words ≡ take 15 words
  unfolding client_write_left handed_back untouched client_write
  client_write_keeps =
      cond_cases (λ (left : Left). take 15 left.words ≡ take 15 words) (client_fits spans words)
      (λ e.
      only_last (state_from words) _ (counts_of words (state_there e))
      (judged_write (client_write_table (spans_from spans) client (state_from words) x (length piece) o.byte_count) (state_from words) x piece)
      ∙ ap (take 15) (fits_back words 0 [] (state_there e))) (λ _. refl)

  pub client_read_keeps : (client_read_left spans client words x piece o).words ≡ words
  unfolding client_read_left handed_back untouched client_read
  client_read_keeps =
      cond_cases (λ (left : Left). left.words ≡ words) (client_fits spans words)
      (λ e.
      ap words_of (judged_read (client_read_table (spans_from spans) client (state_from words) x (length piece) o.byte_count) (state_from words) x piece o)
      ∙ fits_back words 0 [] (state_there e)) (λ _. refl)
