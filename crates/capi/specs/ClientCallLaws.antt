-- What is proved of a client's calls in C and of the words of a span table: `ClientCallLaws`. `proofs/ClientTheorems.antt`
-- has the proof.
use Rattle.std.specs.Prelude.{ℕ, ◌≡◌, true, false, List, ◌≢◌, length, replicate, take}
use Rattle.medium.specs.Medium.{Observations}
use Rattle.volume.specs.declared.Volume.{Volume}
use Rattle.volume.specs.Answers.{number}
use Rattle.spans.specs.declared.Spans.{Spans}
use Rattle.spans.specs.Spans.{spans_hold, made, span_words, spans_from}
use Rattle.clients.specs.ClientCalls.{client_read, client_write}
use Rattle.capi.specs.Clients.{words_of_spans, made_number, spans_left, client_fits, client_read_left, client_write_left}
use Rattle.capi.specs.Exported.{wrong_length}
use Rattle.capi.specs.Laws.{RefusedLeft}

pub record ClientCallLaws : Type 0 where
  pub spans_number : (t : Spans) → made_number (made t) ≢ wrong_length
  pub client_read_number : (t : Spans) (client : ℕ) (v : Volume) (x : ℕ) (piece : List ℕ) (o : Observations)
      → number (client_read t client v x piece o).reply.answer ≢ wrong_length
  pub client_write_number : (t : Spans) (client : ℕ) (v : Volume) (x : ℕ) (piece : List ℕ) (o : Observations)
      → number (client_write t client v x piece o).reply.answer ≢ wrong_length
  -- a span table is four words, both ways; one that keeps the rule is left as it was, any other is refused with 21 and set to zeros
  pub spans_back : (t : Spans) → spans_from (words_of_spans t) ≡ t
  pub span_words_back : (words : List ℕ) → length words ≡ span_words → words_of_spans (spans_from words) ≡ words
  pub spans_accepted : (words : List ℕ) → length words ≡ span_words → spans_hold (spans_from words) ≡ true
      → ((spans_left words).number ≡ 0) × ((spans_left words).words ≡ words)
  pub spans_refused : (words : List ℕ) → length words ≡ span_words → spans_hold (spans_from words) ≡ false
      → ((spans_left words).number ≡ 21) × ((spans_left words).words ≡ replicate span_words 0)
  -- a client's calls leave what read and write leave
  pub client_read_refused : (spans : List ℕ) (client : ℕ) (words : List ℕ) (x : ℕ) (piece : List ℕ) (o : Observations) → client_fits spans words ≡ true
      → (client_read_left spans client words x piece o).number ≢ 0 → RefusedLeft words 0 piece (client_read_left spans client words x piece o)
  pub client_write_refused : (spans : List ℕ) (client : ℕ) (words : List ℕ) (x : ℕ) (piece : List ℕ) (o : Observations) → client_fits spans words ≡ true
      → (client_write_left spans client words x piece o).number ≢ 0 → RefusedLeft words 0 piece (client_write_left spans client words x piece o)
  pub client_read_keeps : (spans : List ℕ) (client : ℕ) (words : List ℕ) (x : ℕ) (piece : List ℕ) (o : Observations)
      → (client_read_left spans client words x piece o).words ≡ words
  pub client_write_keeps : (spans : List ℕ) (client : ℕ) (words : List ℕ) (x : ℕ) (piece : List ℕ) (o : Observations)
      → take 15 (client_write_left spans client words x piece o).words ≡ take 15 words
