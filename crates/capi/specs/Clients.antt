-- Document 02, W10: what the exported functions on a span table leave. The table crosses as four words, lent.
use Rattle.std.specs.Prelude.{ℕ, Bool, cond, ◌&&◌, List, [], ◌∷◌, Result, Ok, Err, eqb, length}
use Rattle.base.specs.declared.Refusal.{Refusal}
use Rattle.base.specs.Refusals.{refusal_number}
use Rattle.medium.specs.Medium.{Observations}
use Rattle.spans.specs.declared.Spans.{Spans}
use Rattle.spans.specs.Spans.{made, given, span_words, spans_from}
use Rattle.clients.specs.ClientCalls.{client_read, client_write}
use Rattle.capi.specs.Exported.{Left, state_fits, untouched, handed_back, looked_up}
use Rattle.capi.specs.Figures.{no_figures}
use Rattle.capi.specs.Words.{state_from}

unfoldable pub words_of_spans : (t : Spans) → List ℕ
words_of_spans t = t.zero.first ∷ t.zero.count ∷ t.one.first ∷ t.one.count ∷ []

-- what making a table is told
unfoldable pub made_number : (made : Result Spans Refusal) → ℕ
made_number (Ok t) = 0
made_number (Err r) = refusal_number r

-- "checked when made": the words of the table made, or zeros and 21
unfoldable pub spans_left : (words : List ℕ) → Left
spans_left words =
    let t = spans_from words in
    cond (eqb (length words) span_words) (looked_up (made_number (made t)) [] (words_of_spans (given t))) (untouched words [] [])

-- "Each client reads and writes through its span": on the state that the words hold
unfoldable pub client_fits : (spans words : List ℕ) → Bool
client_fits spans words = eqb (length spans) span_words && state_fits words 0 []

unfoldable pub client_read_left : (spans : List ℕ) (client : ℕ) (words : List ℕ) (x : ℕ) (piece : List ℕ) (o : Observations) → Left
client_read_left spans client words x piece o =
    cond (client_fits spans words) (handed_back no_figures (client_read (spans_from spans) client (state_from words) x piece o)) (untouched words [] piece)

unfoldable pub client_write_left : (spans : List ℕ) (client : ℕ) (words : List ℕ) (x : ℕ) (piece : List ℕ) (o : Observations) → Left
client_write_left spans client words x piece o =
    cond (client_fits spans words) (handed_back no_figures (client_write (spans_from spans) client (state_from words) x piece o)) (untouched words [] piece)
