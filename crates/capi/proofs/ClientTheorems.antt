-- The laws of a client's calls in C: `client_call_laws` proves all of `ClientCallLaws` in `specs/ClientCallLaws.antt`.
use Rattle.capi.specs.ClientCallLaws.{ClientCallLaws}
use Rattle.capi.proofs.ClientLaws.{spans_number, client_read_number, client_write_number, spans_back, span_words_back, spans_accepted, spans_refused, client_read_refused, client_write_refused, client_read_keeps, client_write_keeps}

pub client_call_laws : ClientCallLaws
client_call_laws =
    record {
      spans_number = spans_number;
      client_read_number = client_read_number;
      client_write_number = client_write_number;
      spans_back = spans_back;
      span_words_back = span_words_back;
      spans_accepted = spans_accepted;
      spans_refused = spans_refused;
      client_read_refused = client_read_refused;
      client_write_refused = client_write_refused;
      client_read_keeps = client_read_keeps;
      client_write_keeps = client_write_keeps;
    }
