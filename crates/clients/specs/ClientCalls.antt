-- Document 02, W10: a client's read and write through its span.
use Rattle.std.specs.Prelude.{ℕ, Bool, not, List, length}
use Rattle.base.specs.Refusals.{row_after}
use Rattle.medium.specs.Medium.{Observations}
use Rattle.volume.specs.declared.Volume.{Volume}
use Rattle.volume.specs.Calls.{Outcome, refused, judged, read_table, read_effect, write_table, write_effect}
use Rattle.spans.specs.declared.Spans.{Spans}
use Rattle.spans.specs.Spans.{allowed}

-- "21 when a block is outside the client's span or the client is neither 0 nor 1, or the table breaks the rule on spans, tested after 1 and
-- before 2"
unfoldable pub span_row : (t : Spans) (client x : ℕ) → ℕ × Bool
span_row t client x = (21, not (allowed t client x))

-- the volume's own tables with that row
unfoldable pub client_read_table : (t : Spans) (client : ℕ) (v : Volume) (x piece_bytes byte_count : ℕ) → List (ℕ × Bool)
client_read_table t client v x piece_bytes byte_count = row_after 1 (span_row t client x) (read_table v x piece_bytes byte_count)

unfoldable pub client_write_table : (t : Spans) (client : ℕ) (v : Volume) (x piece_bytes byte_count : ℕ) → List (ℕ × Bool)
client_write_table t client v x piece_bytes byte_count = row_after 1 (span_row t client x) (write_table v x piece_bytes byte_count)

-- "Each client reads and writes through its span": what the volume's own call does, judged by them
unfoldable pub client_read : (t : Spans) (client : ℕ) (v : Volume) (x : ℕ) (piece : List ℕ) (o : Observations) → Outcome
client_read t client v x piece o = judged (client_read_table t client v x (length piece) o.byte_count) (λ k. refused v k piece) (read_effect v x o)

unfoldable pub client_write : (t : Spans) (client : ℕ) (v : Volume) (x : ℕ) (piece : List ℕ) (o : Observations) → Outcome
client_write t client v x piece o = judged (client_write_table t client v x (length piece) o.byte_count) (λ k. refused v k piece) (write_effect v x piece)
