-- Document 02, W10: what is proved of a client's calls: `ClientLaws`. `proofs/Laws.antt` has the proof.
use Rattle.std.specs.Prelude.{ℕ, ◌≡◌, true, false, List, [], ◌∷◌, length}
use Rattle.medium.specs.Medium.{Observations}
use Rattle.volume.specs.declared.Volume.{Volume}
use Rattle.volume.specs.Calls.{refused, read_outcome, write_outcome}
use Rattle.volume.specs.Laws.{Refuses}
use Rattle.volume.specs.RefusalOrders.{numbers_in}
use Rattle.volume.specs.Sound.{sound}
use Rattle.promise.specs.Lists.{Drives, up}
use Rattle.spans.specs.declared.Spans.{Spans}
use Rattle.spans.specs.Spans.{allowed}
use Rattle.clients.specs.ClientCalls.{client_read_table, client_write_table, client_read, client_write}
use Rattle.clients.specs.Stations.{reads, writes, station_outcome, ends, after_station}

pub record ClientLaws : Type 0 where
  -- what a call in the client's span does is the volume's own call
  pub read_own : (t : Spans) (client : ℕ) (v : Volume) (x : ℕ) (piece : List ℕ) (o : Observations) → allowed t client x ≡ true
      → client_read t client v x piece o ≡ read_outcome v x piece o
  pub write_own : (t : Spans) (client : ℕ) (v : Volume) (x : ℕ) (piece : List ℕ) (o : Observations) → allowed t client x ≡ true
      → client_write t client v x piece o ≡ write_outcome v x piece o
  -- a refused call tells its table's number, hands its state back, stores nothing and leaves the piece
  pub read_refuses : (t : Spans) (client : ℕ) (v : Volume) (x : ℕ) (piece : List ℕ) (o : Observations)
      → Refuses (client_read_table t client v x (length piece) o.byte_count) v piece (client_read t client v x piece o)
  pub write_refuses : (t : Spans) (client : ℕ) (v : Volume) (x : ℕ) (piece : List ℕ) (o : Observations)
      → Refuses (client_write_table t client v x (length piece) o.byte_count) v piece (client_write t client v x piece o)
  -- 21 "tested after 1 and before 2"
  pub read_order : (t : Spans) (client : ℕ) (v : Volume) (x piece_bytes byte_count : ℕ)
      → numbers_in (client_read_table t client v x piece_bytes byte_count) ≡ 1 ∷ 21 ∷ 2 ∷ 3 ∷ 4 ∷ []
  pub write_order : (t : Spans) (client : ℕ) (v : Volume) (x piece_bytes byte_count : ℕ)
      → numbers_in (client_write_table t client v x piece_bytes byte_count) ≡ 1 ∷ 21 ∷ 2 ∷ 3 ∷ 4 ∷ 7 ∷ 19 ∷ []
  pub read_1 : (t : Spans) (client : ℕ) (v : Volume) (x : ℕ) (piece : List ℕ) (o : Observations) → sound v ≡ false
      → client_read t client v x piece o ≡ refused v 1 piece
  pub write_1 : (t : Spans) (client : ℕ) (v : Volume) (x : ℕ) (piece : List ℕ) (o : Observations) → sound v ≡ false
      → client_write t client v x piece o ≡ refused v 1 piece
  pub read_21 : (t : Spans) (client : ℕ) (v : Volume) (x : ℕ) (piece : List ℕ) (o : Observations) → sound v ≡ true → allowed t client x ≡ false
      → client_read t client v x piece o ≡ refused v 21 piece
  pub write_21 : (t : Spans) (client : ℕ) (v : Volume) (x : ℕ) (piece : List ℕ) (o : Observations) → sound v ≡ true → allowed t client x ≡ false
      → client_write t client v x piece o ≡ refused v 21 piece
  -- and such a call leaves state and drives
  pub read_nothing : (t : Spans) (client : ℕ) (v : Volume) (d : Drives) (x : ℕ) (piece : List ℕ) → sound v ≡ true → allowed t client x ≡ false
      → after_station (station_outcome t) (up v d) (ends (reads client x piece)) ≡ up v d
  pub write_nothing : (t : Spans) (client : ℕ) (v : Volume) (d : Drives) (x : ℕ) (piece : List ℕ) → sound v ≡ true → allowed t client x ≡ false
      → after_station (station_outcome t) (up v d) (ends (writes client x piece)) ≡ up v d
