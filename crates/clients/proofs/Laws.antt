-- `client_laws`.
use Prim.Native.Nat.{ℕ}
use mathlib.Core.Path.{◌≡◌, refl}
use mathlib.Core.Bool.{true, false}
use mathlib.Core.List.{List, [], ◌∷◌}
use lib.ListN.{length}
use Rattle.base.specs.Refusals.{refusal_number, refusals, row_after, refusal_with}
use Rattle.medium.specs.Medium.{Observations, observe}
use Rattle.volume.specs.declared.Volume.{Volume}
use Rattle.volume.specs.Answers.{number}
use Rattle.volume.specs.Calls.{refused, doing, read_table, read_effect, write_table, write_effect}
use Rattle.volume.specs.Laws.{Refuses}
use Rattle.volume.specs.RefusalOrders.{numbers_in}
use Rattle.volume.specs.Sound.{sound}
use Rattle.volume.proofs.RefusalLaws.{judged_refuses}
use Rattle.promise.specs.Calls.{settles}
use Rattle.promise.specs.Lists.{Drives, up, drives_of, memory_of, medium_of, outcome, after}
use Rattle.spans.specs.declared.Spans.{Spans}
use Rattle.spans.specs.Spans.{allowed}
use Rattle.clients.specs.ClientCalls.{span_row, client_read_table, client_write_table, client_read, client_write}
use Rattle.clients.specs.Stations.{reads, writes, call_of, station_outcome, StationCall, ends, event_of, calls_of, after_station}
use Rattle.clients.specs.Laws.{ClientLaws}
use Rattle.clients.proofs.ClientSpans.{read_own, write_own, read_1, write_1, read_21, write_21}
use Rattle.clients.proofs.Translated.{refused_same}

nothing_done : (t : Spans) (c : StationCall) (v : Volume) (d : Drives) (piece : List ℕ) → settles (call_of c) ≡ false
    → outcome (λ _. station_outcome t c) (call_of c) (up v d) ≡ refused v 21 piece → after_station (station_outcome t) (up v d) (ends c) ≡ up v d
unfolding after_station event_of calls_of after
nothing_done t c v d piece still e =
    let r = refused_same (λ _. station_outcome t c) (call_of c) (up v d) v piece still e in
    rw (r.1, r.2) (unfold drives_of in refl)

module _ (t : Spans) (client : ℕ) (v : Volume) (d : Drives) (x : ℕ) (piece : List ℕ) (s : sound v ≡ true) (e : allowed t client x ≡ false) where
  read_nothing : after_station (station_outcome t) (up v d) (ends (reads client x piece)) ≡ up v d
  unfolding outcome station_outcome memory_of
  read_nothing = nothing_done t (reads client x piece) v d piece (unfold call_of settles in refl) (read_21 t client v x piece (observe (medium_of (up v d))) s e)

  write_nothing : after_station (station_outcome t) (up v d) (ends (writes client x piece)) ≡ up v d
  unfolding outcome station_outcome memory_of
  write_nothing = nothing_done t (writes client x piece) v d piece (unfold call_of settles in refl) (write_21 t client v x piece (observe (medium_of (up v d))) s e)

module _ (t : Spans) (client : ℕ) (v : Volume) (x : ℕ) where
  pub read_refuses : (piece : List ℕ) (o : Observations) → Refuses (client_read_table t client v x (length piece) o.byte_count) v piece (client_read t client v x piece o)
  unfolding client_read read_effect doing number client_read_table row_after span_row read_table refusal_with refusals refusal_number
  read_refuses piece o = judged_refuses (client_read_table t client v x (length piece) o.byte_count) v piece _ refl refl

  pub write_refuses : (piece : List ℕ) (o : Observations) → Refuses (client_write_table t client v x (length piece) o.byte_count) v piece (client_write t client v x piece o)
  unfolding client_write write_effect doing number client_write_table row_after span_row write_table refusal_with refusals refusal_number
  write_refuses piece o = judged_refuses (client_write_table t client v x (length piece) o.byte_count) v piece _ refl refl

  read_order : (piece_bytes byte_count : ℕ) → numbers_in (client_read_table t client v x piece_bytes byte_count) ≡ 1 ∷ 21 ∷ 2 ∷ 3 ∷ 4 ∷ []
  unfolding client_read_table row_after span_row read_table
  read_order piece_bytes byte_count = refl

  write_order : (piece_bytes byte_count : ℕ) → numbers_in (client_write_table t client v x piece_bytes byte_count) ≡ 1 ∷ 21 ∷ 2 ∷ 3 ∷ 4 ∷ 7 ∷ 19 ∷ []
  unfolding client_write_table row_after span_row write_table
  write_order piece_bytes byte_count = refl

pub client_laws : ClientLaws
client_laws =
    record {
      read_own = read_own;
      write_own = write_own;
      read_refuses = read_refuses;
      write_refuses = write_refuses;
      read_order = read_order;
      write_order = write_order;
      read_1 = read_1;
      write_1 = write_1;
      read_21 = read_21;
      write_21 = write_21;
      read_nothing = read_nothing;
      write_nothing = write_nothing;
    }
