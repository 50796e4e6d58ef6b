-- A call on two media of one length with one record: the same reply.
use Prim.Native.Nat.{ℕ}
use mathlib.Core.Path.{◌≡◌, refl, ap, subst}
use mathlib.Core.Bool.{Bool, true, false, cond, not}
use mathlib.Core.List.{List, [], ◌∷◌}
use mathlib.Core.Option.{Option, none, some}
use lib.Dec.{eqb, ltb}
use lib.ListN.{length}
use Rattle.base.specs.Refusals.{refusal}
use Rattle.layout.specs.Tally.{next_block}
use Rattle.medium.specs.Medium.{record_bytes, Observations, no_store}
use Rattle.volume.specs.declared.Volume.{Volume}
use Rattle.volume.specs.Calls.{Outcome, refused, doing, reporting, telling, judged, too_short, restart_table, restart_effect, restart_outcome, grow_table_of, grow_effect, grow_outcome_of, write_table, write_effect, write_outcome, read_table, read_effect, read_outcome, copy_table, copy_store, copy_effect, copy_outcome, checkpoint_table, checkpoint_effect, checkpoint_outcome, advance_table, advancing, advance_effect, advance_outcome}
use Rattle.volume.specs.Records.{state_read, is_sound_record}
use Rattle.volume.specs.States.{geometry, disks, tally_of, zeros, pending_with}
use Rattle.promise.specs.Calls.{Call, grow, grow_beyond_doubling, copy, checkpoint, advance, write, read, restart, flushed}
use Rattle.promise.specs.Lists.{call_outcome}
use Rattle.spans.specs.declared.Spans.{Spans}
use Rattle.clients.specs.ClientCalls.{client_read_table, client_write_table, client_read, client_write}
use Rattle.clients.specs.Stations.{rack_call, StationCall, by_rack, reads, writes, station_outcome}

pub record Same (o p : Observations) : Type 0 where
  pub byte_count : o.byte_count ≡ p.byte_count
  pub sector : o.sector ≡ p.sector

pub reply_by : (table other : List (ℕ × Bool)) (v : Volume) (piece : List ℕ) (a b : Outcome) → table ≡ other → a.reply ≡ b.reply
    → (judged table (λ k. refused v k piece) a).reply ≡ (judged other (λ k. refused v k piece) b).reply
reply_by table other v piece a b e f =
    subst (λ (t : List (ℕ × Bool)). (judged table (λ k. refused v k piece) a).reply ≡ (judged t (λ k. refused v k piece) b).reply) e
    (go (eqb (refusal table) 0) (refused v (refusal table) piece))
  where
    go : (t : Bool) (r : Outcome) → (cond t a r).reply ≡ (cond t b r).reply
    go true r = f
    go false r = refl

advancing_reply : (v : Volume) (next : Option ℕ) (o p : Observations) → (advancing v next o).reply ≡ (advancing v next p).reply
unfolding advancing telling copy_store pending_with
advancing_reply v none o p = refl
advancing_reply v (some x) o p = refl

restart_table_law : (o p : Observations) → Same o p → restart_table o ≡ restart_table p
unfolding restart_table
restart_table_law o p e =
    λ i. (2, ltb (e.byte_count i) record_bytes)
    ∷ (13, not (is_sound_record (e.sector i)))
    ∷ (2, too_short (geometry (state_read (e.sector i))) (disks (state_read (e.sector i))) (e.byte_count i))
    ∷ []

pub same_reply : (c : Call) (v : Volume) (o p : Observations) → Same o p → (call_outcome c v o).reply ≡ (call_outcome c v p).reply
unfolding call_outcome
same_reply (grow count) v o p e =
    unfold grow_outcome_of in reply_by _ _ v [] (grow_effect v count) (grow_effect v count) (ap (grow_table_of true v count) e.byte_count) refl
same_reply (grow_beyond_doubling count) v o p e =
    unfold grow_outcome_of in reply_by _ _ v [] (grow_effect v count) (grow_effect v count) (ap (grow_table_of false v count) e.byte_count) refl
same_reply (copy x) v o p e =
    unfold copy_outcome in
    reply_by _ _ v [] (copy_effect v x o) (copy_effect v x p) (ap (copy_table v x) e.byte_count) (unfold copy_effect reporting copy_store pending_with in refl)
same_reply checkpoint v o p e =
    unfold checkpoint_outcome in reply_by _ _ v [] (checkpoint_effect v) (checkpoint_effect v) (ap (checkpoint_table v) e.byte_count) refl
same_reply advance v o p e =
    unfold advance_outcome advance_effect in
    reply_by _ _ v [] (advancing v (next_block (tally_of v)) o) (advancing v (next_block (tally_of v)) p) (ap (advance_table v) e.byte_count) (advancing_reply v (next_block (tally_of v)) o p)
same_reply (write x piece) v o p e =
    unfold write_outcome in
    reply_by _ _ v piece (write_effect v x piece) (write_effect v x piece) (ap (write_table v x (length piece)) e.byte_count) refl
same_reply (read x piece) v o p e =
    unfold read_outcome in
    reply_by _ _ v piece (read_effect v x o) (read_effect v x p) (ap (read_table v x (length piece)) e.byte_count) (unfold read_effect doing in refl)
same_reply restart v o p e =
    unfold restart_outcome in
    reply_by _ _ zeros [] (restart_effect o) (restart_effect p) (restart_table_law o p e)
    (unfold restart_effect in ap (λ (sector : List ℕ). (reporting (state_read sector) no_store).reply) e.sector)
same_reply flushed v o p e = refl

pub station_reply : (t : Spans) (c : StationCall) (v w : Volume) (o p : Observations) → v ≡ w → Same o p → (station_outcome t c v o).reply ≡ (station_outcome t c w p).reply
station_reply t c v w o p e same = subst (λ (w : Volume). (station_outcome t c v o).reply ≡ (station_outcome t c w p).reply) e (by c)
  where
    by : (c : StationCall) → (station_outcome t c v o).reply ≡ (station_outcome t c v p).reply
    by (by_rack c) = unfold station_outcome in same_reply (rack_call c) v o p same
    by (reads client x piece) =
        unfold station_outcome client_read in
        reply_by _ _ v piece (read_effect v x o) (read_effect v x p) (ap (client_read_table t client v x (length piece)) same.byte_count) (unfold read_effect doing in refl)
    by (writes client x piece) =
        unfold station_outcome client_write in
        reply_by _ _ v piece (write_effect v x piece) (write_effect v x piece) (ap (client_write_table t client v x (length piece)) same.byte_count) refl
