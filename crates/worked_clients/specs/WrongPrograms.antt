-- Programs that W10's claim shuts out, each of them ours but for one thing: `ShutOut`, and for each part of the claim one that breaks that part:
-- `PartsBroken`. `proofs/Wrong.antt` has for each two runs, computed.
use Rattle.std.specs.Prelude.{ℕ, zero, suc, Bool, true, false, cond, not, ◌&&◌, List, [], eqb, leb, ltb, length, get_or}
use Rattle.base.specs.Refusals.{row_after}
use Rattle.layout.specs.Tally.{live_spot_of}
use Rattle.medium.specs.Medium.{Observations}
use Rattle.volume.specs.declared.Volume.{Volume}
use Rattle.volume.specs.Calls.{refused, judged, read_table, read_effect, write_table, write_effect}
use Rattle.volume.specs.States.{geometry, tally_of}
use Rattle.promise.specs.Lists.{call_outcome}
use Rattle.spans.specs.declared.Span.{Span}
use Rattle.spans.specs.declared.Spans.{Spans}
use Rattle.spans.specs.Spans.{reaches, short, spans_hold, owned_by, allowed}
use Rattle.clients.specs.ClientCalls.{client_read}
use Rattle.clients.specs.Parts.{AnsweredAlike, SetAlike, BytesAlike, OpenAlike, OwnAccepted, EachRead}
use Rattle.clients.specs.Stations.{RackCall, grows, grows_beyond_doubling, copies, checkpoints, advances, restarts, flushes, rack_call, StationCall, by_rack, reads, writes, Act}
use Rattle.clients.specs.TwoRuns.{SeparateOf, SameRepliesOf}

-- our calls, with these as given
unfoldable pub program : (rack : (t : Spans) (c : RackCall) → Act) (reading writing : (t : Spans) (client x : ℕ) (piece : List ℕ) → Act) (t : Spans) (c : StationCall) → Act
program rack reading writing t (by_rack c) v o = rack t c v o
program rack reading writing t (reads client x piece) v o = reading t client x piece v o
program rack reading writing t (writes client x piece) v o = writing t client x piece v o

abbrev our_rack : (t : Spans) (c : RackCall) → Act
our_rack t c v o = call_outcome (rack_call c) v o

-- ---- 21 elsewhere

-- which client may use which block, by a table; a read and a write with 21 elsewhere
abbrev May : Type 0
May = (t : Spans) (client x : ℕ) → Bool

abbrev read_where : (may : May) (t : Spans) (client x : ℕ) (piece : List ℕ) → Act
read_where may t client x piece v o =
    judged (row_after 1 (21, not (may t client x)) (read_table v x (length piece) o.byte_count)) (λ k. refused v k piece) (read_effect v x o)

abbrev write_where : (may : May) (t : Spans) (client x : ℕ) (piece : List ℕ) → Act
write_where may t client x piece v o =
    judged (row_after 1 (21, not (may t client x)) (write_table v x (length piece) o.byte_count)) (λ k. refused v k piece) (write_effect v x piece)

abbrev both_where : (may : May) (t : Spans) (c : StationCall) → Act
both_where may = program our_rack (read_where may) (write_where may)

-- a span that reaches one block too far
abbrev span_too_long : (s : Span) (x : ℕ) → Bool
span_too_long s x = leb s.first x && leb x (reaches s)

abbrev owns_too_many : (t : Spans) (client x : ℕ) → Bool
owns_too_many t zero x = span_too_long t.zero x
owns_too_many t (suc zero) x = span_too_long t.one x
owns_too_many t (suc (suc k)) x = false

unfoldable pub too_long : (t : Spans) (c : StationCall) → Act
too_long = both_where (λ t client x. spans_hold t && owns_too_many t client x)

-- one that starts one block too early
abbrev span_too_early : (s : Span) (x : ℕ) → Bool
span_too_early s x = leb s.first (suc x) && ltb x (reaches s)

abbrev owns_too_early : (t : Spans) (client x : ℕ) → Bool
owns_too_early t zero x = span_too_early t.zero x
owns_too_early t (suc zero) x = span_too_early t.one x
owns_too_early t (suc (suc k)) x = false

unfoldable pub too_early : (t : Spans) (c : StationCall) → Act
too_early = both_where (λ t client x. spans_hold t && owns_too_early t client x)

-- spans that share blocks accepted
unfoldable pub overlapping : (t : Spans) (c : StationCall) → Act
overlapping = both_where (λ t client x. (short t.zero && short t.one) && owned_by t client x)

-- a client's read through the other's span, and a read with no 21
abbrev other_client : (client : ℕ) → ℕ
other_client zero = 1
other_client (suc k) = 0

unfoldable pub reads_other : (t : Spans) (c : StationCall) → Act
reads_other = program our_rack (read_where (λ t client x. allowed t (other_client client) x)) (write_where allowed)

unfoldable pub reads_all : (t : Spans) (c : StationCall) → Act
reads_all = program our_rack (read_where (λ t client x. true)) (write_where allowed)

-- a write with no 21
unfoldable pub writes_all : (t : Spans) (c : StationCall) → Act
writes_all = program our_rack (read_where allowed) (write_where (λ t client x. true))

-- a third client that uses client 0's span
abbrev third_client : (client : ℕ) → ℕ
third_client zero = 0
third_client (suc zero) = 1
third_client (suc (suc k)) = 0

unfoldable pub any_client : (t : Spans) (c : StationCall) → Act
any_client = both_where (λ t client x. allowed t (third_client client) x)

-- 21 for everything
unfoldable pub nothing_allowed : (t : Spans) (c : StationCall) → Act
nothing_allowed = both_where (λ t client x. false)

pub record ShutOut : Type 0 where
  pub too_long_law : SeparateOf too_long → ⊥
  pub too_early_law : SeparateOf too_early → ⊥
  pub overlaps : SeparateOf overlapping → ⊥
  pub reads_other_law : SeparateOf reads_other → ⊥
  pub reads_all_law : SeparateOf reads_all → ⊥
  pub writes_all_law : SeparateOf writes_all → ⊥
  pub any_client_law : SeparateOf any_client → ⊥
  pub nothing_allowed_law : SeparateOf nothing_allowed → ⊥

-- ---- the other's bytes on the medium tested

-- whether client 1's first block begins with the byte 2
unfoldable pub begins_with_two : (t : Spans) (v : Volume) (o : Observations) → Bool
begins_with_two t v o = eqb (get_or (o.bytes_at (geometry v) (live_spot_of (tally_of v) t.one.first)) 0 0) 2

-- a read that is then refused
unfoldable pub refuses_by_other : (t : Spans) (c : StationCall) → Act
refuses_by_other = program our_rack (λ t client x piece v o. cond (begins_with_two t v o) (refused v 3 piece) (client_read t client v x piece o)) (write_where allowed)

-- a read that then gives that block's bytes
unfoldable pub reads_by_other : (t : Spans) (c : StationCall) → Act
reads_by_other =
    program our_rack (λ t client x piece v o. cond (begins_with_two t v o) (read_effect v t.one.first o) (client_read t client v x piece o)) (write_where allowed)

-- a grow that is then refused
abbrev grow_by_other : (t : Spans) (c : RackCall) → Act
grow_by_other t (grows count) v o = cond (begins_with_two t v o) (refused v 18 []) (our_rack t (grows count) v o)
grow_by_other t (grows_beyond_doubling count) v o = our_rack t (grows_beyond_doubling count) v o
grow_by_other t (copies x) v o = our_rack t (copies x) v o
grow_by_other t checkpoints v o = our_rack t checkpoints v o
grow_by_other t advances v o = our_rack t advances v o
grow_by_other t restarts v o = our_rack t restarts v o
grow_by_other t flushes v o = our_rack t flushes v o

unfoldable pub grows_by_other : (t : Spans) (c : StationCall) → Act
grows_by_other = program grow_by_other (read_where allowed) (write_where allowed)

pub record PartsBroken : Type 0 where
  pub same_answer : EachRead refuses_by_other (AnsweredAlike refuses_by_other) → ⊥
  pub same_plain : EachRead writes_all (SetAlike writes_all) → ⊥
  pub same_bytes_law : EachRead reads_by_other (BytesAlike reads_by_other) → ⊥
  pub same_open : EachRead grows_by_other (OpenAlike grows_by_other) → ⊥
  pub is_accepted_law : EachRead nothing_allowed (OwnAccepted nothing_allowed) → ⊥
  -- and the claim on replies
  pub same_replies : SameRepliesOf refuses_by_other → ⊥
