-- W10 on the volume's events.
use Prim.Native.Nat.{ℕ, ◌<◌}
use mathlib.Core.Path.{◌≡◌, refl, ap, ◌∙◌, subst}
use mathlib.Core.Bool.{Bool, true, false, true≢false, false≢true}
use mathlib.Core.List.{List}
use mathlib.Core.Option.{Option, none, some}
use lib.ListN.{length}
use Rattle.medium.specs.declared.Geometry.{Geometry}
use Rattle.medium.specs.Medium.{Observations, observe}
use Rattle.volume.specs.declared.Volume.{Volume}
use Rattle.volume.specs.Answers.{accepted}
use Rattle.volume.specs.Calls.{Outcome, refused, read_table, read_outcome}
use Rattle.volume.specs.States.{geometry}
use Rattle.volume.proofs.Accepted.{ReadFacts, read_accepted}
use Rattle.volume.proofs.Judged.{judged_cases}
use Rattle.promise.specs.Calls.{read, restart}
use Rattle.promise.specs.Lists.{call_outcome, Event, runs, System, up, down, medium_of, memory_of, IsUp, NoEarlyCut, outcome, Allowed, Lawful}
use Rattle.promise.specs.Model.{CachedModel}
use Rattle.promise.specs.Promise.{Start, formatted, begin}
use Rattle.promise.proofs.EventSteps.{Invariant}
use Rattle.promise.proofs.Theorem.{start_geometry, start_cached, start, read_after}
use Rattle.spans.specs.declared.Spans.{Spans}
use Rattle.spans.specs.Spans.{allowed}
use Rattle.clients.specs.ClientCalls.{client_read}
use Rattle.clients.proofs.VolumeRuns.{Agree}
use Rattle.clients.proofs.Models as models
use Rattle.clients.proofs.ClientSpans.{read_own, accepted_span}
use Rattle.clients.proofs.Systems.{Ready, early, Alike}
use Rattle.clients.proofs.TwoLists.{EndAlike, agree_all}

alike_begin : (a : Start) → Alike (begin a) (begin a)
alike_begin a =
    record {
      memory = refl;
      landed = record { byte_count = refl; sector = refl };
      long = refl;
      up_too = λ u. u;
      up_first = λ u. u;
    }

pub ready_start : (a : Start) → accepted (formatted a).reply.answer ≡ true → (es : List Event) → NoEarlyCut es
    → Ready (start_geometry a) (begin a) (start_cached a) es
unfolding begin
ready_start a ok es n = early _ _ none refl (start a ok) n

-- both runs end alike
module _ (mine : ℕ → Bool) (a : Start) (ok : accepted (formatted a).reply.answer ≡ true) (es fs : List Event) (l : Lawful call_outcome (begin a) es)
    (l1 : Lawful call_outcome (begin a) fs) (early_es : NoEarlyCut es) (early_fs : NoEarlyCut fs) (agree : Agree mine es fs) where
  pub end_alike : EndAlike (start_geometry a) mine (begin a) (begin a) (start_cached a) (start_cached a) es fs
  end_alike =
      agree_all (start_geometry a) mine es fs agree (begin a) (begin a) (start_cached a) (start_cached a) (ready_start a ok es early_es) (ready_start a ok fs early_fs)
      (alike_begin a) (models.alike_self mine (start_cached a)) l l1

-- a client's read in its span
read_allowed : (s : System) (x : ℕ) (piece : List ℕ) → IsUp s → Allowed call_outcome s (runs (read x piece))
unfolding IsUp Allowed
read_allowed (up v d) x piece u = λ e. let z : read x piece ≡ restart = e in absurd (true≢false cc)
read_allowed (down m) x piece u = absurd u

-- what an accepted read says of the plain volume
read_whole : (v : Volume) (x : ℕ) (piece : List ℕ) (o : Observations) → accepted (read_outcome v x piece o).reply.answer ≡ true
    → ReadFacts v x (length piece) o.byte_count
unfolding read_outcome refused accepted
read_whole v x piece o =
    judged_cases (λ (out : Outcome). accepted out.reply.answer ≡ true → ReadFacts v x (length piece) o.byte_count)
    (read_table v x (length piece) o.byte_count) (λ n. refused v n piece) _ (λ e _. read_accepted v x (length piece) o.byte_count e)
    (λ f ok. absurd (false≢true ok))

read_facts : (g : Geometry) (s : System) (k : CachedModel) (told : Option ℕ) → Invariant false g s k told → IsUp s → (x : ℕ) (piece : List ℕ)
    → accepted (outcome call_outcome (read x piece) s).reply.answer ≡ true → (x < k.current.plain.blocks) × (length piece ≡ g.size)
unfolding outcome call_outcome memory_of IsUp geometry
read_facts g (up v d) k told i u x piece a =
    let f = read_whole v x piece (observe (medium_of (up v d))) a in
    (rw i.up.consistent.same_open f.block_open, f.piece_whole ∙ ap (λ (h : Geometry). h.size) i.up.same_geometry)
read_facts g (down m) k told i u x piece a = absurd u

module _ (t : Spans) (client : ℕ) (g : Geometry) (s : System) (k : CachedModel) (told : Option ℕ) (i : Invariant false g s k told) (u : IsUp s)
    (x : ℕ) (piece : List ℕ) where
  is_read : allowed t client x ≡ true → client_read t client (memory_of s) x piece (observe (medium_of s)) ≡ outcome call_outcome (read x piece) s
  unfolding outcome call_outcome
  is_read own = read_own t client (memory_of s) x piece (observe (medium_of s)) own

  pub client_accepted : allowed t client x ≡ true → x < k.current.plain.blocks → length piece ≡ g.size
      → accepted (client_read t client (memory_of s) x piece (observe (medium_of s))).reply.answer ≡ true
  client_accepted own below whole = rw (is_read own) (read_after g s k told i x piece (read_allowed s x piece u) below whole).0

  pub client_bytes : accepted (client_read t client (memory_of s) x piece (observe (medium_of s))).reply.answer ≡ true
      → (b : List ℕ) → k.current.plain.bytes x ≡ some b → (client_read t client (memory_of s) x piece (observe (medium_of s))).piece ≡ b
  client_bytes a b set =
      let own = accepted_span t client (memory_of s) x piece (observe (medium_of s)) a in
      let f = read_facts g s k told i u x piece (subst (λ (out : Outcome). accepted out.reply.answer ≡ true) (is_read own) a) in
      rw (is_read own) ((read_after g s k told i x piece (read_allowed s x piece u) f.0 f.1).1 b set)
