-- A list of the stations' calls computed once, as in `worked`: whether it is lawful, what plain volume and tally are fed, the numbers told, whether it
-- ends in a cut, and what is made of state and drives at its end: `computed_stations`.
use Prim.Native.Nat.{ℕ}
use mathlib.Core.Bool.{Bool, true, false, cond, ◌&&◌, false≢true}
use mathlib.Core.List.{List, [], ◌∷◌}
use mathlib.Core.Path.{◌≡◌, refl, sym, ap, ◌∙◌, fun_ext}
use Rattle.base.proofs.Booleans.{cond_cases}
use Rattle.medium.specs.Medium.{Observations, observe}
use Rattle.volume.specs.declared.Volume.{Volume}
use Rattle.volume.specs.Answers.{number, accepted}
use Rattle.volume.specs.Calls.{Outcome, restart_outcome}
use Rattle.promise.specs.Calls.{Fed, ended, cut_in}
use Rattle.promise.specs.Lists.{System, up, down, drives_of, memory_of, medium_of, cut_left, outcome, IsUp, fed}
use Rattle.clients.specs.Stations.{grows, grows_beyond_doubling, copies, checkpoints, advances, restarts, flushes, rack_call, StationCall, by_rack, reads, writes, call_of, call_in, Act, StationEvent, ends, fails, event_of, calls_of, after_station, after_stations, LawfulStations, fed_stations}
use Rattle.worked.proofs.Reflects.{Reflects, holds, fails as fails_to, both}
use Rattle.worked.proofs.FasterCalls.{cuts_applied, medium_seen, seen_same, restart_by_writing, restart_same, is_restart}
use Rattle.worked.proofs.Computed.{may_run, may_cut, may_run_law, may_cut_law, after_call, stores_seen, stores_same, run_same, cut_same}
use Rattle.worked_clients.specs.Runs.{numbers_told}

-- ---- restart in the form that computes faster

restarts_only : (c : StationCall) → is_restart (call_of c) ≡ true → c ≡ by_rack restarts
unfolding call_of rack_call
restarts_only (by_rack (grows count)) t = absurd (false≢true t)
restarts_only (by_rack (grows_beyond_doubling count)) t = absurd (false≢true t)
restarts_only (by_rack (copies x)) t = absurd (false≢true t)
restarts_only (by_rack checkpoints) t = absurd (false≢true t)
restarts_only (by_rack advances) t = absurd (false≢true t)
restarts_only (by_rack restarts) t = refl
restarts_only (by_rack flushes) t = absurd (false≢true t)
restarts_only (reads client x piece) t = absurd (false≢true t)
restarts_only (writes client x piece) t = absurd (false≢true t)

unfoldable pub faster_stations : (calls : (c : StationCall) → Act) (c : StationCall) → Act
faster_stations calls c v o = cond (is_restart (call_of c)) (restart_by_writing o) (calls c v o)

-- a program whose restart is ours
abbrev pub OurRestart : (calls : (c : StationCall) → Act) → Type 0
OurRestart calls = (v : Volume) (o : Observations) → calls (by_rack restarts) v o ≡ restart_outcome o

pub faster_same : (calls : (c : StationCall) → Act) → OurRestart calls → faster_stations calls ≡ calls
unfolding faster_stations
faster_same calls ours =
    fun_ext
    (λ c. fun_ext (λ v. fun_ext (λ o.
    cond_cases (λ (out : Outcome). out ≡ calls c v o) (is_restart (call_of c))
    (λ t. restart_same o ∙ sym (ours v o) ∙ ap (λ (d : StationCall). calls d v o) (sym (restarts_only c t))) (λ _. refl))))

-- ---- a list of events

abbrev is_up : (s : System) → Bool
is_up (up v d) = true
is_up (down m) = false

is_up_law : (s : System) → Reflects (IsUp s) (is_up s)
unfolding IsUp
is_up_law (up v d) = holds tt
is_up_law (down m) = fails_to (λ e. e)

-- what a list comes to
pub record Result (X : Type 0) : Type 0 where
  pub lawful : Bool
  pub up : Bool
  pub fed : List Fed
  pub told : List ℕ
  pub found : X

module _ (calls : (c : StationCall) → Act) {X : Type 0} (find : System → X) where
  unfoldable pub computed_stations : (s : System) (es : List StationEvent) → Result X
  computed_stations s [] = record { lawful = true; up = is_up s; fed = []; told = []; found = find s }
  computed_stations s (ends c ∷ es) =
      let m = medium_seen s in
      let out = calls c (memory_of s) (observe m) in
      let rest = computed_stations (after_call (call_of c) s m out) es in
      record {
        lawful = may_run (call_of c) s && rest.lawful;
        up = rest.up;
        fed = ended (call_of c) (accepted out.reply.answer) ∷ rest.fed;
        told = number out.reply.answer ∷ rest.told;
        found = rest.found;
      }
  computed_stations s (fails c left ∷ es) =
      let stores = stores_seen (calls_of calls (fails c left)) (call_in c) s in
      let rest = computed_stations (down (cuts_applied stores left (drives_of s).landed)) es in
      record {
        lawful = may_cut (call_in c) s stores left && rest.lawful;
        up = rest.up;
        fed = cut_in (call_in c) (cut_left left) ∷ rest.fed;
        told = rest.told;
        found = rest.found;
      }

  -- a result that is right of a list
  pub record Right (s : System) (es : List StationEvent) (r : Result X) : Type 0 where
    pub is_lawful : Reflects (LawfulStations calls s es) r.lawful
    pub ends_up_law : Reflects (IsUp (after_stations calls s es)) r.up
    pub all_fed_law : r.fed ≡ fed_stations calls s es
    pub all_told : r.told ≡ numbers_told calls s es
    pub all_found : r.found ≡ find (after_stations calls s es)

  pub right : (s : System) (es : List StationEvent) → Right s es (computed_stations s es)
  unfolding computed_stations LawfulStations after_stations after_station fed_stations numbers_told fed outcome event_of calls_of
  right s [] = record { is_lawful = holds tt; ends_up_law = is_up_law s; all_fed_law = refl; all_told = refl; all_found = refl }
  right s (ends c ∷ es) =
      let i = right (after_station calls s (ends c)) es in
      rw (run_same (calls_of calls (ends c)) (call_of c) s, seen_same s)
      (record {
        is_lawful = both (may_run_law (calls_of calls (ends c)) (call_of c) s) i.is_lawful;
        ends_up_law = i.ends_up_law;
        all_fed_law = ap (λ (fs : List Fed). ended (call_of c) (accepted (calls c (memory_of s) (observe (medium_of s))).reply.answer) ∷ fs) i.all_fed_law;
        all_told = ap (λ (ns : List ℕ). number (calls c (memory_of s) (observe (medium_of s))).reply.answer ∷ ns) i.all_told;
        all_found = i.all_found;
      })
  right s (fails c left ∷ es) =
      let i = right (after_station calls s (fails c left)) es in
      rw (cut_same (calls_of calls (fails c left)) (call_in c) left s, stores_same (calls_of calls (fails c left)) (call_in c) s)
      (record {
        is_lawful = both (may_cut_law (calls_of calls (fails c left)) (call_in c) s left) i.is_lawful;
        ends_up_law = i.ends_up_law;
        all_fed_law = ap (λ (fs : List Fed). cut_in (call_in c) (cut_left left) ∷ fs) i.all_fed_law;
        all_told = i.all_told;
        all_found = i.all_found;
      })
