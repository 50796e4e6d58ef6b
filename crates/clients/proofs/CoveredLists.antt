-- Which lists W10's claim is about: each law by a proof of its own.
use Prim.Native.Nat.{ℕ}
use mathlib.Core.Path.{◌≡◌, refl, ap, subst}
use mathlib.Core.Bool.{false, cond, true≢false}
use mathlib.Core.List.{List, [], ◌∷◌, ◌++◌}
use mathlib.Core.Logic.{◌≢◌, inl, inr}
use mathlib.Core.Option.{Option, none, some}
use borrow.Author.Tests.{ne_eqb}
use Rattle.medium.specs.Medium.{AfterCut, EachMayLeave}
use Rattle.promise.specs.Calls.{Call, grow, grow_beyond_doubling, copy, checkpoint, advance, write, read, restart, flushed, CutLeft}
use Rattle.promise.specs.Lists.{call_outcome, cut_left, System, down, drives_of, IsUp, NoEarlyCut, stores_at, after, after_all, Allowed, Lawful}
use Rattle.promise.specs.Promise.{Start, begin}
use Rattle.promise.proofs.CoveredLists.{lists_covered}
use Rattle.spans.specs.declared.Spans.{Spans}
use Rattle.clients.specs.Stations.{RackCall, grows, grows_beyond_doubling, copies, checkpoints, advances, restarts, flushes, rack_call, StationCall, by_rack, reads, writes, call_of, call_in, Act, station_outcome, StationEvent, ends, fails, event_of, events_of, calls_of, after_station, after_stations, LawfulStations, stations_after}
use Rattle.clients.specs.TwoRuns.{SharedEvent, call, power, is_shared, shared, BeginsFlushed, WritesFlushed, Covered}
use Rattle.clients.proofs.ListsThen.{writes_then, between_flushed}
use Rattle.clients.specs.CoveredLists.{MadeBy, CallsCovered, CallsOnly, no_call, one_more, CoveredOpen, EarlyListsCovered, OtherUnseen, CutsUnseen}

lawful_append : (calls : (c : StationCall) → Act) (s : System) (es fs : List StationEvent) → LawfulStations calls s es
    → LawfulStations calls (after_stations calls s es) fs → LawfulStations calls s (es ++ fs)
unfolding LawfulStations after_stations
lawful_append calls s [] fs l h = h
lawful_append calls s (e ∷ es) fs l h = (l.0, lawful_append calls (after_station calls s e) es fs l.1 h)

early_append : (es fs : List StationEvent) → NoEarlyCut (events_of es) → NoEarlyCut (events_of fs) → NoEarlyCut (events_of (es ++ fs))
unfolding NoEarlyCut events_of event_of
early_append [] fs n m = m
early_append (ends d ∷ es) fs (inl e) m = inl e
early_append (ends d ∷ es) fs (inr n) m = inr (early_append es fs n m)
early_append (fails d left ∷ es) fs n m = absurd n

-- a list that ends in a cut has a flushed before it
early_down : (calls : (c : StationCall) → Act) (s : System) (m : List ℕ) (es fs : List StationEvent) → IsUp s → NoEarlyCut (events_of es)
    → after_stations calls s es ≡ down m → NoEarlyCut (events_of (es ++ fs))
unfolding after_stations NoEarlyCut events_of event_of
early_down calls s m [] fs u n e = absurd (unfold IsUp in subst IsUp e u)
early_down calls s m (ends c ∷ es) fs u (inl f) e = inl f
early_down calls s m (ends c ∷ es) fs u (inr n) e = inr (early_down calls (after_station calls s (ends c)) m es fs (unfold after_station after IsUp in tt) n e)
early_down calls s m (fails c left ∷ es) fs u n e = absurd n

after_flushed : (es rest : List StationEvent) → CallsOnly es → NoEarlyCut (events_of (es ++ (ends (by_rack flushes) ∷ rest)))
unfolding NoEarlyCut events_of event_of call_of rack_call
after_flushed [] rest no_call = inl refl
after_flushed (ends c ∷ es) rest (one_more h) = inr (after_flushed es rest h)
after_flushed (fails c left ∷ es) rest h = elim h [ ]

pub early_lists_covered : EarlyListsCovered
early_lists_covered = record { after_flushed = after_flushed }

-- ---- calls

every_call : (c : Call) → MadeBy c
unfolding call_of rack_call
every_call (grow count) = record { maker = by_rack (grows count); is_it = refl }
every_call (grow_beyond_doubling count) = record { maker = by_rack (grows_beyond_doubling count); is_it = refl }
every_call (copy x) = record { maker = by_rack (copies x); is_it = refl }
every_call checkpoint = record { maker = by_rack checkpoints; is_it = refl }
every_call advance = record { maker = by_rack advances; is_it = refl }
every_call (write x piece) = record { maker = writes 0 x piece; is_it = refl }
every_call (read x piece) = record { maker = reads 0 x piece; is_it = refl }
every_call restart = record { maker = by_rack restarts; is_it = refl }
every_call flushed = record { maker = by_rack flushes; is_it = refl }

call_read : (client x : ℕ) (piece : List ℕ) → call_of (reads client x piece) ≡ read x piece
unfolding call_of
call_read client x piece = refl

call_write : (client x : ℕ) (piece : List ℕ) → call_of (writes client x piece) ≡ write x piece
unfolding call_of
call_write client x piece = refl

rack_own : (t : Spans) (c : RackCall) → station_outcome t (by_rack c) ≡ call_outcome (call_of (by_rack c))
unfolding station_outcome call_of
rack_own t c = refl

pub calls_covered : CallsCovered
calls_covered = record { every_call = every_call; a_read = call_read; a_write = call_write; rack_own = rack_own }

-- ---- restart is no other call

no_restart : (c : RackCall) → c ≢ restarts → rack_call c ≡ restart → ⊥
unfolding rack_call
no_restart (grows count) n e = true≢false cc
no_restart (grows_beyond_doubling count) n e = true≢false cc
no_restart (copies x) n e = true≢false cc
no_restart checkpoints n e = true≢false cc
no_restart advances n e = true≢false cc
no_restart restarts n e = n refl
no_restart flushes n e = true≢false cc

read_no_restart : (x : ℕ) (piece : List ℕ) → read x piece ≡ restart → ⊥
read_no_restart x piece e = true≢false cc

write_no_restart : (x : ℕ) (piece : List ℕ) → write x piece ≡ restart → ⊥
write_no_restart x piece e = true≢false cc

-- ---- covered lists

module _ (calls : (t : Spans) (c : StationCall) → Act) (t : Spans) (a : Start) where
  abbrev reached : (es : List StationEvent) → System
  reached es = stations_after (calls t) a es

  longer : (es fs : List StationEvent) → Covered calls t a es → LawfulStations (calls t) (reached es) fs → NoEarlyCut (events_of (es ++ fs)) → WritesFlushed fs
      → Covered calls t a (es ++ fs)
  unfolding stations_after
  longer es fs k l n w =
      record {
        lawful = lawful_append (calls t) (begin a) es fs k.lawful l;
        no_early_cut = n;
        writes_flushed_law = writes_then es fs k.writes_flushed_law w;
      }

  -- a call that may come next, by the laws on lists of the volume's own calls
  may_run_law : (s : System) (c : StationCall) → IsUp s → (call_of c ≡ restart → ⊥) → Allowed (calls_of (calls t) (ends c)) s (event_of (ends c))
  unfolding event_of Lawful after_all
  may_run_law s c u n = ((lists_covered (calls_of (calls t) (ends c))).a_call s [] tt u (call_of c) n).0

  one_call : (es : List StationEvent) (c : StationCall) → Covered calls t a es → IsUp (reached es) → (call_of c ≡ restart → ⊥) → WritesFlushed (ends c ∷ [])
      → Covered calls t a (es ++ (ends c ∷ []))
  unfolding LawfulStations events_of event_of NoEarlyCut
  one_call es c k u n w = longer es (ends c ∷ []) k (may_run_law (reached es) c u n, tt) (early_append es (ends c ∷ []) k.no_early_cut (inr tt)) w

  a_call : (es : List StationEvent) → Covered calls t a es → IsUp (reached es) → (c : RackCall) → c ≢ restarts → Covered calls t a (es ++ (ends (by_rack c) ∷ []))
  unfolding call_of WritesFlushed
  a_call es k u c n = one_call es (by_rack c) k u (no_restart c n) tt

  a_read : (es : List StationEvent) → Covered calls t a es → IsUp (reached es) → (client x : ℕ) (piece : List ℕ) → Covered calls t a (es ++ (ends (reads client x piece) ∷ []))
  unfolding call_of WritesFlushed
  a_read es k u client x piece = one_call es (reads client x piece) k u (read_no_restart x piece) tt

  a_write : (es : List StationEvent) → Covered calls t a es → IsUp (reached es) → (client x : ℕ) (piece : List ℕ)
      → Covered calls t a (es ++ (ends (writes client x piece) ∷ ends (by_rack flushes) ∷ []))
  unfolding call_of LawfulStations after_station after IsUp events_of event_of NoEarlyCut WritesFlushed BeginsFlushed
  a_write es k u client x piece =
      longer es (ends (writes client x piece) ∷ ends (by_rack flushes) ∷ []) k
      (may_run_law (reached es) (writes client x piece) u (write_no_restart x piece), (may_run_law _ (by_rack flushes) tt (no_restart flushes (λ e. true≢false cc)), tt))
      (early_append es (ends (writes client x piece) ∷ ends (by_rack flushes) ∷ []) k.no_early_cut (inr (inr tt))) (refl, tt)

  a_restart : (es : List StationEvent) → Covered calls t a es → (drives_of (reached es)).pending ≡ [] → Covered calls t a (es ++ (ends (by_rack restarts) ∷ []))
  unfolding call_of rack_call LawfulStations Lawful after_all events_of event_of NoEarlyCut WritesFlushed
  a_restart es k h =
      longer es (ends (by_rack restarts) ∷ []) k (((lists_covered (calls_of (calls t) (ends (by_rack restarts)))).a_restart (reached es) [] tt h).0, tt)
      (early_append es (ends (by_rack restarts) ∷ []) k.no_early_cut (inr tt)) tt

  cut_next : (es : List StationEvent) → Covered calls t a es → IsUp (reached es) → (c : Option StationCall) (left : List AfterCut)
      → NoEarlyCut (events_of (es ++ (fails c left ∷ []))) → EachMayLeave (stores_at (calls_of (calls t) (fails c left)) (call_in c) (reached es)) left
      → WritesFlushed (fails c left ∷ []) → Covered calls t a (es ++ (fails c left ∷ []))
  unfolding LawfulStations Lawful after_all event_of
  cut_next es k u c left n h =
      longer es (fails c left ∷ []) k (((lists_covered (calls_of (calls t) (fails c left))).a_cut (reached es) [] tt u (call_in c) left h).0, tt) n

  a_cut : (es : List StationEvent) → Covered calls t a es → IsUp (reached es) → (c : StationCall) (left : List AfterCut)
      → NoEarlyCut (events_of (es ++ (fails (some c) left ∷ []))) → EachMayLeave (stores_at (λ _. calls t c) (some (call_of c)) (reached es)) left
      → Covered calls t a (es ++ (fails (some c) left ∷ []))
  unfolding calls_of WritesFlushed
  a_cut es k u c left n h = cut_next es k u (some c) left n h tt

  a_cut_between : (es : List StationEvent) → Covered calls t a es → IsUp (reached es) → (left : List AfterCut)
      → NoEarlyCut (events_of (es ++ (fails none left ∷ []))) → EachMayLeave (drives_of (reached es)).pending left → Covered calls t a (es ++ (fails none left ∷ []))
  unfolding calls_of stores_at WritesFlushed
  a_cut_between es k u left n h = cut_next es k u none left n h (between_flushed left)

  a_second_cut : (es : List StationEvent) (m : List ℕ) → Covered calls t a es → reached es ≡ down m → Covered calls t a (es ++ (fails none [] ∷ []))
  unfolding LawfulStations Lawful after_all event_of WritesFlushed
  a_second_cut es m k e =
      longer es (fails none [] ∷ []) k (((lists_covered (calls_of (calls t) (fails none []))).a_second_cut (reached es) [] m tt e).0, tt)
      (early_down (calls t) (begin a) m es (fails none [] ∷ []) (unfold begin IsUp in tt) k.no_early_cut (unfold stations_after in e)) (between_flushed [])

  pub covered_open : CoveredOpen calls t a
  unfolding LawfulStations NoEarlyCut events_of WritesFlushed
  covered_open =
      record {
        none_yet = record { lawful = tt; no_early_cut = tt; writes_flushed_law = tt };
        a_call = a_call;
        a_read = a_read;
        a_write = a_write;
        a_restart = a_restart;
        a_cut = a_cut;
        a_cut_between = a_cut_between;
        a_second_cut = a_second_cut;
      }

-- ---- what the runs need not agree on

other_shared : (client : ℕ) (c : StationCall) (es fs : List StationEvent) → is_shared client c ≡ false
    → shared client (es ++ (ends c ∷ fs)) ≡ shared client (es ++ fs)
unfolding shared
other_shared client c [] fs h = rw h refl
other_shared client c (ends d ∷ es) fs h = ap (λ (l : List SharedEvent). cond (is_shared client d) (call d ∷ l) l) (other_shared client c es fs h)
other_shared client c (fails d left ∷ es) fs h = ap (λ (l : List SharedEvent). power d (cut_left left) ∷ l) (other_shared client c es fs h)

other_reads : (client other x : ℕ) (piece : List ℕ) (es fs : List StationEvent) → other ≢ client
    → shared client (es ++ (ends (reads other x piece) ∷ fs)) ≡ shared client (es ++ fs)
unfolding is_shared
other_reads client other x piece es fs n = other_shared client (reads other x piece) es fs (ne_eqb other client n)

other_writes : (client other x : ℕ) (piece : List ℕ) (es fs : List StationEvent) → other ≢ client
    → shared client (es ++ (ends (writes other x piece) ∷ fs)) ≡ shared client (es ++ fs)
unfolding is_shared
other_writes client other x piece es fs n = other_shared client (writes other x piece) es fs (ne_eqb other client n)

pub other_unseen : OtherUnseen
other_unseen = record { other_reads = other_reads; other_writes = other_writes }

torn_unseen : (client : ℕ) (c : Option StationCall) (left other : List AfterCut) (es fs : List StationEvent) → cut_left left ≡ cut_left other
    → shared client (es ++ (fails c left ∷ fs)) ≡ shared client (es ++ (fails c other ∷ fs))
unfolding shared
torn_unseen client c left other [] fs e = ap (λ (l : CutLeft). power c l ∷ shared client fs) e
torn_unseen client c left other (ends d ∷ es) fs e = ap (λ (l : List SharedEvent). cond (is_shared client d) (call d ∷ l) l) (torn_unseen client c left other es fs e)
torn_unseen client c left other (fails d more ∷ es) fs e = ap (λ (l : List SharedEvent). power d (cut_left more) ∷ l) (torn_unseen client c left other es fs e)

pub cuts_unseen : CutsUnseen
cuts_unseen = record { torn_unseen = torn_unseen }
