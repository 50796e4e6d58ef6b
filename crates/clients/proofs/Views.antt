-- Two lists that are the same without the other's calls agree.
use Prim.Native.Nat.{ℕ}
use mathlib.Core.Path.{◌≡◌, refl, sym, ◌∙◌, subst}
use mathlib.Core.Bool.{Bool, true, false, cond}
use mathlib.Core.List.{List, [], ◌∷◌, ◌++◌}
use mathlib.Core.Option.{Option}
use lib.Dec.{eqb}
use Rattle.medium.specs.Medium.{AfterCut}
use Rattle.promise.specs.Calls.{write, read, flushed, CutLeft}
use Rattle.promise.specs.Lists.{Event, runs, cut, cut_left}
use Rattle.spans.specs.declared.Spans.{Spans}
use Rattle.spans.specs.Spans.{allowed}
use Rattle.clients.specs.Stations.{RackCall, grows, grows_beyond_doubling, copies, checkpoints, advances, restarts, flushes, rack_call, StationCall, by_rack, reads, writes, call_of, StationEvent, ends, fails, call_in}
use Rattle.clients.specs.TwoRuns.{is_shared, SharedEvent, call, power, shared, BeginsFlushed, WritesFlushed}
use Rattle.clients.proofs.ClientSpans.{other_span, own_span, outside_span}
use Rattle.clients.specs.OwnCalls.{kept_call, kept, kept_all}
use Rattle.clients.proofs.VolumeRuns.{Shared, a_grow, a_grow_beyond, a_copy, a_checkpoint, an_advance, a_restart, a_flushed, own_read, own_write, no_write, a_write, Agree, no_event, both_call, both_cut, both_flushed, first_reads, second_reads}

-- the volume's calls of a list, along what it shares
pub data View (mine : ℕ → Bool) : List Event → List SharedEvent → Type 0 where
  nothing : View mine [] []
  other_read : {x : ℕ} {piece : List ℕ} {ks : List Event} {ss : List SharedEvent} → mine x ≡ false → View mine ks ss → View mine (runs (read x piece) ∷ ks) ss
  other_write : {x : ℕ} {piece : List ℕ} {ks : List Event} {ss : List SharedEvent} → mine x ≡ false → View mine ks ss
      → View mine (runs (write x piece) ∷ runs flushed ∷ ks) (call (by_rack flushes) ∷ ss)
  own_call : {ks : List Event} {ss : List SharedEvent} (c : StationCall) → Shared mine (call_of c) → View mine ks ss → View mine (runs (call_of c) ∷ ks) (call c ∷ ss)
  own_refused : {ks : List Event} {ss : List SharedEvent} (c : StationCall) → (Shared mine (call_of c) → ⊥) → View mine ks ss → View mine ks (call c ∷ ss)
  own_cut : {ks : List Event} {ss : List SharedEvent} (c : Option StationCall) (left : List AfterCut) (l : CutLeft) → cut_left left ≡ l
      → View mine ks ss → View mine (cut (call_in c) left ∷ ks) (power c l ∷ ss)

-- a flushed is shared
flushed_shared : (mine : ℕ → Bool) → Shared mine (call_of (by_rack flushes))
unfolding call_of rack_call
flushed_shared mine = a_flushed

-- ---- two views of one list

-- for each view of the first list: every view of the second, by what the rest of the first gives
module _ (mine : ℕ → Bool) where
  abbrev Meets : (ks : List Event) (ss : List SharedEvent) → Type 0
  Meets ks ss = (us : List Event) → View mine us ss → Agree mine ks us

  meets_nothing : Meets [] []
  meets_nothing us nothing = no_event
  meets_nothing us (other_read {x = x} {piece = piece} o w) = second_reads x piece o (meets_nothing _ w)

  meets_write : (x : ℕ) (piece : List ℕ) (ks : List Event) (ss : List SharedEvent) → mine x ≡ false → Meets ks ss
      → Meets (runs (write x piece) ∷ runs flushed ∷ ks) (call (by_rack flushes) ∷ ss)
  unfolding call_of rack_call
  meets_write x piece ks ss o rest us (other_read {x = y} {piece = other} p w) = second_reads y other p (meets_write x piece ks ss o rest _ w)
  meets_write x piece ks ss o rest us (other_write {x = y} {piece = other} p w) =
      both_flushed (runs (write x piece) ∷ []) (runs (write y other) ∷ []) (a_write o) (a_write p) (rest _ w)
  meets_write x piece ks ss o rest us (own_call c p w) = both_flushed (runs (write x piece) ∷ []) [] (a_write o) no_write (rest _ w)
  meets_write x piece ks ss o rest us (own_refused c p w) = absurd (p a_flushed)

  meets_call : (c : StationCall) (ks : List Event) (ss : List SharedEvent) → Shared mine (call_of c) → Meets ks ss → Meets (runs (call_of c) ∷ ks) (call c ∷ ss)
  meets_call c ks ss o rest us (other_read {x = y} {piece = other} p w) = second_reads y other p (meets_call c ks ss o rest _ w)
  meets_call c ks ss o rest us (other_write {x = y} {piece = other} p w) =
      unfold call_of rack_call in both_flushed [] (runs (write y other) ∷ []) no_write (a_write p) (rest _ w)
  meets_call c ks ss o rest us (own_call c1 p w) = both_call (call_of c) o (rest _ w)
  meets_call c ks ss o rest us (own_refused c1 p w) = absurd (p o)

  meets_refused : (c : StationCall) (ks : List Event) (ss : List SharedEvent) → (Shared mine (call_of c) → ⊥) → Meets ks ss → Meets ks (call c ∷ ss)
  meets_refused c ks ss o rest us (other_read {x = y} {piece = other} p w) = second_reads y other p (meets_refused c ks ss o rest _ w)
  meets_refused c ks ss o rest us (other_write {x = y} {piece = other} p w) = absurd (o (flushed_shared mine))
  meets_refused c ks ss o rest us (own_call c1 p w) = absurd (o p)
  meets_refused c ks ss o rest us (own_refused c1 p w) = rest us w

  meets_cut : (c : Option StationCall) (left : List AfterCut) (l : CutLeft) (ks : List Event) (ss : List SharedEvent) → cut_left left ≡ l
      → Meets ks ss → Meets (cut (call_in c) left ∷ ks) (power c l ∷ ss)
  meets_cut c left l ks ss e rest us (other_read {x = y} {piece = other} p w) = second_reads y other p (meets_cut c left l ks ss e rest _ w)
  meets_cut c left l ks ss e rest us (own_cut c1 other l1 f w) = both_cut (call_in c) left other (e ∙ sym f) (rest _ w)

  pub meets : (ks : List Event) (ss : List SharedEvent) → View mine ks ss → Meets ks ss
  meets ks ss nothing = meets_nothing
  meets ks ss (other_read {x = x} {piece = piece} {ks = ks1} o v) = λ us w. first_reads x piece o (meets ks1 ss v us w)
  meets ks ss (other_write {x = x} {piece = piece} {ks = ks1} {ss = ss1} o v) = meets_write x piece ks1 ss1 o (meets ks1 ss1 v)
  meets ks ss (own_call {ks = ks1} {ss = ss1} c o v) = meets_call c ks1 ss1 o (meets ks1 ss1 v)
  meets ks ss (own_refused {ss = ss1} c o v) = meets_refused c ks ss1 o (meets ks ss1 v)
  meets ks ss (own_cut {ks = ks1} {ss = ss1} c left l e v) = meets_cut c left l ks1 ss1 e (meets ks1 ss1 v)

-- ---- the view of a list

module _ (t : Spans) (client : ℕ) where
  abbrev mine : ℕ → Bool
  mine = allowed t client

  rack_shared : (c : RackCall) → Shared mine (call_of (by_rack c))
  unfolding call_of rack_call
  rack_shared (grows count) = a_grow
  rack_shared (grows_beyond_doubling count) = a_grow_beyond
  rack_shared (copies x) = a_copy
  rack_shared checkpoints = a_checkpoint
  rack_shared advances = an_advance
  rack_shared restarts = a_restart
  rack_shared flushes = a_flushed

  shared_read : (x : ℕ) (piece : List ℕ) → Shared mine (read x piece) → mine x ≡ true
  shared_read x piece (own_read e) = e

  shared_write : (x : ℕ) (piece : List ℕ) → Shared mine (write x piece) → mine x ≡ true
  shared_write x piece (own_write e) = e

  view_read : (k x : ℕ) (piece : List ℕ) (ks : List Event) (ss : List SharedEvent) → View mine ks ss → (a b : Bool) → allowed t k x ≡ a → eqb k client ≡ b
      → View mine (cond a (runs (read x piece) ∷ []) [] ++ ks) (cond b (call (reads k x piece) ∷ ss) ss)
  unfolding call_of
  view_read k x piece ks ss v true true e n = own_call (reads k x piece) (own_read (own_span t k client x e n)) v
  view_read k x piece ks ss v true false e n = other_read (other_span t k client x e n) v
  view_read k x piece ks ss v false true e n = own_refused (reads k x piece) (λ o. outside_span t k client x e n (shared_read x piece o)) v
  view_read k x piece ks ss v false false e n = v

  view_write : (k x : ℕ) (piece : List ℕ) (ks : List Event) (ss : List SharedEvent) → View mine ks ss → (a b : Bool) → allowed t k x ≡ a → eqb k client ≡ b
      → View mine (cond a (runs (write x piece) ∷ []) [] ++ (runs flushed ∷ ks)) (cond b (call (writes k x piece) ∷ call (by_rack flushes) ∷ ss) (call (by_rack flushes) ∷ ss))
  unfolding call_of rack_call
  view_write k x piece ks ss v true true e n = own_call (writes k x piece) (own_write (own_span t k client x e n)) (own_call (by_rack flushes) a_flushed v)
  view_write k x piece ks ss v true false e n = other_write (other_span t k client x e n) v
  view_write k x piece ks ss v false true e n = own_refused (writes k x piece) (λ o. outside_span t k client x e n (shared_write x piece o)) (own_call (by_rack flushes) a_flushed v)
  view_write k x piece ks ss v false false e n = own_call (by_rack flushes) a_flushed v

  pub view_of : (es : List StationEvent) → WritesFlushed es → View mine (kept_all t es) (shared client es)
  unfolding kept_all kept kept_call shared is_shared WritesFlushed BeginsFlushed call_of rack_call
  view_of [] f = nothing
  view_of (ends (by_rack c) ∷ es) f = own_call (by_rack c) (rack_shared c) (view_of es f)
  view_of (ends (reads k x piece) ∷ es) f = view_read k x piece _ _ (view_of es f) (allowed t k x) (eqb k client) refl refl
  view_of (ends (writes k x piece) ∷ []) f = absurd f.0
  view_of (ends (writes k x piece) ∷ (ends (by_rack c) ∷ es)) f =
      subst (λ (c : RackCall). View mine (cond (allowed t k x) (runs (write x piece) ∷ []) [] ++ (runs (rack_call c) ∷ kept_all t es))
      (cond (eqb k client) (call (writes k x piece) ∷ call (by_rack c) ∷ shared client es) (call (by_rack c) ∷ shared client es))) (sym f.0)
      (view_write k x piece _ _ (view_of es f.1) (allowed t k x) (eqb k client) refl refl)
  view_of (ends (writes k x piece) ∷ (ends (reads j y other) ∷ es)) f = absurd f.0
  view_of (ends (writes k x piece) ∷ (ends (writes j y other) ∷ es)) f = absurd f.0
  view_of (ends (writes k x piece) ∷ (fails c left ∷ es)) f = absurd f.0
  view_of (fails c left ∷ es) f = own_cut c left (cut_left left) refl (view_of es f)
