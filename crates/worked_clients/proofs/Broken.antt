-- Two runs of any program, one with a write of the other and one without, and a read after each, computed: whether they break a part of the claim.
use Prim.Native.Nat.{ℕ}
use mathlib.Core.Path.{◌≡◌, refl, sym, ap, ◌∙◌}
use mathlib.Core.Bool.{Bool, true, false, not, ◌&&◌}
use mathlib.Core.List.{List, [], ◌∷◌, ◌++◌}
use mathlib.Core.Option.{Option, none, some}
use lib.Dec.{eqb, ltb}
use lib.ListN.{get_or, length-replicate}
use borrow.Author.Tests.{eq-eqb, ltb-true, not-true}
use Rattle.base.proofs.Booleans.{and_left, and_right, clash}
use Rattle.volume.specs.Answers.{number, accepted}
use Rattle.volume.specs.Calls.{Outcome}
use Rattle.promise.specs.Model.{PlainVolume}
use Rattle.promise.specs.Promise.{Start}
use Rattle.spans.specs.declared.Spans.{Spans}
use Rattle.spans.specs.Spans.{allowed}
use Rattle.clients.specs.Parts.{AnsweredAlike, SetAlike, BytesAlike, OpenAlike, OwnAccepted, EachRead}
use Rattle.clients.specs.Stations.{StationCall, reads, writes, Act, StationEvent, ends, stations_model, read_after}
use Rattle.clients.specs.TwoRuns.{is_shared, shared}
use Rattle.worked.specs.Worked.{block_of}
use Rattle.worked.proofs.BrokenReads.{other_bytes, other_bytes_law}
use Rattle.worked_clients.specs.Runs.{flush, two_disks}
use Rattle.worked_clients.proofs.Covered.{list_test, shared_then, seen, model_seen, read_seen, covered_read}
use Rattle.worked_clients.proofs.Ours.{two_disks_accepted}

-- ---- the two runs: a client writes block x; the other writes block y, or does not

unfoldable pub disturbed : (client x other y : ℕ) (rest : List StationEvent) → List StationEvent
disturbed client x other y rest = flush ∷ ends (writes client x (block_of 1)) ∷ flush ∷ ends (writes other y (block_of 2)) ∷ flush ∷ rest

unfoldable pub alone : (client x : ℕ) (rest : List StationEvent) → List StationEvent
alone client x rest = flush ∷ ends (writes client x (block_of 1)) ∷ flush ∷ flush ∷ rest

same_shared : (client x other y : ℕ) (rest : List StationEvent) → eqb other client ≡ false
    → shared client (disturbed client x other y rest) ≡ shared client (alone client x rest)
unfolding disturbed alone shared is_shared
same_shared client x other y rest differ = rw differ refl

-- ---- a part that they break, by the plain volumes after them and what the read gives

abbrev pub Wrong : Type 0
Wrong = (p q : PlainVolume) (r s : Outcome) → Bool

module _ (calls : (t : Spans) (c : StationCall) → Act) (t : Spans) (client x other y : ℕ) (rest : List StationEvent) where
  abbrev es : List StationEvent
  es = disturbed client x other y rest

  abbrev fs : List StationEvent
  fs = alone client x rest

  unfoldable pub pair_test : (wrong : Wrong) → Bool
  pair_test wrong =
      let r = seen calls t two_disks client x es in
      let s = seen calls t two_disks client x fs in
      (list_test es && list_test fs) && ((r.lawful && s.lawful) && wrong r.model.plain s.model.plain r.read s.read)

  -- what is there
  abbrev WrongThere : (wrong : Wrong) → Type 0
  WrongThere wrong =
      wrong (stations_model (calls t) two_disks es).plain (stations_model (calls t) two_disks fs).plain (read_after (calls t) two_disks es client x (block_of 0))
      (read_after (calls t) two_disks fs client x (block_of 0)) ≡ true

  breaks : (Says : (t : Spans) (client : ℕ) (a : Start) (before before1 : List StationEvent) (x : ℕ) (piece : List ℕ) → Type 0) (wrong : Wrong)
      → (WrongThere wrong → Says t client two_disks es fs x (block_of 0) → ⊥) → eqb other client ≡ false → pair_test wrong ≡ true → EachRead calls Says → ⊥
  unfolding pair_test
  breaks Says wrong refutes differ test each =
      let r = seen calls t two_disks client x es in
      let s = seen calls t two_disks client x fs in
      let listed = and_left (list_test es && list_test fs) _ test in
      let ran = and_right (list_test es && list_test fs) _ test in
      let lawful = and_left (r.lawful && s.lawful) _ ran in
      let same = same_shared client x other y rest differ in
      let then_read : List StationEvent = ends (reads client x (block_of 0)) ∷ [] in
      refutes
      (sym (λ i. wrong (model_seen calls t two_disks client x es i).plain (model_seen calls t two_disks client x fs i).plain (read_seen calls t two_disks client x es i) (read_seen calls t two_disks client x fs i))
      ∙ and_right (r.lawful && s.lawful) _ ran)
      (each t client two_disks two_disks_accepted (es ++ then_read) (fs ++ then_read)
      (covered_read calls t two_disks client x es (and_left (list_test es) _ listed) (and_left r.lawful _ lawful))
      (covered_read calls t two_disks client x fs (and_right (list_test es) _ listed) (and_right r.lawful _ lawful))
      (shared_then client es fs then_read same) es [] fs [] x (block_of 0) refl refl same)

-- ---- the parts

differ : {A : Type 0} (f : A → ℕ) (a b : A) → not (eqb (f a) (f b)) ≡ true → a ≡ b → ⊥
differ f a b t e = clash (eq-eqb (f a) (f b) (ap f e)) (not-true _ t)

-- the first byte of a block that is set, or 0
abbrev first_byte : (b : Option (List ℕ)) → ℕ
first_byte none = 0
first_byte (some b) = get_or b 0 0

abbrev pub other_answer : Wrong
other_answer p q r s = not (eqb (number r.reply.answer) (number s.reply.answer))

abbrev pub other_plain : (x : ℕ) → Wrong
other_plain x p q r s = accepted r.reply.answer && not (eqb (first_byte (p.bytes x)) (first_byte (q.bytes x)))

abbrev pub other_piece : (x : ℕ) → Wrong
other_piece x p q r s = accepted r.reply.answer && other_bytes r.piece (p.bytes x)

abbrev pub other_open : Wrong
other_open p q r s = not (eqb p.blocks q.blocks)

abbrev pub own_refused : (t : Spans) (client x : ℕ) → Wrong
own_refused t client x p q r s = (allowed t client x && ltb x p.blocks) && not (accepted r.reply.answer)

module _ (calls : (t : Spans) (c : StationCall) → Act) (t : Spans) (client x other y : ℕ) (rest : List StationEvent) (apart : eqb other client ≡ false) where
  pub breaks_answer : pair_test calls t client x other y rest other_answer ≡ true → EachRead calls (AnsweredAlike calls) → ⊥
  breaks_answer = breaks calls t client x other y rest (AnsweredAlike calls) other_answer (λ w same. differ number _ _ w same) apart

  pub breaks_plain : pair_test calls t client x other y rest (other_plain x) ≡ true → EachRead calls (SetAlike calls) → ⊥
  breaks_plain =
      breaks calls t client x other y rest (SetAlike calls) (other_plain x) (λ w same. differ first_byte _ _ (and_right (accepted _) _ w) (same (and_left _ _ w))) apart

  pub breaks_bytes : pair_test calls t client x other y rest (other_piece x) ≡ true → EachRead calls (BytesAlike calls) → ⊥
  breaks_bytes =
      breaks calls t client x other y rest (BytesAlike calls) (other_piece x)
      (λ w same. other_bytes_law _ _ (and_right (accepted _) _ w) (λ b e. (same b (and_left _ _ w) e).0)) apart

  pub breaks_open : pair_test calls t client x other y rest other_open ≡ true → EachRead calls (OpenAlike calls) → ⊥
  breaks_open = breaks calls t client x other y rest (OpenAlike calls) other_open (λ w same. differ (λ (n : ℕ). n) _ _ w same) apart

  pub breaks_accepted : pair_test calls t client x other y rest (own_refused t client x) ≡ true → EachRead calls (OwnAccepted calls) → ⊥
  unfolding two_disks
  breaks_accepted =
      breaks calls t client x other y rest (OwnAccepted calls) (own_refused t client x)
      (λ w same.
      let open_own = and_left (allowed t client x && ltb x _) _ w in
      clash (same (and_left (allowed t client x) _ open_own) (ltb-true x _ (and_right (allowed t client x) _ open_own)) (length-replicate {A = ℕ} 512 0))
      (not-true _ (and_right (allowed t client x && ltb x _) _ w)))
      apart
