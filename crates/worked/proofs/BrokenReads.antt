-- A list with a read, computed: whether demand 3 is about it, and whether the read is wrong: `read_test`. One that is breaks a part of the
-- demand: `breaks_read`, `breaks_direct_read`.
use Prim.Native.Nat.{ℕ, ◌<◌}
use mathlib.Core.Path.{◌≡◌, refl, sym, ap, ap₂, ◌∙◌, subst}
use mathlib.Core.Bool.{Bool, true, false, cond, not, ◌&&◌, false≢true}
use mathlib.Core.List.{List, [], ◌∷◌, ◌++◌}
use mathlib.Core.Logic.{inl}
use mathlib.Core.Option.{Option, none, some}
use lib.Dec.{ltb, eqb}
use lib.ListN.{length, take, get_or, replicate, length-replicate}
use borrow.Author.Tests.{ltb-true, eq-eqb, not-true}
use Rattle.base.proofs.Booleans.{and_left, and_right, clash}
use Rattle.layout.specs.Tally.{live_spot_of}
use Rattle.medium.specs.Medium.{observe}
use Rattle.volume.specs.Answers.{accepted}
use Rattle.promise.specs.Calls.{Call, read, flushed, settles}
use Rattle.promise.specs.Lists.{Event, runs, System, medium_of, outcome, is_accepted, after, after_all, NoEarlyCut, Lawful}
use Rattle.promise.specs.Model.{Model}
use Rattle.promise.specs.Promise.{Start, formatted, begin, system_after, model_of}
use Rattle.promise.specs.WithoutCache.{DirectEvent, ends, flushed_after, from_format}
use Rattle.promise.proofs.WithoutCache.{from_append}
use Rattle.worked.specs.WrongPrograms.{Act}
use Rattle.promise.specs.Parts.{ReadAccepted, BytesRead, BytesStand, EveryRead, EveryDirectRead}
use Rattle.worked.proofs.Reflects.{passed}
use Rattle.worked.proofs.Computed.{Hearing, heard_all, computed, fed_same, heard_same, is_lawful, Tested, tested, fed_before, heard_both, model_fed, model_fed_law}

-- ---- what is heard

-- of the last call that is neither flushed nor restart: whether it was accepted, its piece, and the medium that it saw
pub record ReadHeard : Type 0 where
  pub was_accepted : Bool
  pub piece : List ℕ
  pub medium : List ℕ

abbrev hear_read : Hearing ReadHeard
hear_read c m out before = cond (settles c) before (record { was_accepted = accepted out.reply.answer; piece = out.piece; medium = m })

abbrev nothing_heard : ReadHeard
nothing_heard = record { was_accepted = false; piece = []; medium = [] }

abbrev pub empty_piece : (a : Start) → List ℕ
empty_piece a = replicate a.size 0

-- ---- a read in a list that is computed

module _ (calls : (c : Call) → Act) (a : Start) (before rest : List Event) (x : ℕ) where
  abbrev read_list : List Event
  read_list = before ++ (runs (read x (empty_piece a)) ∷ rest)

  -- a read of an open block in a lawful list
  pub record Covered : Type 0 where
    pub format_accepted : accepted (formatted a).reply.answer ≡ true
    pub lawful : Lawful calls (begin a) read_list
    pub below : x < (model_of calls a before).plain.blocks

  abbrev pub heard_there : ReadHeard
  heard_there =
      record {
        was_accepted = is_accepted calls (read x (empty_piece a)) (system_after calls a before);
        piece = (outcome calls (read x (empty_piece a)) (system_after calls a before)).piece;
        medium = medium_of (system_after calls a before);
      }

  unfoldable pub read_test : (wrong : ReadHeard → Model → Bool) → Bool
  read_test wrong =
      let r = computed calls hear_read (begin a) read_list nothing_heard in
      let k = model_fed a (take (length before) r.fed) in
      accepted (formatted a).reply.answer && (r.lawful && (ltb x k.plain.blocks && wrong r.heard k))

  -- after the read nothing is heard
  module _ (silent : (s : System) (h : ReadHeard) → heard_all calls hear_read s rest h ≡ h) where
    heard_there_law : (computed calls hear_read (begin a) read_list nothing_heard).heard ≡ heard_there
    unfolding heard_all settles system_after
    heard_there_law =
        heard_same calls hear_read (begin a) read_list nothing_heard
        ∙ heard_both calls hear_read (begin a) before (runs (read x (empty_piece a)) ∷ rest) nothing_heard
        ∙ silent (after calls (after_all calls (begin a) before) (runs (read x (empty_piece a)))) _

    model_there : model_fed a (take (length before) (computed calls hear_read (begin a) read_list nothing_heard).fed) ≡ model_of calls a before
    model_there =
        sym (model_fed_law calls a before _ (fed_before calls (begin a) before _ ∙ ap (take (length before)) (sym (fed_same calls hear_read (begin a) read_list nothing_heard))))

    pub read_tested : (wrong : ReadHeard → Model → Bool) → read_test wrong ≡ true → Covered × (wrong heard_there (model_of calls a before) ≡ true)
    unfolding read_test
    read_tested wrong t =
        let lawful_and = and_right (accepted (formatted a).reply.answer) _ t in
        let open_and = and_right (computed calls hear_read (begin a) read_list nothing_heard).lawful _ lawful_and in (
          record {
            format_accepted = and_left _ _ t;
            lawful = passed (is_lawful calls hear_read (begin a) read_list nothing_heard) (and_left _ _ lawful_and);
            below = rw (sym model_there) (ltb-true x _ (and_left _ _ open_and));
          },
          ap₂ wrong (sym heard_there_law) (sym model_there) ∙ and_right (ltb x _) _ open_and,
        )

-- flushed is such a call
pub silent_flushed : (calls : (c : Call) → Act) (s : System) (h : ReadHeard) → heard_all calls hear_read s (runs flushed ∷ []) h ≡ h
unfolding heard_all settles
silent_flushed calls s h = refl

-- ---- a part that the read breaks

module _ (calls : (c : Call) → Act) (P : (a : Start) (before : List Event) (x : ℕ) (piece : List ℕ) → Type 0) (wrong : (a : Start) (x : ℕ) → ReadHeard → Model → Bool)
    (refutes : (a : Start) (before rest : List Event) (x : ℕ)
    → wrong a x (heard_there calls a before rest x) (model_of calls a before) ≡ true → P a before x (empty_piece a) → ⊥) (a : Start) where
  breaks_read : (before rest : List Event) (x : ℕ) → ((s : System) (h : ReadHeard) → heard_all calls hear_read s rest h ≡ h)
      → read_test calls a (runs flushed ∷ before) rest x (wrong a x) ≡ true → EveryRead calls P → ⊥
  unfolding NoEarlyCut
  breaks_read before rest x silent t every =
      let both = read_tested calls a (runs flushed ∷ before) rest x silent (wrong a x) t in
      refutes a (runs flushed ∷ before) rest x both.1
      (every a both.0.format_accepted _ both.0.lawful (inl refl) (runs flushed ∷ before) rest x (empty_piece a) refl both.0.below (length-replicate {A = ℕ} a.size 0))

  breaks_direct_read : (before : List DirectEvent) (x : ℕ) → read_test calls a (from_format before) (runs flushed ∷ []) x (wrong a x) ≡ true → EveryDirectRead calls P → ⊥
  unfolding flushed_after
  breaks_direct_read before x t every =
      let both = read_tested calls a (from_format before) (runs flushed ∷ []) x (silent_flushed calls) (wrong a x) t in
      let l = subst (Lawful calls (begin a)) (sym (from_append before (ends (read x (empty_piece a)) ∷ []))) both.0.lawful in
      refutes a (from_format before) (runs flushed ∷ []) x both.1
      (every a both.0.format_accepted (before ++ (ends (read x (empty_piece a)) ∷ [])) l before [] x (empty_piece a) refl both.0.below (length-replicate {A = ℕ} a.size 0))

  -- on drives with a write cache, by a list that ends in the read
  pub broken : (before : List Event) (x : ℕ) → Tested calls (λ p. read_test p a (runs flushed ∷ before) [] x (wrong a x)) → EveryRead calls P → ⊥
  unfolding heard_all
  broken before x t = breaks_read before [] x (λ s h. refl) (tested calls (λ p. read_test p a (runs flushed ∷ before) [] x (wrong a x)) t)

  -- on both, by a list for drives that keep no store
  pub broken_twice : (before : List DirectEvent) (x : ℕ) → Tested calls (λ p. read_test p a (from_format before) (runs flushed ∷ []) x (wrong a x))
      → (EveryRead calls P → ⊥) × (EveryDirectRead calls P → ⊥)
  unfolding from_format
  broken_twice before x t =
      let e = tested calls (λ p. read_test p a (from_format before) (runs flushed ∷ []) x (wrong a x)) t in
      (breaks_read (flushed_after before) (runs flushed ∷ []) x (silent_flushed calls) e, breaks_direct_read before x e)

-- ---- the parts

abbrev pub refused_read : (a : Start) (x : ℕ) → ReadHeard → Model → Bool
refused_read a x h k = not h.was_accepted

-- other bytes than those that a block is set to, by their first byte
unfoldable pub other_bytes : (found : List ℕ) (bytes : Option (List ℕ)) → Bool
other_bytes found none = false
other_bytes found (some b) = not (eqb (get_or found 0 0) (get_or b 0 0))

abbrev pub other_read : (a : Start) (x : ℕ) → ReadHeard → Model → Bool
other_read a x h k = other_bytes h.piece (k.plain.bytes x)

abbrev pub other_stands : (a : Start) (x : ℕ) → ReadHeard → Model → Bool
other_stands a x h k = other_bytes ((observe h.medium).bytes_at (record { size = a.size; rows = a.rows }) (live_spot_of k.tally x)) (k.plain.bytes x)

pub other_bytes_law : (found : List ℕ) (bytes : Option (List ℕ)) → other_bytes found bytes ≡ true → ((b : List ℕ) → bytes ≡ some b → found ≡ b) → ⊥
unfolding other_bytes
other_bytes_law found none t same = false≢true t
other_bytes_law found (some b) t same =
    clash (eq-eqb (get_or found 0 0) (get_or b 0 0) (ap (λ (l : List ℕ). get_or l 0 0) (same b refl))) (not-true _ t)

module _ (calls : (c : Call) → Act) where
  pub refutes_accepted : (a : Start) (before rest : List Event) (x : ℕ)
      → refused_read a x (heard_there calls a before rest x) (model_of calls a before) ≡ true → ReadAccepted calls a before x (empty_piece a) → ⊥
  refutes_accepted a before rest x t right = clash right (not-true _ t)

  pub refutes_read : (a : Start) (before rest : List Event) (x : ℕ)
      → other_read a x (heard_there calls a before rest x) (model_of calls a before) ≡ true → BytesRead calls a before x (empty_piece a) → ⊥
  refutes_read a before rest x t right = other_bytes_law _ _ t right

  pub refutes_stand : (a : Start) (before rest : List Event) (x : ℕ)
      → other_stands a x (heard_there calls a before rest x) (model_of calls a before) ≡ true → BytesStand calls a before x (empty_piece a) → ⊥
  refutes_stand a before rest x t right = other_bytes_law _ _ t right
