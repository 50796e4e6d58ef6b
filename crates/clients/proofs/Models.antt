-- Plain volume and tally of two runs: alike on the blocks that pass a test.
use Prim.Native.Nat.{ℕ, ◌*◌}
use mathlib.Core.Path.{◌≡◌, refl, sym, ap, ◌∙◌, subst}
use mathlib.Core.Bool.{Bool, true, false, cond, ◌||◌}
use mathlib.Core.List.{List}
use mathlib.Core.Option.{Option, none, some}
use lib.Dec.{eqb, ltb}
use borrow.Author.Tests.{ne_eqb}
use Rattle.base.proofs.Booleans.{clash}
use Rattle.layout.specs.History.{disk_count}
use Rattle.layout.specs.Tally.{Tally}
use Rattle.promise.specs.Calls.{Call, read, write, settles, CutLeft, same_record, record_old, record_new, ended, cut_in}
use Rattle.promise.specs.Model.{Step, leaving, saving, step_of, PlainVolume, with_save, with_added, unset, Model, stepped, accepting, CachedModel, nothing_pending, is_saved, with_step, following, with_call, model_or, left_model, after_cut, model_after}

module _ (mine : ℕ → Bool) where
  pub record PlainAlike (p q : PlainVolume) : Type 0 where
    pub blocks : p.blocks ≡ q.blocks
    pub bytes : (x : ℕ) → mine x ≡ true → p.bytes x ≡ q.bytes x

  pub record ModelAlike (o q : Model) : Type 0 where
    pub tally : o.tally ≡ q.tally
    pub plain : PlainAlike o.plain q.plain

  pub data BeforeAlike : Option Model → Option Model → Type 0 where
    both_none : BeforeAlike none none
    both_some : {o q : Model} → ModelAlike o q → BeforeAlike (some o) (some q)

  pub record CachedAlike (h k : CachedModel) : Type 0 where
    pub current : ModelAlike h.current k.current
    pub before : BeforeAlike h.before_record k.before_record
    pub written : (x : ℕ) → mine x ≡ true → h.written x ≡ k.written x

  -- ---- an equivalence

  model_self : (o : Model) → ModelAlike o o
  model_self o = record { tally = refl; plain = record { blocks = refl; bytes = λ x m. refl } }

  before_self : (o : Option Model) → BeforeAlike o o
  before_self none = both_none
  before_self (some o) = both_some (model_self o)

  pub alike_self : (h : CachedModel) → CachedAlike h h
  alike_self h = record { current = model_self h.current; before = before_self h.before_record; written = λ x m. refl }

  model_flip : {o q : Model} → ModelAlike o q → ModelAlike q o
  model_flip a = record { tally = sym a.tally; plain = record { blocks = sym a.plain.blocks; bytes = λ x m. sym (a.plain.bytes x m) } }

  before_flip : {o q : Option Model} → BeforeAlike o q → BeforeAlike q o
  before_flip both_none = both_none
  before_flip (both_some a) = both_some (model_flip a)

  pub alike_flip : {h k : CachedModel} → CachedAlike h k → CachedAlike k h
  alike_flip a = record { current = model_flip a.current; before = before_flip a.before; written = λ x m. sym (a.written x m) }

  model_join : {o p q : Model} → ModelAlike o p → ModelAlike p q → ModelAlike o q
  model_join a b =
      record {
        tally = a.tally ∙ b.tally;
        plain = record { blocks = a.plain.blocks ∙ b.plain.blocks; bytes = λ x m. a.plain.bytes x m ∙ b.plain.bytes x m };
      }

  before_join : {o p q : Option Model} → BeforeAlike o p → BeforeAlike p q → BeforeAlike o q
  before_join both_none both_none = both_none
  before_join (both_some a) (both_some b) = both_some (model_join a b)

  pub alike_join : {h k l : CachedModel} → CachedAlike h k → CachedAlike k l → CachedAlike h l
  alike_join a b =
      record {
        current = model_join a.current b.current;
        before = before_join a.before b.before;
        written = λ x m. a.written x m ∙ b.written x m;
      }

  -- ---- a call that both runs have

  save_alike : (save : Option (ℕ × List ℕ)) {p q : PlainVolume} → PlainAlike p q → PlainAlike (with_save save p) (with_save save q)
  unfolding with_save
  save_alike none a = a
  save_alike (some w) a =
      record { blocks = a.blocks; bytes = λ y m. ap (λ (b : Option (List ℕ)). cond (eqb y w.0) (some w.1) b) (a.bytes y m) }

  added_alike : (n : ℕ) {p q : PlainVolume} → PlainAlike p q → PlainAlike (with_added n p) (with_added n q)
  unfolding with_added
  added_alike n a = record { blocks = refl; bytes = λ y m i. cond (ltb y (a.blocks i)) (a.bytes y m i) none }

  step_plain : (finishes : Bool) (n : ℕ) (save : Option (ℕ × List ℕ)) {p q : PlainVolume} → PlainAlike p q
      → PlainAlike (cond finishes (with_added n p) (with_save save p)) (cond finishes (with_added n q) (with_save save q))
  step_plain true n save a = added_alike n a
  step_plain false n save a = save_alike save a

  step_alike : (step : Step) (o q : Model) → ModelAlike o q → ModelAlike (stepped step o) (stepped step q)
  unfolding stepped
  step_alike step o q a =
      record {
        tally = refl;
        plain =
            subst (λ (t : Tally). PlainAlike (stepped step o).plain
            (cond step.finishes (with_added (disk_count t.counts * t.rows) q.plain) (with_save step.save q.plain))) a.tally
            (step_plain step.finishes (disk_count o.tally.counts * o.tally.rows) step.save a.plain);
      }

  pub settled_alike : {o q : Model} → ModelAlike o q → CachedAlike (nothing_pending o) (nothing_pending q)
  unfolding nothing_pending
  settled_alike a = record { current = a; before = both_none; written = λ x m. refl }

  before_step : (b : Bool) {o q : Model} {p r : Option Model} → ModelAlike o q → BeforeAlike p r → BeforeAlike (cond b (some o) p) (cond b (some q) r)
  before_step true a e = both_some a
  before_step false a e = e

  with_step_alike : (step : Step) (h k : CachedModel) → CachedAlike h k → CachedAlike (with_step step h) (with_step step k)
  unfolding with_step
  with_step_alike step h k a =
      record {
        current = step_alike step h.current k.current a.current;
        before = before_step step.stores_record a.current a.before;
        written = λ x m. ap (λ (b : Bool). is_saved step.save x || b) (a.written x m);
      }

  follow_by : (settling : Bool) (c : Call) (t : Tally) (h k : CachedModel) → CachedAlike h k
      → CachedAlike (cond settling (nothing_pending (stepped (step_of c t) h.current)) (with_step (step_of c t) h))
      (cond settling (nothing_pending (stepped (step_of c t) k.current)) (with_step (step_of c t) k))
  follow_by true c t h k a = settled_alike (step_alike (step_of c t) h.current k.current a.current)
  follow_by false c t h k a = with_step_alike (step_of c t) h k a

  pub following_alike : (c : Call) (h k : CachedModel) → CachedAlike h k → CachedAlike (following c h) (following c k)
  unfolding following accepting
  following_alike c h k a =
      subst (λ (t : Tally). CachedAlike (following c h)
      (cond (settles c) (nothing_pending (stepped (step_of c t) k.current)) (with_step (step_of c t) k))) a.current.tally
      (follow_by (settles c) c h.current.tally h k a)

  pub ended_alike : (c : Call) (b : Bool) (h k : CachedModel) → CachedAlike h k → CachedAlike (model_after (ended c b) h) (model_after (ended c b) k)
  unfolding model_after
  ended_alike c true h k a = following_alike c h k a
  ended_alike c false h k a = a

  -- ---- a cut that leaves the same record in both

  unset_alike : (f g : ℕ → Bool) → ((x : ℕ) → mine x ≡ true → f x ≡ g x) → {p q : PlainVolume} → PlainAlike p q → PlainAlike (unset f p) (unset g q)
  unfolding unset
  unset_alike f g e a = record { blocks = a.blocks; bytes = λ x m i. cond (e x m i) none (a.bytes x m i) }

  or_alike : {p r : Option Model} {o q : Model} → BeforeAlike p r → ModelAlike o q → ModelAlike (model_or p o) (model_or r q)
  or_alike both_none a = a
  or_alike (both_some e) a = e

  with_call_alike : (c : Option Call) (h k : CachedModel) → CachedAlike h k → CachedAlike (with_call c h) (with_call c k)
  unfolding with_call
  with_call_alike none h k a = a
  with_call_alike (some c) h k a = following_alike c h k a

  left_alike : (c : Option Call) (left : CutLeft) (h k : CachedModel) → CachedAlike h k → ModelAlike (left_model c left h) (left_model c left k)
  unfolding left_model
  left_alike c same_record h k a = a.current
  left_alike c record_old h k a = or_alike (with_call_alike c h k a).before a.current
  left_alike c record_new h k a = (with_call_alike c h k a).current

  pub cut_alike : (c : Option Call) (left : CutLeft) (h k : CachedModel) → CachedAlike h k → CachedAlike (model_after (cut_in c left) h) (model_after (cut_in c left) k)
  unfolding model_after after_cut
  cut_alike c left h k a =
      let l = left_alike c left h k a in
      settled_alike (record { tally = l.tally; plain = unset_alike _ _ (with_call_alike c h k a).written l.plain })

  -- ---- the other's calls

  pub read_alike : (x : ℕ) (piece : List ℕ) (b : Bool) (h : CachedModel) → CachedAlike (model_after (ended (read x piece) b) h) h
  unfolding model_after following settles with_step step_of leaving stepped with_save is_saved
  read_alike x piece true h = alike_self h
  read_alike x piece false h = alike_self h

  pub write_alike : (x : ℕ) (piece : List ℕ) → mine x ≡ false → (b : Bool) (h : CachedModel) → CachedAlike (model_after (ended (write x piece) b) h) h
  unfolding model_after following settles with_step step_of saving stepped with_save is_saved
  write_alike x piece e false h = alike_self h
  write_alike x piece e true h =
      record {
        current = record { tally = refl; plain = record { blocks = refl; bytes = λ y m. rw (apart y m) refl } };
        before = before_self h.before_record;
        written = λ y m. rw (apart y m) refl;
      }
    where
      apart : (y : ℕ) → mine y ≡ true → eqb y x ≡ false
      apart y m = ne_eqb y x (λ q. clash m (subst (λ (n : ℕ). mine n ≡ false) (sym q) e))
