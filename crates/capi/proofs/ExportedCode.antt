-- What the code of the exported functions needs: the tests of the lengths, and what load puts and leaves.
use Prim.Native.Nat.{ℕ, ◌-◌}
use mathlib.Core.Path.{◌≡◌, refl, sym, ap, ◌∙◌}
use mathlib.Core.Bool.{Bool, true, false, cond, ◌&&◌}
use mathlib.Core.List.{List, [], ◌∷◌, ◌++◌, append-nil}
use mathlib.Core.Logic.{◌≢◌}
use native.Mathlib.Omega.{arith}
use lib.Dec.{eqb}
use lib.ListN.{length, take, drop, set, replicate, drop_of_length-le}
use borrow.Author.Tests.{eqb-true, eq-eqb, ne_eqb}
use Rattle.std.specs.Prelude.{Option, Some, None, Result, Ok, Err}
use Rattle.std.specs.Result.{result_unwrap_or}
use Rattle.std.proofs.lemmas.Option.{none-some, same_Some}
use Rattle.base.specs.declared.Refusal.{Refusal}
use Rattle.base.specs.Refusals.{refusal}
use Rattle.base.proofs.Booleans.{and_left, and_right, by_test}
use Rattle.medium.specs.declared.Geometry.{Geometry}
use Rattle.medium.specs.Medium.{Observations, observe, apply}
use Rattle.volume.specs.declared.Told.{Told}
use Rattle.volume.specs.declared.Reply.{Reply}
use Rattle.volume.specs.declared.Volume.{Volume}
use Rattle.volume.specs.Answers.{number}
use Rattle.volume.specs.States.{geometry, with_pending}
use Rattle.volume.specs.Calls.{refused, doing, format_table, format_effect, format_outcome}
use Rattle.promise.specs.Calls.{Call}
use Rattle.promise.specs.Lists.{call_outcome}
use Rattle.move_table.specs.Entries.{place_of}
use Rattle.scene_load.specs.declared.Scene.{Scene}
use Rattle.scene_load.specs.Loads.{Load, load_of, load_number, served_told}
use Rattle.capi.specs.Exported.{Left, wrong_length, lengths_fit, state_fits, untouched, handed_back, looked_up, call_left, look_up_left, state_taken, load_left, table_move_left}
use Rattle.capi.specs.Figures.{load_figures, table_move_figures}
use Rattle.capi.specs.Words.{state_words, pending_word, words_of, state_from, are_state}
use Rattle.capi.proofs.WordLaws.{words_pending, state_words_law}
use Rattle.capi.proofs.RefusedLaws.{OnlyPending}

pub words_wrong : (words : List ℕ) (n : ℕ) (figures : List ℕ) → length words ≢ state_words → lengths_fit words n figures ≡ false
unfolding lengths_fit
words_wrong words n figures h = rw (ne_eqb (length words) state_words h)

pub figures_wrong : (words : List ℕ) (n : ℕ) (figures : List ℕ) → length words ≡ state_words → length figures ≢ n → lengths_fit words n figures ≡ false
unfolding lengths_fit
figures_wrong words n figures e h = rw (eq-eqb (length words) state_words e, ne_eqb (length figures) n h)

pub lengths_right : (words : List ℕ) (n : ℕ) (figures : List ℕ) → length words ≡ state_words → length figures ≡ n → lengths_fit words n figures ≡ true
unfolding lengths_fit
lengths_right words n figures e f = rw (eq-eqb (length words) state_words e, eq-eqb (length figures) n f)

-- what `state_beside` answers: the state of the words, where the lent slices fit
abbrev pub beside : (words : List ℕ) (n : ℕ) (figures : List ℕ) → Option Volume
beside words n figures = cond (are_state words && eqb (length figures) n) (Some (state_from words)) None

-- what it tells, where it gives a state
pub record Fits (words : List ℕ) (n : ℕ) (figures : List ℕ) (v : Volume) : Type 0 where
  pub fits : state_fits words n figures ≡ true
  pub are_state_law : are_state words ≡ true
  pub words_length : length words ≡ state_words
  pub figures_length : length figures ≡ n
  pub state_there : v ≡ state_from words

pub given_some : {A : Type 0} (b : Bool) (x y : A) → cond b (Some x) None ≡ Some y → (b ≡ true) × (y ≡ x)
given_some true x y h = (refl, sym (same_Some x y h))
given_some false x y h = absurd (none-some y h)

pub given_none : {A : Type 0} (b : Bool) (x : A) → cond b (Some x) None ≡ None → b ≡ false
given_none true x h = absurd (none-some x (sym h))
given_none false x h = refl

module _ (words : List ℕ) (n : ℕ) (figures : List ℕ) where
  pub fits_not : beside words n figures ≡ None → state_fits words n figures ≡ false
  unfolding state_fits
  fits_not h = given_none (are_state words && eqb (length figures) n) (state_from words) h

  pub fitting : (v : Volume) → beside words n figures ≡ Some v → Fits words n figures v
  unfolding state_fits
  fitting v h =
      let both = given_some (are_state words && eqb (length figures) n) (state_from words) v h in
      let state = and_left (are_state words) (eqb (length figures) n) both.0 in
      record {
        fits = both.0;
        are_state_law = state;
        words_length = (state_words_law words state).count;
        figures_length = eqb-true (length figures) n (and_right (are_state words) (eqb (length figures) n) both.0);
        state_there = both.1;
      }

-- what `state_of` answers, where no figures are lent
module _ (words : List ℕ) where
  abbrev pub there : Option Volume
  there = cond (are_state words) (Some (state_from words)) None

  no_figures : there ≡ beside words 0 []
  no_figures = ap (λ (b : Bool). cond b (Some (state_from words)) None) (and_true (are_state words))
    where
      and_true : (b : Bool) → b ≡ (b && true)
      and_true true = refl
      and_true false = refl

  pub no_state : there ≡ None → state_fits words 0 [] ≡ false
  no_state h = fits_not words 0 [] (sym no_figures ∙ h)

  pub state_told : (v : Volume) → there ≡ Some v → Fits words 0 [] v
  state_told v h = fitting words 0 [] v (sym no_figures ∙ h)

-- what a call on a state leaves, as the code makes it: where the lent slices do not fit, and where they do
module _ (n : ℕ) (figures_of : Result Told Refusal → List ℕ) (c : Call) (words figures piece m : List ℕ) where
  abbrev left : Left
  left = call_left n figures_of c words figures piece (observe m)

  pub call_not_made : (g : Geometry) → beside words n figures ≡ None
      → (wrong_length ≡ left.number) × ((words ≡ left.words) × ((figures ≡ left.figures) × (m ≡ apply g left.store m)))
  unfolding call_left untouched apply
  call_not_made g h = rw (fits_not words n figures h) (refl, (refl, (refl, refl)))

  pub call_made : (v : Volume) → beside words n figures ≡ Some v
      → (r : Reply Told) (stored : List ℕ)
      → (r ≡ (call_outcome c v (observe m)).reply) × (stored ≡ apply (geometry v) (call_outcome c v (observe m)).store m)
      → (k : ℕ) (next told : List ℕ) → (k ≡ number r.answer) × ((next ≡ words_of r.state) × (told ≡ figures_of r.answer))
      → (k ≡ left.number) × ((next ≡ left.words) × ((told ≡ left.figures) × (stored ≡ apply (geometry (state_from words)) left.store m)))
  unfolding call_left handed_back
  call_made v h r stored made k next told handed =
      let f = fitting words n figures v h in
      let same = rw f.state_there at made in
      rw (f.fits, ← same.0) (handed.0, (handed.1.0, (handed.1.1, same.1)))

-- the same of a look-up
module _ (n number : ℕ) (told words figures : List ℕ) where
  abbrev left_by_look_up : Left
  left_by_look_up = look_up_left n number told words figures

  pub look_up_not_made : beside words n figures ≡ None
      → (wrong_length ≡ left_by_look_up.number) × (figures ≡ left_by_look_up.figures)
  unfolding look_up_left untouched
  look_up_not_made h = rw (fits_not words n figures h) (refl, refl)

  pub look_up_made : (v : Volume) → beside words n figures ≡ Some v → (k : ℕ) (after : List ℕ) → k ≡ number → after ≡ told
      → (k ≡ left_by_look_up.number) × (after ≡ left_by_look_up.figures)
  unfolding look_up_left looked_up
  look_up_made v h k after e g = rw (fitting words n figures v h).fits (e, g)

-- putting what is pending into the words puts the state, where nothing else of it differs
pub pending_put : (words : List ℕ) → are_state words ≡ true → (u v : Volume) → u ≡ v → OnlyPending (state_from words) v
    → (after : List ℕ) → after ≡ set words 15 (pending_word u.pending) → after ≡ words_of u
unfolding with_pending
pending_put words e u v f (p, g) after made =
    let same = f ∙ g in
    rw same at made ∙ sym (rw same (words_pending words (state_words_law words e) p))

-- the store of format does not look at blocks and rows
pub format_stores : (z s n : ℕ) (o : Observations) (g k : Geometry) (m after : List ℕ) → after ≡ apply g (format_outcome z s n o).store m
    → after ≡ apply k (format_outcome z s n o).store m
unfolding format_outcome format_effect doing refused apply
format_stores z s n o g k m after =
    by_test (eqb (refusal (format_table z s n o.byte_count)) 0) (λ t. rw t (λ e. e)) (λ t. rw t (λ e. e))

-- the figures of a load: the place put first, and the numbers behind it
pub load_put : (figures served put : List ℕ) (place told : ℕ) → length figures ≡ 17 → put ≡ served → told ≡ place
    → take 1 (set figures 0 told) ++ (put ++ drop (length (set figures 0 told) - 1) (drop 1 (set figures 0 told))) ≡ place ∷ served
load_put figures served put place told e p q = rw (p, q) (first_put figures e)
  where
    first_put : (words : List ℕ) → length words ≡ 17
        → take 1 (set words 0 place) ++ (served ++ drop (length (set words 0 place) - 1) (drop 1 (set words 0 place))) ≡ place ∷ served
    first_put [] f = absurd (omega arith)
    first_put (x ∷ rest) f = rw (drop_of_length-le rest {i = length (place ∷ rest) - 1} (omega arith)) (ap (place ∷◌) (append-nil served))

-- the numbers of a load, or zeros
pub served_or_zeros : (load : Load) → result_unwrap_or load (replicate 16 0) ≡ served_told load
unfolding served_told
served_or_zeros (Ok served) = refl
served_or_zeros (Err r) = refl

-- what the calls of `streterva_load` leave is what it says: where the lengths fit, the state is that of the words
module _ (words : List ℕ) (scenes : List Scene) (figures : List ℕ) where
  taken : state_fits words 17 figures ≡ true → state_taken words ≡ state_from words
  unfolding state_fits
  taken e = rw (and_left (are_state words) (eqb (length figures) 17) e)

  pub load_left_law : (v : Volume) (load : Load) (n : ℕ) (after : List ℕ) → v ≡ state_taken words → load ≡ load_of v scenes
      → (n ≡ cond (state_fits words 17 figures) (load_number load) wrong_length)
      × (after ≡ cond (state_fits words 17 figures) (load_figures load) figures)
      → (n ≡ (load_left words scenes figures).number) × (after ≡ (load_left words scenes figures).figures)
  unfolding look_up_left looked_up untouched
  load_left_law v load n after e f g =
      by_test (state_fits words 17 figures)
      (λ t.
      let same : load ≡ load_of (state_from words) scenes = f ∙ ap (λ (s : Volume). load_of s scenes) (e ∙ taken t) in
      rw (t, ← same) (rw t at g.0, rw t at g.1))
      (λ t. rw t (rw t at g.0, rw t at g.1))

-- ---- the table of moves, which asks for figures alone

module _ (m n j : ℕ) (figures : List ℕ) where
  pub table_not_looked_up : length figures ≢ 2 → (wrong_length ≡ (table_move_left m n j figures).number) × (figures ≡ (table_move_left m n j figures).figures)
  unfolding table_move_left untouched
  table_not_looked_up h = rw (ne_eqb (length figures) 2 h) (refl, refl)

  pub table_looked_up : length figures ≡ 2 → (after : List ℕ) → after ≡ table_move_figures (place_of m n j)
      → (0 ≡ (table_move_left m n j figures).number) × (after ≡ (table_move_left m n j figures).figures)
  unfolding table_move_left looked_up
  table_looked_up h after e = rw (eq-eqb (length figures) 2 h) (refl, e)
