-- The words of a state and the state of words: both conversions give back what they were given.
use Prim.Native.Nat.{ℕ, zero, suc, ◌+◌, ◌/◌, ◌%◌, ◌≤◌, ◌<◌}
use mathlib.Core.Path.{◌≡◌, refl, sym, ap}
use mathlib.Core.Bool.{Bool, true, false, cond}
use mathlib.Core.List.{List, [], ◌∷◌, ◌++◌, append_assoc}
use native.Mathlib.Omega.{arith}
use lib.Dec.{eqb, leb}
use lib.ListN.{length, take, drop, get_or, set, length-append, length-take, length-drop}
use lib.Seq.{take_at, get_or-append-add}
use mathlib.Core.Logic.{◌≢◌}
use borrow.Author.Tests.{eqb-true, leb-true, ne_eqb}
use Rattle.base.specs.Below.{table}
use Rattle.base.proofs.Booleans.{and_left, and_right}
use Rattle.base.proofs.Lists.{table_self}
use Rattle.volume.specs.declared.Pending.{Pending}
use Rattle.volume.specs.declared.Volume.{Volume}
use Rattle.volume.specs.Records.{numbers_of}
use Rattle.volume.specs.States.{with_pending}
use Rattle.capi.specs.Laws.{Arrays, Words}
use Rattle.capi.specs.Words.{state_words, most_pending, pending_word, pending_from, words_of, state_from, are_state}

-- ---- what is pending and its word

pub pending_back : (p : Pending) → pending_from (pending_word p) ≡ p
unfolding pending_from pending_word
pending_back p = by p.records p.blocks
  where
    by : (r b : Bool) → ◌≡◌ {A = Pending} (record { records = eqb ((cond r 1 0 + cond b 2 0) % 2) 1; blocks = eqb ((cond r 1 0 + cond b 2 0) / 2) 1 }) (record { records = r; blocks = b })
    by true true = refl
    by true false = refl
    by false true = refl
    by false false = refl

pub pending_word_back : (word : ℕ) → word ≤ most_pending → pending_word (pending_from word) ≡ word
unfolding pending_from pending_word
pending_word_back zero h = refl
pending_word_back (suc zero) h = refl
pending_word_back (suc (suc zero)) h = refl
pending_word_back (suc (suc (suc zero))) h = refl
pending_word_back (suc (suc (suc (suc n)))) h = absurd (omega arith)

-- ---- states and words

module _ (counts : List ℕ) (g w r c p : ℕ) (e : length counts ≡ 8) where
  -- what stands after the counts
  after_counts : (k : ℕ) → get_or ((counts ++ (g ∷ w ∷ [])) ++ (r ∷ c ∷ p ∷ [])) (8 + k) 0 ≡ get_or (g ∷ w ∷ r ∷ c ∷ p ∷ []) k 0
  after_counts k = rw append_assoc (rw e at (get_or-append-add counts (g ∷ w ∷ r ∷ c ∷ p ∷ []) k 0))

  counts_taken : take 8 ((counts ++ (g ∷ w ∷ [])) ++ (r ∷ c ∷ p ∷ [])) ≡ counts
  counts_taken = rw append_assoc (take_at counts (g ∷ w ∷ r ∷ c ∷ p ∷ []) 8 e)

pub words_count : (v : Volume) → Arrays v → length (words_of v) ≡ state_words
unfolding words_of numbers_of
words_count v a = simp (length-append, a.counts_length)

pub state_back : (v : Volume) → Arrays v → state_from (words_of v) ≡ v
unfolding words_of numbers_of state_from
state_back v a =
    let after = after_counts v.counts v.growing v.window v.recorded v.copied (pending_word v.pending) a.counts_length in
    rw (
      counts_taken v.counts v.growing v.window v.recorded v.copied (pending_word v.pending) a.counts_length,
      after 0,
      after 1,
      after 2,
      after 3,
      after 4,
      pending_back v.pending,
    )

pub state_arrays : (words : List ℕ) → length words ≡ state_words → Arrays (state_from words)
unfolding state_from
state_arrays words e =
    record {
      counts_length = simp (length-take, length-drop, e);
    }

-- sixteen words, one by one, and the counts among them
sixteen_listed : (l : List ℕ) → length l ≡ state_words
    → l ≡ get_or l 0 0 ∷ get_or l 1 0 ∷ get_or l 2 0 ∷ get_or l 3 0 ∷ get_or l 4 0 ∷ get_or l 5 0 ∷ get_or l 6 0 ∷ get_or l 7 0
    ∷ get_or l 8 0 ∷ get_or l 9 0 ∷ get_or l 10 0 ∷ get_or l 11 0 ∷ get_or l 12 0 ∷ get_or l 13 0 ∷ get_or l 14 0 ∷ get_or l 15 0 ∷ []
unfolding table
sixteen_listed l e = sym (table_self 0 l state_words e)

pub counts_listed : (l : List ℕ) → length l ≡ state_words
    → take 8 (drop 3 l) ≡ get_or l 3 0 ∷ get_or l 4 0 ∷ get_or l 5 0 ∷ get_or l 6 0 ∷ get_or l 7 0 ∷ get_or l 8 0 ∷ get_or l 9 0 ∷ get_or l 10 0 ∷ []
counts_listed l e = ap (λ (k : List ℕ). take 8 (drop 3 k)) (sixteen_listed l e)

pub words_back : (words : List ℕ) → Words words → words_of (state_from words) ≡ words
unfolding words_of numbers_of state_from
words_back words f = rw (counts_listed words f.count, pending_word_back (get_or words 15 0) f.pending_most) (sym (sixteen_listed words f.count))

-- the state with other stores pending differs in the last word
pub words_pending : (words : List ℕ) → Words words → (p : Pending) → words_of (with_pending (state_from words) p) ≡ set words 15 (pending_word p)
unfolding words_of numbers_of state_from with_pending
words_pending words f p = rw (counts_listed words f.count) (ap (λ (l : List ℕ). set l 15 (pending_word p)) (sym (sixteen_listed words f.count)))

-- words of a state
pub state_words_law : (words : List ℕ) → are_state words ≡ true → Words words
unfolding are_state
state_words_law words e =
    record {
      count = eqb-true _ _ (and_left (eqb (length words) state_words) (leb (get_or words 15 0) most_pending) e);
      pending_most = leb-true _ _ (and_right (eqb (length words) state_words) (leb (get_or words 15 0) most_pending) e);
    }

-- and when words are those of a state
module _ (words : List ℕ) where
  pub other_length : length words ≢ state_words → are_state words ≡ false
  unfolding are_state
  other_length h = rw (ne_eqb (length words) state_words h)

  module _ (e : length words ≡ state_words) where
    pub too_pending : most_pending < get_or words 15 0 → are_state words ≡ false
    unfolding are_state
    too_pending h = grind (arith, e, h)

    pub words_of_state : get_or words 15 0 ≤ most_pending → are_state words ≡ true
    unfolding are_state
    words_of_state h = grind (arith, e, h)
