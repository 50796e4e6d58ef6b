-- Sets of marks as words.
use Prim.Native.Nat.{ℕ, suc, ◌+◌, ◌-◌, ◌*◌, ◌/◌, ◌%◌, ◌^◌, ◌≤◌, ◌<◌}
use mathlib.Core.Path.{◌≡◌, refl, sym, ap, ◌∙◌}
use mathlib.Core.Bool.{Bool, true, false, cond, not, ◌&&◌}
use mathlib.Core.List.{List, [], ◌∷◌}
use native.Mathlib.Nat.{lt_of_le_of_lt, div-lt_iff_lt-mul, mod-lt}
use native.Mathlib.Omega.{arith}
use lib.Dec.{eqb, ltb}
use lib.Count.{ones, count_trailing_zeros}
use lib.ListN.{length, take, drop, get_or, length-append, length-drop, drop_of_length-le}
use lib.Pow.{pow_mono, ones_split, ones_lt, high}
use lib.Seq.{ext_get_or, drop-cons, take_all}
use Rattle.std.specs.List.{push}
use Rattle.std.specs.Int.{from_bool}
use Rattle.std.proofs.lemmas.List.{length-take, take-take, get_or-take}
use Rattle.std.proofs.Math.Seq.{get_or-append_seam, take-append_seam}
use lib.Bits.{bit_and, and_le_l}
use borrow.Author.Tests.{eqb-true, eq-eqb, ltb-true, ltb-false, lt-ltb, le-ltb}
use Rattle.base.proofs.Booleans.{and_right, same_test, by_test, clash}
use Rattle.base.specs.Below.{count}
use Rattle.base.proofs.Counting.{count_ext}
use Rattle.base.proofs.Lists.{length_table, get_d_table}
use Rattle.base.proofs.Lowest.{first_none, first_found}
use Rattle.layout.specs.Limits.{Grows}
use Rattle.layout.specs.Windows.{row_exists, spot_of_mark}
use Rattle.layout.proofs.WindowsCode.{marks_most}
use Rattle.base.specs.Bits.{bits, word_of}
use Rattle.marks.specs.Words.{marks_of}
use Rattle.marks.specs.Marks.{mark_count, no_marks, within, moving_marks, difference, first_unmarked}
use Rattle.marks.proofs.MarkSets.{within_use, within_make, within_both, none_within, moving_at, moving_length, moving_at_law}
use Rattle.base.proofs.Bits.{bits_length, and_at, not_at, no_bit, ones_at, word_ext, word_small, word_back, bits_back}
use Rattle.marks.proofs.Searches.{ones_bits, count_cut, trailing_before, trailing_found}

and_absorbs : (a b : Bool) → (a ≡ true → b ≡ true) → (a && b) ≡ a
and_absorbs true b f = f refl
and_absorbs false b f = refl

-- the marks of a are all in b where `a & b` is a
pub within_word : (a b : ℕ) → a < 2 ^ 64 → eqb (bit_and a b) a ≡ within (marks_of a) (marks_of b)
within_word a b h =
    same_test (eqb (bit_and a b) a) (within (marks_of a) (marks_of b))
    (λ e.
    let q = eqb-true (bit_and a b) a e in
    within_make (marks_of a) (marks_of b)
    (λ j l f. and_right (get_or (marks_of a) j false) (get_or (marks_of b) j false) (sym (and_at 64 a b j) ∙ rw q f)))
    (λ e.
    eq-eqb (bit_and a b) a
    (word_ext 64 (bit_and a b) a (lt_of_le_of_lt (and_le_l a b) h) h
    (λ j l. and_at 64 a b j ∙ and_absorbs _ _ (within_use (marks_of a) (marks_of b) e j l))))

-- ---- the marks of a that are not in b

pub difference_at : (a b : List Bool) (j : ℕ) → j < mark_count → get_or (difference a b) j false ≡ (get_or a j false && not (get_or b j false))
unfolding difference
difference_at a b j h = get_d_table false (λ i. get_or a i false && not (get_or b i false)) mark_count j h

difference_length : (a b : List Bool) → length (difference a b) ≡ mark_count
unfolding difference
difference_length a b = length_table (λ i. get_or a i false && not (get_or b i false)) mark_count

pub without_word : (a b : ℕ) → b < 2 ^ 64 → marks_of (bit_and a (2 ^ 64 - 1 - b)) ≡ difference (marks_of a) (marks_of b)
without_word a b h =
    ext_get_or false _ (difference (marks_of a) (marks_of b)) (bits_length 64 _ ∙ sym (difference_length (marks_of a) (marks_of b)))
    (λ j l.
    let k : j < mark_count = rw (bits_length 64 (bit_and a (2 ^ 64 - 1 - b))) at l in
    and_at 64 a (2 ^ 64 - 1 - b) j ∙ rw (not_at 64 b j h k) (sym (difference_at (marks_of a) (marks_of b) j k)))

-- ---- the word of marks

-- the word of a list of tests, from the last on
pub word_none : (marks : List Bool) (j : ℕ) → length marks ≤ j → 0 ≡ word_of (drop j marks)
unfolding word_of
word_none marks j h = rw (drop_of_length-le marks {i = j} h)

pub word_fits : (marks : List Bool) (j : ℕ) → length marks ≡ 64 → word_of (drop j marks) < 2 ^ 64
word_fits marks j e =
    let h : length (drop j marks) ≤ 64 = rw length-drop (omega (arith, e)) in
    omega (arith, word_small (drop j marks), pow_mono h)

pub word_next : (marks : List Bool) (j word bit : ℕ) → length marks ≡ 64 → 1 ≤ j → j ≤ 64 → word ≡ word_of (drop j marks)
    → bit ≡ cond (get_or marks (j - 1) false) 1 0 → word * 2 + bit ≡ word_of (drop (j - 1) marks)
unfolding word_of
word_next marks j word bit e l h w b =
    let k : suc (j - 1) ≡ j = omega arith in
    let i : j - 1 < length marks = omega (arith, e) in
    let d : drop (j - 1) marks ≡ get_or marks (j - 1) false ∷ drop j marks = rw k at (drop-cons marks (j - 1) false i) in
    rw d (omega (arith, w, b))

-- what a loop over the marks from the last on meets: the marks left are the first ones, and the word is that of the others
pub record Passed (marks left : List Bool) (word : ℕ) : Type 0 where
  pub left_is : left ≡ take (length left) marks
  pub word_is : word ≡ word_of (drop (length left) marks)

pub passed_none : (marks left : List Bool) → left ≡ marks → Passed marks left 0
passed_none marks left e =
    rw e (record { left_is = sym (take_all (length marks) marks (omega arith)); word_is = word_none marks (length marks) (omega arith) })

from_mark : (mark : Bool) → from_bool mark ≡ cond mark 1 0
from_mark true = refl
from_mark false = refl

module _ (marks left rest : List Bool) (mark : Bool) (word : ℕ) (e : length marks ≡ 64) (p : Passed marks left word) (f : left ≡ push rest mark) where
  one_more : length left ≡ length rest + 1
  one_more = ap length f ∙ simp length-append (omega arith)

  left_most : length left ≤ 64
  left_most = omega (arith, ap length p.left_is ∙ length-take (length left) marks)

  mark_is : get_or marks (length rest) false ≡ mark
  mark_is =
      sym (get_or-take (length left) marks (length rest) false (omega (arith, one_more)))
      ∙ rw (← p.left_is, f) (get_or-append_seam rest mark [] false)

  rest_is : rest ≡ take (length rest) marks
  rest_is =
      sym (take-append_seam rest (mark ∷ [])) ∙ rw (sym f) (ap (take (length rest)) p.left_is ∙ take-take (length rest) (length left) marks (omega (arith, one_more)))

  word_then : word * 2 + from_bool mark ≡ word_of (drop (length rest) marks)
  word_then =
      let k : length left - 1 ≡ length rest = omega (arith, one_more) in
      let b : from_bool mark ≡ cond (get_or marks (length left - 1) false) 1 0 = rw (k, mark_is) (from_mark mark) in
      rw k at (word_next marks (length left) word (from_bool mark) e (omega (arith, one_more)) left_most p.word_is b)

  pub passed_next : Passed marks rest (word * 2 + from_bool mark)
  passed_next = record { left_is = rest_is; word_is = word_then }

  pub passed_fits : word * 2 + from_bool mark < 2 ^ 64
  passed_fits = rw word_then (word_fits marks (length rest) e)

-- ---- a whole window

-- `u64::MAX >> (64 - k)` has the k lowest bits
ones_shifted : (k : ℕ) → k ≤ 64 → (2 ^ 64 - 1) / 2 ^ (64 - k) ≡ 2 ^ k - 1
ones_shifted k h =
    let e : k + (64 - k) ≡ 64 = omega arith in
    let f : 2 ^ 64 - 1 ≡ (2 ^ k - 1) * 2 ^ (64 - k) + (2 ^ (64 - k) - 1) = rw e at (ones_split k (64 - k)) in
    ap (λ (x : ℕ). x / 2 ^ (64 - k)) f ∙ high (2 ^ k - 1) (64 - k) (ones_lt (64 - k))

-- a list that has a word's bits is the word's
listed : (a : ℕ) (l : List Bool) → length l ≡ mark_count → ((j : ℕ) → j < mark_count → get_or (marks_of a) j false ≡ get_or l j false) → marks_of a ≡ l
listed a l e h = ext_get_or false (marks_of a) l (bits_length 64 a ∙ sym e) (λ j k. h j (rw (bits_length 64 a) at k))

row_there : (m n s w j : ℕ) → 0 < n → j < m * n → w * (m + n) + (m + n - 1) ≤ s → row_exists m n s w j ≡ true
unfolding row_exists spot_of_mark
row_there m n s w j h k l =
    let d : j / n < m = (div-lt_iff_lt-mul h).1 k in
    let r : j % n < n = mod-lt j h in
    lt-ltb _ s (omega arith)

pub whole_word : (m n s w : ℕ) → 0 < n → m * n ≤ 64 → w * (m + n) + (m + n - 1) ≤ s
    → marks_of ((2 ^ 64 - 1) / 2 ^ (64 - m * n)) ≡ moving_marks m n s w
whole_word m n s w h k l =
    ap marks_of (ones_shifted (m * n) k)
    ∙ listed (2 ^ (m * n) - 1) (moving_marks m n s w) (moving_length m n s w)
    (λ j i.
    ones_at 64 (m * n) j i
    ∙ sym (moving_at_law m n s w j i ∙ and_absorbs (ltb j (m * n)) (row_exists m n s w j) (λ e. row_there m n s w j h (ltb-true j (m * n) e) l)))

pub cut_word : (m n s w r : ℕ) → r ≡ word_of (moving_marks m n s w) → marks_of r ≡ moving_marks m n s w
cut_word m n s w r e = ap marks_of e ∙ rw (moving_length m n s w) at (bits_back (moving_marks m n s w))

-- ---- what is left to copy

-- mark j is not set, and its row exists
abbrev pub unmarked_at : (m n s w : ℕ) (marks : List Bool) (j : ℕ) → Bool
unmarked_at m n s w marks j = row_exists m n s w j && not (get_or marks j false)

-- a word that has the moving marks that are not in a set
pub record Left (m n s w : ℕ) (marks : List Bool) (left : ℕ) : Type 0 where
  pub most : m * n ≤ 64
  pub fits : left < 2 ^ 64
  pub has : marks_of left ≡ difference (moving_marks m n s w) marks

pub unset_left : (m n s w : ℕ) (marks : List Bool) (left : ℕ) → Grows m n → left < 2 ^ 64
    → marks_of left ≡ difference (moving_marks m n s w) marks → Left m n s w marks left
unset_left m n s w marks left g h e = record { most = marks_most m n g.most; fits = h; has = e }

module _ (m n s w : ℕ) (marks : List Bool) (left : ℕ) (l : Left m n s w marks left) where
  left_at : (j : ℕ) → j < 64 → get_or (marks_of left) j false ≡ (moving_at m n s w j && not (get_or marks j false))
  left_at j h = rw (l.has, difference_at (moving_marks m n s w) marks j h, moving_at_law m n s w j h)

  inside : (j : ℕ) → j < m * n → get_or (marks_of left) j false ≡ unmarked_at m n s w marks j
  inside j h = left_at j (let k = l.most in omega arith) ∙ simp (lt-ltb j (m * n) h)

  outside : (j : ℕ) → m * n ≤ j → j < 64 → get_or (marks_of left) j false ≡ false
  outside j h k = left_at j k ∙ simp (le-ltb j (m * n) h)

  pub left_count : ones left ≡ count (λ j. row_exists m n s w j && not (get_or marks j false)) (m * n)
  left_count =
      ones_bits 64 left l.fits ∙ count_cut (λ j. get_or (marks_of left) j false) (m * n) 64 l.most outside
      ∙ count_ext (λ j. get_or (marks_of left) j false) (unmarked_at m n s w marks) (m * n) inside

  pub none_left : left ≡ 0 → m * n ≡ first_unmarked m n s w marks
  unfolding first_unmarked
  none_left z = sym (first_none (unmarked_at m n s w marks) (m * n) (λ i h. sym (inside i h) ∙ rw z (no_bit 64 i)))

  some_bit : (left ≡ 0 → ⊥) → count_trailing_zeros 64 left < 64
  some_bit z =
      by_test (ltb (count_trailing_zeros 64 left) 64) (λ e. ltb-true (count_trailing_zeros 64 left) 64 e)
      (λ e.
      let k : 64 ≤ count_trailing_zeros 64 left = ltb-false (count_trailing_zeros 64 left) 64 e in
      absurd (z (word_ext 64 left 0 l.fits (omega arith) (λ j h. trailing_before 64 left j (omega arith) ∙ sym (no_bit 64 j)))))

  pub lowest_inside : (left ≡ 0 → ⊥) → count_trailing_zeros 64 left < m * n
  lowest_inside z =
      by_test (ltb (count_trailing_zeros 64 left) (m * n)) (λ e. ltb-true (count_trailing_zeros 64 left) (m * n) e)
      (λ e. clash (trailing_found 64 left (some_bit z)) (outside (count_trailing_zeros 64 left) (ltb-false (count_trailing_zeros 64 left) (m * n) e) (some_bit z)))

  pub lowest_left : (left ≡ 0 → ⊥) → count_trailing_zeros 64 left ≡ first_unmarked m n s w marks
  unfolding first_unmarked
  lowest_left z =
      let t = count_trailing_zeros 64 left in
      let h = lowest_inside z in
      sym (first_found (unmarked_at m n s w marks) (m * n) t h (λ i k. sym (inside i (omega arith)) ∙ trailing_before 64 left i k)
      (sym (inside t h) ∙ trailing_found 64 left (some_bit z)))

-- ---- no marks, and a mark more

pub no_marks_law : marks_of 0 ≡ no_marks
unfolding no_marks bits
no_marks_law = refl

-- words whose marks are within one another are one
pub words_both : (a b : ℕ) → a < 2 ^ 64 → b < 2 ^ 64 → within (marks_of a) (marks_of b) ≡ true → within (marks_of b) (marks_of a) ≡ true → a ≡ b
words_both a b h k e f =
    word_ext 64 a b h k
    (λ j l. ap (λ (m : List Bool). get_or m j false) (within_both (marks_of a) (marks_of b) (bits_length 64 a) (bits_length 64 b) e f))

pub none_word : (a : ℕ) → a < 2 ^ 64 → within (marks_of a) no_marks ≡ true → a ≡ 0
none_word a h e = words_both a 0 h (omega arith) (rw no_marks_law e) (rw no_marks_law (none_within (marks_of a)))

-- the word of a list of marks
pub word_of_fits : (marks : List Bool) → length marks ≡ mark_count → word_of marks < 2 ^ 64
word_of_fits marks e = rw e at (word_small marks)

pub marks_of_word : (marks : List Bool) → length marks ≡ mark_count → marks_of (word_of marks) ≡ marks
marks_of_word marks e = rw e at (bits_back marks)

pub word_of_marks : (a : ℕ) → a < 2 ^ 64 → word_of (marks_of a) ≡ a
word_of_marks a h = word_back 64 a h
