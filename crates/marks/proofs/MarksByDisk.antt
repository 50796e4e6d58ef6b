-- The word of the marks of a window that is cut off, disk by disk: of the n marks of a disk those of its lowest rows are set.
use Prim.Native.Nat.{ℕ, zero, suc, ◌+◌, ◌-◌, ◌*◌, ◌^◌, ◌≤◌, ◌<◌, min}
use mathlib.Core.Path.{◌≡◌, sym, ap, ◌∙◌}
use mathlib.Core.Bool.{Bool, true, false}
use mathlib.Core.List.{List, [], ◌∷◌}
use native.Mathlib.Nat.{pow-succ', mul_assoc, suc-mul, mul_comm, mul-zero, mul-le-mul_right}
use native.Mathlib.Omega.{arith}
use lib.Arith.{digits_lt, digits_div, digits_mod}
use lib.Dec.{ltb, leb-suc-zero, leb-suc-suc}
use lib.ListN.{length, drop, get_or, length-drop}
use lib.Pow.{pow_pos}
use lib.Seq.{drop-drop, get_or-drop}
use borrow.Author.Tests.{ltb-true, lt-ltb, le-ltb}
use Rattle.base.proofs.Booleans.{same_test}
use Rattle.layout.specs.Limits.{Grows}
use Rattle.layout.specs.Windows.{row_exists, spot_of_mark}
use Rattle.layout.proofs.WindowsCode.{marks_most}
use Rattle.marks.specs.Marks.{mark_count, moving_marks}
use Rattle.base.specs.Bits.{word_of}
use Rattle.marks.proofs.MarkSets.{moving_length, moving_at_law}
use Rattle.marks.proofs.MarkWords.{word_none, word_fits}

-- ---- words of lists of marks

twice : (n z : ℕ) → 2 ^ suc n * z ≡ 2 * (2 ^ n * z)
twice n z = rw pow-succ' (mul_assoc 2 (2 ^ n) z)

-- of the first n marks the first k are set
group : (n k : ℕ) (l : List Bool) → k ≤ n → n ≤ length l → ((i : ℕ) → i < n → get_or l i false ≡ ltb i k)
    → word_of l + 1 ≡ 2 ^ k + 2 ^ n * word_of (drop n l)
unfolding word_of
group zero zero l a b h = omega arith
group zero (suc k) l a b h = absurd (omega arith)
group (suc n) k [] a b h = absurd (omega arith)
group (suc n) zero (mark ∷ l) a b h =
    let e : mark ≡ false = h 0 (omega arith) ∙ leb-suc-zero 0 in
    let g = group n zero l (omega arith) (omega arith) (λ i t. h (suc i) (omega arith) ∙ leb-suc-zero (suc i) ∙ sym (leb-suc-zero i)) in
    rw e (omega (arith, g, twice n (word_of (drop n l))))
group (suc n) (suc k) (mark ∷ l) a b h =
    let e : mark ≡ true = h 0 (omega arith) ∙ lt-ltb 0 (suc k) (omega arith) in
    let g = group n k l (omega arith) (omega arith) (λ i t. h (suc i) (omega arith) ∙ leb-suc-suc (suc i) k) in
    rw e (omega (arith, g, twice n (word_of (drop n l)), pow-succ' 2 k))

-- ---- the moving marks

-- row i of the n moving rows of disk d exists, in a window that has its first row at start
row_left : (start d i n s : ℕ) → i < n → ltb (start + (d + i)) s ≡ ltb i (min n (s - start - d))
row_left start d i n s h =
    same_test _ _ (λ e. lt-ltb i _ (omega (arith, ltb-true (start + (d + i)) s e)))
    (λ e. lt-ltb _ s (omega (arith, ltb-true i (min n (s - start - d)) e)))

module _ (m n s w : ℕ) (g : Grows m n) where
  -- from the marks of disk d on
  abbrev pub on_from : (d : ℕ) → List Bool
  on_from d = drop (d * n) (moving_marks m n s w)

  -- those of disk d itself
  its_marks : (d i : ℕ) → d < m → i < n → get_or (on_from d) i false ≡ ltb i (min n (s - w * (m + n) - d))
  unfolding row_exists spot_of_mark
  its_marks d i h k =
      let below : d * n + i < m * n = digits_lt h k in
      let inside : d * n + i < mark_count = omega (arith, below, marks_most m n g.most) in
      get_or-drop (d * n) (moving_marks m n s w) i false ∙ moving_at_law m n s w (d * n + i) inside
      ∙ rw (lt-ltb (d * n + i) (m * n) below, digits_div d k, digits_mod d k) (row_left (w * (m + n)) d i n s k)

  -- past the last disk there are none
  pub past_last : 0 ≡ word_of (on_from m)
  past_last =
      let most = marks_most m n g.most in
      let k = mark_count - m * n in
      let l : k ≤ length (on_from m) = rw length-drop (omega (arith, moving_length m n s w)) in
      let e = group k 0 (on_from m) (omega arith) l
      (λ i h.
      get_or-drop (m * n) (moving_marks m n s w) i false ∙ moving_at_law m n s w (m * n + i) (omega arith)
      ∙ rw (le-ltb (m * n + i) (m * n) (omega arith)) (sym (leb-suc-zero i))) in
      let z : 0 ≡ word_of (drop k (on_from m)) = word_none (on_from m) k (rw length-drop (omega (arith, moving_length m n s w))) in
      let f : word_of (on_from m) + 1 ≡ 2 ^ 0 + 2 ^ k * 0 = rw (sym z) at e in
      omega (arith, f, mul-zero (2 ^ k))

  -- those of one disk more
  pub disk_more : (d word r : ℕ) → 1 ≤ d → d ≤ m → word ≡ word_of (on_from d) → r + 1 ≡ 2 ^ min n (s - w * (m + n) - (d - 1))
      → word * 2 ^ n + r ≡ word_of (on_from (d - 1))
  disk_more d word r a b e f =
      let q : suc (d - 1) ≡ d = omega arith in
      let t : (d - 1) * n + n ≡ d * n = sym (suc-mul (d - 1) n) ∙ ap (λ (k : ℕ). k * n) q in
      let rest : drop n (on_from (d - 1)) ≡ on_from d =
      drop-drop n ((d - 1) * n) (moving_marks m n s w) ∙ ap (λ (k : ℕ). drop k (moving_marks m n s w)) t in
      let l : n ≤ length (on_from (d - 1)) =
      rw length-drop (omega (arith, t, moving_length m n s w, marks_most m n g.most, mul-le-mul_right n b)) in
      let k = group n (min n (s - w * (m + n) - (d - 1))) (on_from (d - 1)) (omega arith) l (λ i h. its_marks (d - 1) i (omega arith) h) in
      let i = rw (rest, sym e) at k in
      omega (arith, f, i, mul_comm word (2 ^ n))

  -- there is room for them
  pub room_left : (d word : ℕ) → 1 ≤ d → d ≤ m → word ≡ word_of (on_from d) → word * 2 ^ n < 2 ^ 64
  room_left d word a b e =
      let k = min n (s - w * (m + n) - (d - 1)) in
      let next = disk_more d word (2 ^ k - 1) a b e (let p = pow_pos k in omega arith) in
      omega (arith, next, word_fits (moving_marks m n s w) ((d - 1) * n) (moving_length m n s w))
