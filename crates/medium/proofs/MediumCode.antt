-- What the code needs besides: that nothing on the way to a place wraps, a part that was lent, and bytes copied within the medium.
use Prim.Native.Nat.{ℕ, ◌+◌, ◌-◌, ◌*◌, ◌^◌, ◌≤◌, ◌<◌}
use mathlib.Core.Path.{◌≡◌, ◌∙◌}
use mathlib.Core.List.{List, ◌++◌}
use native.Mathlib.Nat.{le-mul_of_pos_right}
use native.Mathlib.Omega.{arith}
use lib.ListN.{length, take, drop, length-take, length-drop}
use Rattle.std.proofs.lemmas.List.Edits.{sets}
use Rattle.medium.specs.Medium.{record_bytes}
use Rattle.base.proofs.Lists.{part_back_law}

-- what is multiplied by a size above 0 fits where the place does
pub factor_fits : (a size : ℕ) → 0 < size → record_bytes + a * size < 2 ^ 64 → a < 2 ^ 64
factor_fits a size h k = omega (arith, le-mul_of_pos_right a h)

-- a piece in the place of a part
pub copied_in : (m piece l : List ℕ) (at size : ℕ) → length piece ≡ size → at + size ≤ length m → l ≡ piece
    → take at m ++ (l ++ drop (at + size - at) (drop at m)) ≡ sets m at piece
copied_in m piece l at size long h e =
    let k : length piece ≡ at + size - at = omega arith in
    rw e (part_back_law m piece at (at + size) (omega arith) h k)

-- a part as the piece
pub copied_out : (m l : List ℕ) (at n : ℕ) → l ≡ take (at + n - at) (drop at m) → l ≡ take n (drop at m)
copied_out m l at n e = let k : at + n - at ≡ n = omega arith in rw k at e

-- n bytes from one place to another, through a list that holds them
pub copied_across : (m held l : List ℕ) (from to n : ℕ) → from + n ≤ length m → to + n ≤ length m → held ≡ take (from + n - from) (drop from m)
    → l ≡ held → take to m ++ (l ++ drop (to + n - to) (drop to m)) ≡ sets m to (take n (drop from m))
copied_across m held l from to n f t e k =
    let part : held ≡ take n (drop from m) = copied_out m held from n e in
    let long : length (take n (drop from m)) ≡ n = simp (length-take, length-drop) (omega arith) in
    copied_in m (take n (drop from m)) l to n long t (k ∙ part)
