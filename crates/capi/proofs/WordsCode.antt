-- What the code of the words needs besides: lists of numbers written out one by one.
use Prim.Native.Nat.{ℕ}
use mathlib.Core.Path.{◌≡◌, ap, ◌∙◌}
use mathlib.Core.List.{List, [], ◌∷◌, ◌++◌}
use native.Mathlib.Omega.{arith}
use lib.ListN.{length, get_or, set, drop_of_length-le}
use lib.Seq.{set_split}
use Rattle.base.specs.Below.{table}
use Rattle.base.proofs.Lists.{table_self}

-- ---- lists of numbers, one by one

pub three_listed : (l : List ℕ) → length l ≡ 3 → get_or l 0 0 ∷ get_or l 1 0 ∷ get_or l 2 0 ∷ [] ≡ l
unfolding table
three_listed l e = table_self 0 l 3 e

-- with others behind them
pub three_before : (l rest : List ℕ) → length l ≡ 3 → get_or l 0 0 ∷ get_or l 1 0 ∷ get_or l 2 0 ∷ rest ≡ l ++ rest
three_before l rest e = ap (◌++ rest) (three_listed l e)

-- a slice of one number
pub one_set : (l : List ℕ) (x y : ℕ) → length l ≡ 1 → x ≡ y → set l 0 x ≡ y ∷ []
one_set l x y e q = set_split l 0 x (omega (arith, e)) ∙ rw (q, drop_of_length-le l {i = 1} (omega (arith, e)))
