-- The numbers of a record, written out one by one as the code has them.
use Prim.Native.Nat.{ℕ}
use mathlib.Core.Path.{◌≡◌, sym, ap}
use mathlib.Core.List.{List, [], ◌∷◌, ◌++◌}
use lib.ListN.{length, take, drop, get_or}
use Rattle.base.specs.Below.{table}
use Rattle.base.proofs.Lists.{table_self}
use Rattle.volume.specs.declared.Volume.{Volume}
use Rattle.volume.specs.Records.{numbers_of}

pub eight_listed : (l : List ℕ) → length l ≡ 8
    → l ≡ get_or l 0 0 ∷ get_or l 1 0 ∷ get_or l 2 0 ∷ get_or l 3 0 ∷ get_or l 4 0 ∷ get_or l 5 0 ∷ get_or l 6 0 ∷ get_or l 7 0 ∷ []
unfolding table
eight_listed l e = sym (table_self 0 l 8 e)

pub thirteen_listed : (l : List ℕ) → length l ≡ 13
    → l ≡ get_or l 0 0 ∷ get_or l 1 0 ∷ get_or l 2 0 ∷ get_or l 3 0 ∷ get_or l 4 0 ∷ get_or l 5 0 ∷ get_or l 6 0 ∷ get_or l 7 0
    ∷ get_or l 8 0 ∷ get_or l 9 0 ∷ get_or l 10 0 ∷ get_or l 11 0 ∷ get_or l 12 0 ∷ []
unfolding table
thirteen_listed l e = sym (table_self 0 l 13 e)

-- the numbers that are written
pub numbers_listed : (v : Volume) → length v.counts ≡ 8
    → numbers_of v
    ≡ v.size ∷ v.rows ∷ v.growths ∷ get_or v.counts 0 0 ∷ get_or v.counts 1 0 ∷ get_or v.counts 2 0 ∷ get_or v.counts 3 0
    ∷ get_or v.counts 4 0 ∷ get_or v.counts 5 0 ∷ get_or v.counts 6 0 ∷ get_or v.counts 7 0 ∷ v.growing ∷ v.window ∷ []
unfolding numbers_of
numbers_listed v e =
    ap (λ (l : List ℕ). v.size ∷ v.rows ∷ v.growths ∷ (l ++ (v.growing ∷ v.window ∷ []))) (eight_listed v.counts e)

-- the counts that are read
pub counts_listed : (l : List ℕ) → length l ≡ 13
    → take 8 (drop 3 l) ≡ get_or l 3 0 ∷ get_or l 4 0 ∷ get_or l 5 0 ∷ get_or l 6 0 ∷ get_or l 7 0 ∷ get_or l 8 0 ∷ get_or l 9 0 ∷ get_or l 10 0 ∷ []
counts_listed l e = ap (λ (k : List ℕ). take 8 (drop 3 k)) (thirteen_listed l e)
