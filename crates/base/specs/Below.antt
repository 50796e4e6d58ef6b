-- Numbers below a bound: how many pass a test, whether all do, the first and the lowest in rank that does, a sum over them, the list
-- of a function's values at them, and lists joined.
use Rattle.std.specs.Prelude.{ℕ, zero, suc, ◌+◌, Bool, true, cond, ◌&&◌, List, [], ◌∷◌, ◌++◌, ltb}
use Rattle.std.proofs.Math.Option.{Option, none, some}

unfoldable pub count : (p : ℕ → Bool) (n : ℕ) → ℕ
count p zero = 0
count p (suc n) = count p n + cond (p n) 1 0

unfoldable pub every : (p : ℕ → Bool) (n : ℕ) → Bool
every p zero = true
every p (suc n) = p n && every p n

unfoldable pub sum : (f : ℕ → ℕ) (n : ℕ) → ℕ
sum f zero = 0
sum f (suc n) = sum f n + f n

unfoldable pub table : {A : Type 0} (f : ℕ → A) (n : ℕ) → List A
table f zero = []
table f (suc n) = table f n ++ (f n ∷ [])

-- the lists that a function gives at them, one after another
unfoldable pub joined : {A : Type 0} (f : ℕ → List A) (n : ℕ) → List A
joined f zero = []
joined f (suc n) = joined f n ++ f n

-- the first that passes, or the bound where none does
unfoldable pub first : (p : ℕ → Bool) (n : ℕ) → ℕ
first p zero = 0
first p (suc n) = cond (ltb (first p n) n) (first p n) (cond (p n) n (suc n))

-- of those that pass, the one whose rank is lowest, or none
unfoldable pub lower : (rank : ℕ → ℕ) (x : ℕ) (found : Option ℕ) → Option ℕ
lower rank x none = some x
lower rank x (some y) = cond (ltb (rank x) (rank y)) (some x) (some y)

unfoldable pub lowest : (rank : ℕ → ℕ) (p : ℕ → Bool) (n : ℕ) → Option ℕ
lowest rank p zero = none
lowest rank p (suc n) = cond (p n) (lower rank n (lowest rank p n)) (lowest rank p n)
