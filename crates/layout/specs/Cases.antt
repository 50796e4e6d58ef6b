-- Document 01, "Layout cases": L1 to L12 as one table. `proofs/Theorems.antt` has its one proof.
use Rattle.std.specs.Prelude.{◌≡◌, ℕ, false, List, [], ◌∷◌, map}
use Rattle.layout.specs.declared.Spot.{Spot}
use Rattle.layout.specs.declared.Part.TheVariants.{Head, Body, Tail}
use Rattle.layout.specs.declared.Change.{Change}
use Rattle.layout.specs.declared.Change.TheVariants.{Moved, Added, Stays}
use Rattle.layout.specs.Growth.{change_of}
use Rattle.layout.specs.History.{old_count, added_count, spot_of, block_at}
use Rattle.layout.specs.Windows.{old_spot, calls_left}

-- Placed: with this history and s rows, block x is at spot p, and the newest growth did this with it.
-- Calls: the advance calls that the newest growth takes.
pub data Case : Type 0 where
  Placed : (h : List ℕ) (s x : ℕ) (p : Spot) (change : Change) → Case
  Calls : (h : List ℕ) (s calls : ℕ) → Case

abbrev pub at : (d b : ℕ) → Spot
at d b = record { disk = d; row = record { 0 = b } }

abbrev pub table : List Case
table =
    Placed (5 ∷ 3 ∷ []) 5 0 (at 3 0) (Moved Head)  -- L1
    ∷ Placed (5 ∷ 3 ∷ []) 5 4 (at 4 1) (Moved Head)  -- L2
    ∷ Placed (5 ∷ 3 ∷ []) 5 7 (at 3 2) (Moved Tail)  -- L3
    ∷ Placed (5 ∷ 3 ∷ []) 5 11 (at 4 3) (Moved Tail)  -- L4
    ∷ Placed (5 ∷ 3 ∷ []) 5 12 (at 0 4) Stays  -- L5
    ∷ Placed (5 ∷ 3 ∷ []) 5 15 (at 4 0) Added  -- L6
    ∷ Placed (5 ∷ 3 ∷ []) 5 16 (at 0 0) Added  -- L7
    ∷ Placed (6 ∷ 5 ∷ 3 ∷ []) 5 16 (at 5 0) (Moved Head)  -- L8
    ∷ Placed (6 ∷ 5 ∷ 3 ∷ []) 5 25 (at 0 0) Added  -- L9
    ∷ Placed (4 ∷ 1 ∷ []) 3 1 (at 2 1) (Moved Body)  -- L10
    ∷ Placed (6 ∷ 4 ∷ []) 6 9 (at 4 2) (Moved Body)  -- L11
    ∷ Calls (5 ∷ 3 ∷ []) 5 7  -- L12
    ∷ Calls (5 ∷ 3 ∷ []) 6 9  -- L12
    ∷ []

-- a case with its answers worked out from the definitions: the spot of x, the block of p, what the growth did with x, the calls
unfoldable pub worked : Case → Case
worked (Placed h s x p c) = Placed h s (block_at s h p) (spot_of s h x) (change_of (old_count h) (added_count h) s x (old_spot s h x))
worked (Calls h s k) = Calls h s (calls_left s h 0 (λ x. false))

-- cases are right: worked out, they are the same cases
abbrev pub Hold : (cases : List Case) → Type 0
Hold cases = map worked cases ≡ cases

abbrev pub TableHolds : Type 0
TableHolds = Hold table
