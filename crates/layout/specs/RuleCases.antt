-- Document 01, "Layout after t growths": each rule of one growth, worked out by hand beside L1 to L12, forward and back, for m = 1 < n (1 disk to 4),
-- 2 ≤ m < n (2 to 6 and 3 to 8), m = n (2 to 4) and m > n (4 to 6). (d0, b) is the spot before the growth, at d0 = x mod m, b = x / m.
-- `proofs/RuleCases.antt` has the proofs.
use Rattle.std.specs.Prelude.{◌≡◌, ℕ, List, [], ◌∷◌, map}
use Rattle.layout.specs.declared.Part.TheVariants.{Head, Body, Tail}
use Rattle.layout.specs.declared.Change.TheVariants.{Moved, Added, Stays}
use Rattle.layout.specs.declared.Reason.{Reason}
use Rattle.layout.specs.declared.Reason.TheVariants.{SetOut, AddedBy, MovedBy}
use Rattle.layout.specs.declared.Spot.{Spot}
use Rattle.layout.specs.Cases.{Case, Placed, at, Hold}
use Rattle.layout.specs.History.{block_at}
use Rattle.layout.specs.Reasons.{reason_of}

-- d0+m. Rows 6 and 4 are row 0 of the second window, of 6 rows and of 4.
abbrev pub heads : List Case
heads =
    Placed (4 ∷ 1 ∷ []) 6 0 (at 1 0) (Moved Head)  -- (0,0): 0+1
    ∷ Placed (6 ∷ 2 ∷ []) 10 0 (at 2 0) (Moved Head)  -- (0,0): 0+2
    ∷ Placed (6 ∷ 2 ∷ []) 10 3 (at 3 1) (Moved Head)  -- (1,1), the last row of the head: 1+2
    ∷ Placed (6 ∷ 2 ∷ []) 10 12 (at 2 6) (Moved Head)  -- (0,6), b1 = 0: 0+2
    ∷ Placed (4 ∷ 2 ∷ []) 6 3 (at 3 1) (Moved Head)  -- (1,1), which fits the tail too: 1+2
    ∷ Placed (4 ∷ 2 ∷ []) 6 8 (at 2 4) (Moved Head)  -- (0,4), b1 = 0: 0+2
    ∷ Placed (6 ∷ 4 ∷ []) 10 5 (at 5 1) (Moved Head)  -- (1,1): 1+4
    ∷ Placed (6 ∷ 4 ∷ []) 10 24 (at 4 6) (Moved Head)  -- (0,6), b1 = 0: 0+4
    ∷ []

-- m < n: d0+b1+1. m = n has no body.
abbrev pub bodies_below : List Case
bodies_below =
    Placed (4 ∷ 1 ∷ []) 6 5 (at 2 5) (Moved Body)  -- (0,5), b1 = 1: 0+1+1
    ∷ Placed (6 ∷ 2 ∷ []) 10 4 (at 3 2) (Moved Body)  -- (0,2): 0+2+1
    ∷ Placed (6 ∷ 2 ∷ []) 10 5 (at 4 2) (Moved Body)  -- (1,2): 1+2+1
    ∷ Placed (6 ∷ 2 ∷ []) 10 17 (at 4 8) (Moved Body)  -- (1,8), b1 = 2: 1+2+1
    ∷ Placed (8 ∷ 3 ∷ []) 8 9 (at 4 3) (Moved Body)  -- (0,3): 0+3+1
    ∷ Placed (8 ∷ 3 ∷ []) 8 11 (at 6 3) (Moved Body)  -- (2,3): 2+3+1
    ∷ []

-- m > n: m+n-1-(b1-d0)
abbrev pub bodies_above : List Case
bodies_above =
    Placed (6 ∷ 4 ∷ []) 10 10 (at 5 2) (Moved Body)  -- (2,2): 5-0
    ∷ Placed (6 ∷ 4 ∷ []) 10 33 (at 4 8) (Moved Body)  -- (1,8), b1 = 2: 5-1
    ∷ []

-- d0+n
abbrev pub tails : List Case
tails =
    Placed (4 ∷ 1 ∷ []) 6 2 (at 3 2) (Moved Tail)  -- (0,2): 0+3
    ∷ Placed (6 ∷ 2 ∷ []) 10 6 (at 4 3) (Moved Tail)  -- (0,3), the first row of the tail: 0+4
    ∷ Placed (6 ∷ 2 ∷ []) 10 9 (at 5 4) (Moved Tail)  -- (1,4): 1+4
    ∷ Placed (4 ∷ 2 ∷ []) 6 5 (at 3 2) (Moved Tail)  -- (1,2): 1+2
    ∷ Placed (6 ∷ 4 ∷ []) 10 14 (at 4 3) (Moved Tail)  -- (2,3): 2+2
    ∷ Placed (6 ∷ 4 ∷ []) 10 39 (at 5 9) (Moved Tail)  -- (3,9), b1 = 3: 3+2
    ∷ []

-- b1 < d0 or d0+n-1 < b1
abbrev pub stays : List Case
stays =
    Placed (4 ∷ 1 ∷ []) 6 3 (at 0 3) Stays  -- 0+2 < 3
    ∷ Placed (6 ∷ 2 ∷ []) 10 1 (at 1 0) Stays  -- 0 < 1
    ∷ Placed (6 ∷ 2 ∷ []) 10 8 (at 0 4) Stays  -- 0+3 < 4
    ∷ Placed (6 ∷ 2 ∷ []) 10 13 (at 1 6) Stays  -- b1 = 0 < 1
    ∷ Placed (4 ∷ 2 ∷ []) 6 4 (at 0 2) Stays  -- 0+1 < 2
    ∷ Placed (6 ∷ 4 ∷ []) 10 1 (at 1 0) Stays  -- 0 < 1
    ∷ Placed (6 ∷ 4 ∷ []) 10 8 (at 0 2) Stays  -- 0+1 < 2
    ∷ []

-- The first disk of row b is (b-(n-1)) mod (m+n), and the next blocks of the row are on the disks after it.
abbrev pub added : List Case
added =
    Placed (4 ∷ 1 ∷ []) 6 10 (at 0 1) Added  -- y = 4: (1-2) mod 4 = 3, and 1 on
    ∷ Placed (4 ∷ 1 ∷ []) 6 18 (at 2 4) Added  -- y = 12: (4-2) mod 4 = 2
    ∷ Placed (6 ∷ 2 ∷ []) 10 20 (at 3 0) Added  -- y = 0: (0-3) mod 6 = 3
    ∷ Placed (6 ∷ 2 ∷ []) 10 23 (at 0 0) Added  -- y = 3: 3, and 3 on
    ∷ Placed (6 ∷ 2 ∷ []) 10 32 (at 0 3) Added  -- y = 12: 3-3 = 0
    ∷ Placed (6 ∷ 2 ∷ []) 10 53 (at 0 8) Added  -- y = 33: (8-3) mod 6 = 5, and 1 on
    ∷ Placed (4 ∷ 2 ∷ []) 6 12 (at 3 0) Added  -- y = 0: (0-1) mod 4 = 3
    ∷ Placed (4 ∷ 2 ∷ []) 6 23 (at 1 5) Added  -- y = 11: (5-1) mod 4 = 0, and 1 on
    ∷ Placed (6 ∷ 4 ∷ []) 10 40 (at 5 0) Added  -- y = 0: (0-1) mod 6 = 5
    ∷ Placed (6 ∷ 4 ∷ []) 10 56 (at 1 8) Added  -- y = 16: (8-1) mod 6 = 1
    ∷ []

-- the way back alone: a spot and the block that it has, of the bodies from 2 disks to 6, with d0 = 0 and 1
abbrev pub bodies_found : List (Spot × ℕ)
bodies_found = (at 3 2, 4) ∷ (at 4 2, 5) ∷ (at 3 8, 16) ∷ (at 4 8, 17) ∷ []

abbrev pub FoundBelow : Type 0
FoundBelow = map (λ case. (case.0, block_at 10 (6 ∷ 2 ∷ []) case.0)) bodies_found ≡ bodies_found

-- why a block is at its spot, with 5 rows, after a growth from 3 disks to 5, and after another one to 6: a growth that leaves it, at (0,4), (3,0) and
-- (0,4), changes nothing
abbrev pub kept_reasons : List (List ℕ × ℕ × Reason)
kept_reasons = (5 ∷ 3 ∷ [], 12, SetOut) ∷ (6 ∷ 5 ∷ 3 ∷ [], 0, MovedBy 1 Head) ∷ (6 ∷ 5 ∷ 3 ∷ [], 12, SetOut) ∷ []

-- others: set out, moved, added, added and left at (4,0), added and moved from (0,0)
abbrev pub other_reasons : List (List ℕ × ℕ × Reason)
other_reasons =
    (3 ∷ [], 0, SetOut)
    ∷ (5 ∷ 3 ∷ [], 0, MovedBy 1 Head)
    ∷ (5 ∷ 3 ∷ [], 7, MovedBy 1 Tail)
    ∷ (5 ∷ 3 ∷ [], 15, AddedBy 1)
    ∷ (6 ∷ 5 ∷ 3 ∷ [], 15, AddedBy 1)
    ∷ (6 ∷ 5 ∷ 3 ∷ [], 16, MovedBy 2 Head)
    ∷ (6 ∷ 5 ∷ 3 ∷ [], 25, AddedBy 2)
    ∷ []

abbrev pub ReasonsHold : (cases : List (List ℕ × ℕ × Reason)) → Type 0
ReasonsHold cases = map (λ case. (case.0, case.1, reason_of 5 case.0 case.1)) cases ≡ cases

pub record RulesHold : Type 0 where
  pub heads_hold : Hold heads
  pub bodies_below_hold : Hold bodies_below
  pub bodies_found_law : FoundBelow
  pub bodies_above_hold : Hold bodies_above
  pub tails_hold : Hold tails
  pub stays_hold : Hold stays
  pub added_hold : Hold added
  pub kept_reasons_law : ReasonsHold kept_reasons
  pub other_reasons_law : ReasonsHold other_reasons
