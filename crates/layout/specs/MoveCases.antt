-- Document 02, W6: by how many growths blocks were moved, worked out by hand, as one table. `proofs/MoveCases.antt` has its one proof.
use Rattle.std.specs.Prelude.{◌≡◌, ℕ, ◌*◌, Bool, false, List, [], ◌∷◌, map, nat_eq}
use Rattle.base.specs.Below.{sum}
use Rattle.layout.specs.History.{disk_count}
use Rattle.layout.specs.Reasons.{move_count_of}
use Rattle.layout.specs.Tally.{not_growing, growing, Tally, live_move_count_of}

-- Told: in this tally block x was moved by so many growths.
-- Summed: over all blocks of this history, with s rows, these numbers add up to so many.
pub data Case : Type 0 where
  Told : (t : Tally) (x moves : ℕ) → Case
  Summed : (h : List ℕ) (s moves : ℕ) → Case

abbrev pub nothing : ℕ → Bool
nothing x = false

abbrev pub at_rest : (h : List ℕ) (s : ℕ) → Tally
at_rest h s = record { rows = s; counts = h; mode = not_growing; window = 0; copied = nothing; recorded = nothing }

abbrev pub under_way : (h : List ℕ) (s w : ℕ) (copied recorded : ℕ → Bool) → Tally
under_way h s w copied recorded = record { rows = s; counts = h; mode = growing; window = w; copied = copied; recorded = recorded }

-- Growth 1, from 3 disks to 5, has windows of 5 rows, growth 2, to 6 disks, windows of 6. With 16 rows block 45 is set out at (0, 15), moved to
-- (3, 15) by growth 1 and to (5, 15) by growth 2.
abbrev pub table : List Case
table =
    Told (at_rest (3 ∷ []) 16) 45 0  -- set out
    ∷ Told (at_rest (5 ∷ 3 ∷ []) 16) 45 1
    ∷ Told (at_rest (6 ∷ 5 ∷ 3 ∷ []) 16) 45 2
    ∷ Told (at_rest (5 ∷ 3 ∷ []) 5) 16 0  -- added by growth 1
    ∷ Told (at_rest (6 ∷ 5 ∷ 3 ∷ []) 5) 16 1  -- and moved by growth 2
    ∷ Told (at_rest (6 ∷ 5 ∷ 3 ∷ []) 5) 0 1  -- moved by growth 1, left by growth 2
    ∷ Told (at_rest (6 ∷ 5 ∷ 3 ∷ []) 5) 12 0  -- left by both
    ∷ Told (at_rest (6 ∷ 5 ∷ 3 ∷ []) 5) 25 0  -- added by growth 2
    ∷ Told (under_way (5 ∷ 3 ∷ []) 5 0 (nat_eq 0) nothing) 0 0  -- copied, not recorded
    ∷ Told (under_way (5 ∷ 3 ∷ []) 5 0 (nat_eq 0) (nat_eq 0)) 0 1  -- recorded
    ∷ Told (under_way (5 ∷ 3 ∷ []) 10 1 nothing nothing) 0 1  -- its window is finished
    ∷ Told (under_way (5 ∷ 3 ∷ []) 10 1 nothing nothing) 15 0  -- its window is not
    ∷ Told (under_way (6 ∷ 5 ∷ 3 ∷ []) 16 2 nothing nothing) 45 1  -- at the spot that growth 1 gave it
    ∷ Told (under_way (6 ∷ 5 ∷ 3 ∷ []) 16 2 (nat_eq 45) (nat_eq 45)) 45 2
    ∷ Told (under_way (6 ∷ 5 ∷ 3 ∷ []) 16 2 nothing nothing) 0 1  -- growth 2 does not move it
    ∷ Summed (5 ∷ 3 ∷ []) 5 6  -- growth 1 moves 6 blocks
    ∷ Summed (6 ∷ 5 ∷ 3 ∷ []) 5 11  -- and growth 2 moves 5
    ∷ []

-- a case with its number worked out from the definitions
unfoldable pub worked : Case → Case
worked (Told t x moves) = Told t x (live_move_count_of t x)
worked (Summed h s moves) = Summed h s (sum (move_count_of s h) (disk_count h * s))

-- the table is right: worked out, it is the same table
abbrev pub MovesHold : Type 0
MovesHold = map worked table ≡ table
