-- Document 01, "Looking up spots": why a block is at its spot, "set out at format or added, by the last growth that placed it, or
-- moved there, as head, body or tail, by the last growth that moved it". Document 02, W6: by how many growths it was moved.
use Rattle.std.specs.Prelude.{ℕ, zero, suc, ◌+◌, ◌-◌, List, [], ◌∷◌, length, drop}
use Rattle.layout.specs.declared.Address.{Address}
use Rattle.layout.specs.declared.Change.{Change}
use Rattle.layout.specs.declared.Change.TheVariants.{Moved, Added, Stays}
use Rattle.layout.specs.declared.Reason.{Reason}
use Rattle.layout.specs.declared.Reason.TheVariants.{SetOut, AddedBy, MovedBy}
use Rattle.base.specs.Below.{count}
use Rattle.layout.specs.Growth.{change_of}
use Rattle.layout.specs.History.{spot_of}
use Rattle.layout.specs.Windows.{moving}

-- the reason after growth k, which did this with the block
unfoldable pub reason_after : (change : Change) (k : ℕ) (before : Reason) → Reason
reason_after (Moved part) k before = MovedBy k part
reason_after Added k before = AddedBy k
reason_after Stays k before = before

-- the reason of a block after growth k, which added it, or after format for 0
unfoldable pub placed_reason : (k : ℕ) → Reason
placed_reason zero = SetOut
placed_reason (suc k) = AddedBy (suc k)

-- The reason of block x. "Growths are told by number, 1 to t": the newest one's number is how many counts are before its own.
unfoldable pub reason_of : (s : ℕ) (h : List ℕ) (x : ℕ) → Reason
reason_of s [] x = SetOut
reason_of s (c ∷ []) x = SetOut
reason_of s (c ∷ m ∷ h) x = reason_after (change_of m (c - m) s x (spot_of s (m ∷ h) x)) (length (m ∷ h)) (reason_of s (m ∷ h) x)

-- "Growths are told by number, 1 to t; format is 0."
unfoldable pub growth_told : (r : Reason) → ℕ
growth_told SetOut = 0
growth_told (AddedBy k) = k
growth_told (MovedBy k part) = k

-- the history after its first k growths
unfoldable pub first_growths : (k : ℕ) (h : List ℕ) → List ℕ
first_growths k h = drop (length h - suc k) h

-- "by how many growths the block was moved": those growths k, the newest of the first k, that move x. Format, told as 0, moves none.
unfoldable pub move_count_of : (s : ℕ) (h : List ℕ) (x : ℕ) → ℕ
move_count_of s h x = count (λ k. moving s (first_growths k h) x) (length h)

-- that number after a growth, which did this with the block
unfoldable pub moves_after : (change : Change) (moves : ℕ) → ℕ
moves_after (Moved part) moves = moves + 1
moves_after Added moves = moves
moves_after Stays moves = moves

-- "the live spot and why it is there", of one history, and by how many of its growths the block was moved
unfoldable pub address_of : (s : ℕ) (h : List ℕ) (x : ℕ) → Address
address_of s h x = record { spot = spot_of s h x; reason = reason_of s h x; moves = move_count_of s h x }
