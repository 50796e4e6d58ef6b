-- Document 01, "The live spot": a growth under way, with any set of blocks that have been moved.
use Rattle.std.specs.Prelude.{ℕ, Bool, cond, ◌&&◌, List, nat_lt}
use Rattle.std.proofs.Math.Option.{Option, none, some}
use Rattle.layout.specs.declared.Spot.{Spot}
use Rattle.layout.specs.History.{earlier, old_count, spot_of, block_at}
use Rattle.layout.specs.Windows.{old_spot, moving}

-- does block x have its new spot
unfoldable pub at_new_spot : (s : ℕ) (h : List ℕ) (moved : ℕ → Bool) (x : ℕ) → Bool
at_new_spot s h moved x = moving s h x && moved x

-- "x is at its new spot if it moves and .. Otherwise it is at its spot after t-1 growths."
unfoldable pub live_spot : (s : ℕ) (h : List ℕ) (moved : ℕ → Bool) (x : ℕ) → Spot
live_spot s h moved x = cond (at_new_spot s h moved x) (spot_of s h x) (old_spot s h x)

-- "only blocks x < m·s are open": the one that lives at p, or none
unfoldable pub live_block : (s : ℕ) (h : List ℕ) (moved : ℕ → Bool) (p : Spot) → Option ℕ
live_block s h moved p =
    cond (nat_lt p.disk (old_count h))
    (cond (at_new_spot s h moved (block_at s (earlier h) p)) none (some (block_at s (earlier h) p)))
    (cond (at_new_spot s h moved (block_at s h p)) (some (block_at s h p)) none)
