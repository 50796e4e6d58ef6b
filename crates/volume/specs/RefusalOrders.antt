-- Documents 01 and 02, "Checks come in the order written": the numbers of each call's table of refusals, of all inputs.
use Rattle.std.specs.Prelude.{ℕ, ◌≡◌, Bool, false, List, [], ◌∷◌, ◌++◌, map}
use Rattle.std.proofs.Math.Option.{none, some}
use Rattle.layout.specs.declared.Spot.{Spot}
use Rattle.layout.specs.Tally.{next_block}
use Rattle.medium.specs.Medium.{Observations}
use Rattle.volume.specs.declared.Volume.{Volume}
use Rattle.volume.specs.Calls.{format_table, restart_table, sector_table, flushed_table, grow_table, grow_beyond_doubling_table, write_table, read_table, growth_table, block_rows, record_rows, copy_table, checkpoint_table, advance_table, address_table, holder_table}
use Rattle.volume.specs.States.{tally_of}

-- the numbers of a table, in its order
abbrev pub numbers_in : (table : List (ℕ × Bool)) → List ℕ
numbers_in table = map (λ check. check.0) table

pub record RefusalOrders : Type 0 where
  -- "8, Z, s or N[0] outside the limits; 2"
  pub format_order : (z s n byte_count : ℕ) → numbers_in (format_table z s n byte_count) ≡ (8 ∷ 8 ∷ 8 ∷ 2 ∷ [])
  -- "2, below 512 bytes; 13, bytes 0 to 511 are no sound state's record; 2"
  pub restart_order : (o : Observations) → numbers_in (restart_table o) ≡ (2 ∷ 13 ∷ 2 ∷ [])
  -- W1: "2 for fewer and then 13 but no further 2"
  pub sector_order : (o : Observations) → numbers_in (sector_table o) ≡ (2 ∷ 13 ∷ [])
  -- W4: "it refuses only by 1"
  pub flushed_order : (v : Volume) → numbers_in (flushed_table v) ≡ (1 ∷ [])
  -- "1; 6, growing already; 9, t = 7; 8, count not above N[t] or above 16; 2"; W7: 20 "after 8 and before 2"; W4: "both are tested last, 19 before 18"
  pub grow_order : (v : Volume) (count byte_count : ℕ)
      → numbers_in (grow_table v count byte_count) ≡ (1 ∷ 6 ∷ 9 ∷ 8 ∷ 8 ∷ 20 ∷ 2 ∷ 19 ∷ 18 ∷ [])
  pub grow_beyond_doubling_order : (v : Volume) (count byte_count : ℕ)
      → numbers_in (grow_beyond_doubling_table v count byte_count) ≡ (1 ∷ 6 ∷ 9 ∷ 8 ∷ 8 ∷ 2 ∷ 19 ∷ 18 ∷ [])
  -- "1; 2; 3; 4, piece not Z bytes; 7, x copied but not recorded"
  pub write_order : (v : Volume) (x piece_bytes byte_count : ℕ)
      → numbers_in (write_table v x piece_bytes byte_count) ≡ (1 ∷ 2 ∷ 3 ∷ 4 ∷ 7 ∷ 19 ∷ [])
  -- "1; 2; 3; 4"
  pub read_order : (v : Volume) (x piece_bytes byte_count : ℕ) → numbers_in (read_table v x piece_bytes byte_count) ≡ (1 ∷ 2 ∷ 3 ∷ 4 ∷ [])
  -- "1; 2; 5, not growing; 3; 10, x doesn't move or not in window w; 11, copied already"
  pub copy_order : (v : Volume) (x byte_count : ℕ) → numbers_in (copy_table v x byte_count) ≡ (1 ∷ 2 ∷ 5 ∷ 3 ∷ 10 ∷ 11 ∷ 19 ∷ [])
  -- "1; 2; 5; 12, copied equals recorded"
  pub checkpoint_order : (v : Volume) (byte_count : ℕ) → numbers_in (checkpoint_table v byte_count) ≡ (1 ∷ 2 ∷ 5 ∷ 12 ∷ 19 ∷ 18 ∷ [])
  -- "1; 2; 5"; the rows after it are those of a record store where no block is left to copy, else 18 is not told
  pub advance_order : (v : Volume) (byte_count : ℕ) → numbers_in (advance_table v byte_count) ≡ (1 ∷ 2 ∷ 5 ∷ 19 ∷ 18 ∷ [])
  pub advance_records : (v : Volume) (byte_count : ℕ) → next_block (tally_of v) ≡ none → advance_table v byte_count ≡ growth_table v byte_count ++ record_rows v
  pub advance_copies : (v : Volume) (x byte_count : ℕ) → next_block (tally_of v) ≡ some x
      → advance_table v byte_count ≡ growth_table v byte_count ++ (block_rows v ++ ((18, false) ∷ []))
  -- "1; 3"
  pub address_order : (v : Volume) (x : ℕ) → numbers_in (address_table v x) ≡ (1 ∷ 3 ∷ [])
  -- "1; 14, d ≥ N[t] or b ≥ s; 15, no open block lives there"
  pub holder_order : (v : Volume) (p : Spot) → numbers_in (holder_table v p) ≡ (1 ∷ 14 ∷ 14 ∷ 15 ∷ [])
