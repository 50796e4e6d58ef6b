-- The numbers of each table of refusals, by computing.
use Prim.Native.Nat.{ℕ}
use mathlib.Core.Path.{◌≡◌, refl}
use mathlib.Core.Bool.{false}
use mathlib.Core.List.{[], ◌∷◌, ◌++◌}
use mathlib.Core.Option.{none, some}
use Rattle.layout.specs.declared.Spot.{Spot}
use Rattle.layout.specs.Tally.{next_block}
use Rattle.medium.specs.Medium.{Observations}
use Rattle.volume.specs.declared.Volume.{Volume}
use Rattle.volume.specs.Calls.{format_table, restart_table, sector_table, flushed_table, doubling_rows, grow_table_of, grow_table, grow_beyond_doubling_table, write_table, read_table, growth_table, block_rows, record_rows, copy_table, checkpoint_table, advance_table, address_table, holder_table}
use Rattle.volume.specs.RefusalOrders.{numbers_in, RefusalOrders}
use Rattle.volume.specs.States.{tally_of}

format_order : (z s n byte_count : ℕ) → numbers_in (format_table z s n byte_count) ≡ (8 ∷ 8 ∷ 8 ∷ 2 ∷ [])
unfolding format_table
format_order z s n byte_count = refl

restart_order : (o : Observations) → numbers_in (restart_table o) ≡ (2 ∷ 13 ∷ 2 ∷ [])
unfolding restart_table
restart_order o = refl

sector_order : (o : Observations) → numbers_in (sector_table o) ≡ (2 ∷ 13 ∷ [])
sector_order o = refl

flushed_order : (v : Volume) → numbers_in (flushed_table v) ≡ (1 ∷ [])
unfolding flushed_table
flushed_order v = refl

grow_order : (v : Volume) (count byte_count : ℕ) → numbers_in (grow_table v count byte_count) ≡ (1 ∷ 6 ∷ 9 ∷ 8 ∷ 8 ∷ 20 ∷ 2 ∷ 19 ∷ 18 ∷ [])
unfolding grow_table_of doubling_rows
grow_order v count byte_count = refl

grow_beyond_doubling_order : (v : Volume) (count byte_count : ℕ)
    → numbers_in (grow_beyond_doubling_table v count byte_count) ≡ (1 ∷ 6 ∷ 9 ∷ 8 ∷ 8 ∷ 2 ∷ 19 ∷ 18 ∷ [])
unfolding grow_table_of doubling_rows
grow_beyond_doubling_order v count byte_count = refl

write_order : (v : Volume) (x piece_bytes byte_count : ℕ)
    → numbers_in (write_table v x piece_bytes byte_count) ≡ (1 ∷ 2 ∷ 3 ∷ 4 ∷ 7 ∷ 19 ∷ [])
unfolding write_table
write_order v x piece_bytes byte_count = refl

read_order : (v : Volume) (x piece_bytes byte_count : ℕ) → numbers_in (read_table v x piece_bytes byte_count) ≡ (1 ∷ 2 ∷ 3 ∷ 4 ∷ [])
unfolding read_table
read_order v x piece_bytes byte_count = refl

copy_order : (v : Volume) (x byte_count : ℕ) → numbers_in (copy_table v x byte_count) ≡ (1 ∷ 2 ∷ 5 ∷ 3 ∷ 10 ∷ 11 ∷ 19 ∷ [])
unfolding copy_table
copy_order v x byte_count = refl

checkpoint_order : (v : Volume) (byte_count : ℕ) → numbers_in (checkpoint_table v byte_count) ≡ (1 ∷ 2 ∷ 5 ∷ 12 ∷ 19 ∷ 18 ∷ [])
unfolding checkpoint_table
checkpoint_order v byte_count = refl

advance_order : (v : Volume) (byte_count : ℕ) → numbers_in (advance_table v byte_count) ≡ (1 ∷ 2 ∷ 5 ∷ 19 ∷ 18 ∷ [])
unfolding advance_table
advance_order v byte_count = refl

advance_records : (v : Volume) (byte_count : ℕ) → next_block (tally_of v) ≡ none → advance_table v byte_count ≡ growth_table v byte_count ++ record_rows v
unfolding advance_table
advance_records v byte_count e = rw e

advance_copies : (v : Volume) (x byte_count : ℕ) → next_block (tally_of v) ≡ some x
    → advance_table v byte_count ≡ growth_table v byte_count ++ (block_rows v ++ ((18, false) ∷ []))
unfolding advance_table
advance_copies v x byte_count e = rw e

address_order : (v : Volume) (x : ℕ) → numbers_in (address_table v x) ≡ (1 ∷ 3 ∷ [])
unfolding address_table
address_order v x = refl

holder_order : (v : Volume) (p : Spot) → numbers_in (holder_table v p) ≡ (1 ∷ 14 ∷ 14 ∷ 15 ∷ [])
unfolding holder_table
holder_order v p = refl

pub refusal_orders : RefusalOrders
refusal_orders =
    record {
      format_order = format_order;
      restart_order = restart_order;
      sector_order = sector_order;
      flushed_order = flushed_order;
      grow_order = grow_order;
      grow_beyond_doubling_order = grow_beyond_doubling_order;
      write_order = write_order;
      read_order = read_order;
      copy_order = copy_order;
      checkpoint_order = checkpoint_order;
      advance_order = advance_order;
      advance_records = advance_records;
      advance_copies = advance_copies;
      address_order = address_order;
      holder_order = holder_order;
    }
