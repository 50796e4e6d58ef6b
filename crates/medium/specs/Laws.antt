-- What is proved of stores, in one record of facts: `MediumLaws`. `proofs/Theorems.antt` has the proof.
use Rattle.std.specs.Prelude.{ℕ, ◌+◌, ◌≤◌, ◌<◌, ◌≡◌, List, [], ◌∷◌, ◌⊎◌, ◌≢◌, length, drop}
use Rattle.std.proofs.lemmas.List.Edits.{sets}
use Rattle.layout.specs.declared.Spot.{Spot}
use Rattle.medium.specs.declared.Geometry.{Geometry}
use Rattle.medium.specs.Medium.{record_bytes, place, bytes_needed, Observations, observe, Store, no_store, record_store, block_store, apply, Inside, StoreFits, AfterCut, torn_block, old_record, new_record, MayLeave, cut_store, apply_cut, Placed, EachMayLeave, apply_cuts}

-- what was stored is seen
unfoldable pub Holds : (g : Geometry) (s : Store) (o : Observations) → Type 0
Holds g no_store o = Unit {0}
Holds g (record_store sector) o = o.sector ≡ sector
Holds g (block_store p bytes) o = o.bytes_at g p ≡ bytes

-- a store that is not to the record; that is not to spot q
unfoldable pub OtherThanRecord : (s : Store) → Type 0
OtherThanRecord no_store = Unit {0}
OtherThanRecord (record_store sector) = ⊥
OtherThanRecord (block_store p bytes) = Unit {0}

unfoldable pub OtherThanSpot : (s : Store) (q : Spot) → Type 0
OtherThanSpot no_store q = Unit {0}
OtherThanSpot (record_store sector) q = Unit {0}
OtherThanSpot (block_store p bytes) q = p ≢ q

-- what a store makes of what is seen
pub record Stored (g : Geometry) (s : Store) (before after : Observations) : Type 0 where
  pub length_kept : after.byte_count ≡ before.byte_count
  pub read_back : Holds g s after
  pub record_kept : OtherThanRecord s → after.sector ≡ before.sector
  pub spots_kept : (q : Spot) → q.row.0 < g.rows → OtherThanSpot s q → after.bytes_at g q ≡ before.bytes_at g q

-- What a cut in a store may leave, and that it then stands in the medium: no less, apart from the text of `MayLeave` and `cut_store`
pub record Leaves (g : Geometry) (s : Store) (l : AfterCut) (m left : List ℕ) : Type 0 where
  pub may_leave_law : MayLeave s l
  pub stands : apply_cut g s l m ≡ left

-- All laws. A store is one that lies in the medium.
pub record MediumLaws : Type 0 where
  -- spots are disjoint from the record and from each other
  pub past_record : (g : Geometry) (p : Spot) → record_bytes ≤ place g p
  pub disjoint : (g : Geometry) (p q : Spot) → p.row.0 < g.rows → q.row.0 < g.rows → p ≢ q
      → (place g p + g.size ≤ place g q) ⊎ (place g q + g.size ≤ place g p)
  -- a spot of the disks lies in the bytes that they need
  pub inside : (g : Geometry) (disks : ℕ) (p : Spot) → p.disk < disks → p.row.0 < g.rows → Inside g (bytes_needed g disks) p
  pub stored : (g : Geometry) (s : Store) (m : List ℕ) → StoreFits g (length m) s → Stored g s (observe m) (observe (apply g s m))
  -- a store in the first n bytes lies in a medium that has as many
  pub fits_longer : (g : Geometry) (n len : ℕ) (s : Store) → n ≤ len → StoreFits g n s → StoreFits g len s
  -- "Bytes beyond the last disk are never touched", with n = bytes_needed g disks
  pub beyond_kept : (g : Geometry) (n : ℕ) (s : Store) (m : List ℕ) → StoreFits g n s → drop n (apply g s m) ≡ drop n m
  -- the same for a store that was cut; and where the store was not to the record or a spot, what is left of it is not
  pub cut_stored : (g : Geometry) (s : Store) (l : AfterCut) (m : List ℕ) → StoreFits g (length m) s → MayLeave s l
      → Stored g (cut_store s l) (observe m) (observe (apply_cut g s l m))
  pub cut_other_than_record : (s : Store) (l : AfterCut) → MayLeave s l → OtherThanRecord s → OtherThanRecord (cut_store s l)
  pub cut_other_than_spot : (s : Store) (l : AfterCut) (q : Spot) → MayLeave s l → OtherThanSpot s q → OtherThanSpot (cut_store s l) q
  pub cut_beyond_kept : (g : Geometry) (n : ℕ) (s : Store) (l : AfterCut) (m : List ℕ) → StoreFits g n s → MayLeave s l
      → drop n (apply_cut g s l m) ≡ drop n m
  -- "A block store then leaves any bytes in its spot", as many as were stored; "A record store leaves the old record .. or the new"
  pub any_bytes_left : (g : Geometry) (p : Spot) (stored bytes m : List ℕ) → length bytes ≡ length stored
      → Leaves g (block_store p stored) (torn_block bytes) m (sets m (place g p) bytes)
  pub old_record_left : (g : Geometry) (sector m : List ℕ) → Leaves g (record_store sector) old_record m m
  pub new_record_left : (g : Geometry) (sector m : List ℕ) → Leaves g (record_store sector) new_record m (sets m 0 sector)
  -- the same of each store that may not be down (document 02, W4), whatever is left of the others
  pub none_pending : (m : List ℕ) → EachMayLeave [] [] × (apply_cuts [] [] m ≡ m)
  pub each_left : (s : Placed) (l : AfterCut) (stores : List Placed) (left : List AfterCut) (m before after : List ℕ) → EachMayLeave stores left
      → apply_cuts stores left m ≡ before → Leaves s.geometry s.store l before after
      → EachMayLeave (s ∷ stores) (l ∷ left) × (apply_cuts (s ∷ stores) (l ∷ left) m ≡ after)
