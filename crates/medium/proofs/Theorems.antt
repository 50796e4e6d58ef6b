-- The laws of stores, as `specs/Laws.antt` states them.
use Prim.Native.Nat.{ℕ, ◌≤◌}
use mathlib.Core.Path.{◌≡◌, refl, subst}
use mathlib.Core.List.{List, [], ◌∷◌}
use mathlib.Core.Logic.{inl, inr}
use native.Mathlib.Omega.{arith}
use lib.ListN.{length, take, drop}
use lib.Seq.{sets, length-sets}
use Rattle.base.proofs.Lists.{part_stored, part_kept, drop_kept}
use Rattle.layout.specs.declared.Spot.{Spot}
use Rattle.medium.specs.declared.Geometry.{Geometry}
use Rattle.medium.specs.Medium.{record_bytes, place, observe, Store, no_store, record_store, block_store, apply, StoreFits, AfterCut, torn_block, old_record, new_record, MayLeave, cut_store, apply_cut, Placed, EachMayLeave, apply_cuts}
use Rattle.medium.specs.Laws.{Holds, OtherThanRecord, OtherThanSpot, Stored, Leaves, MediumLaws}
use Rattle.medium.proofs.Places.{past_record, disjoint, inside}
use Rattle.medium.proofs.Cuts.{cut_fits, cut_other_than_record, cut_other_than_spot}

-- ---- a store that lies in the medium

stored : (g : Geometry) (s : Store) (m : List ℕ) → StoreFits g (length m) s → Stored g s (observe m) (observe (apply g s m))
unfolding observe apply StoreFits Holds OtherThanRecord OtherThanSpot
stored g no_store m f = record { length_kept = refl; read_back = tt; record_kept = λ _. refl; spots_kept = λ q r n. refl }
stored g (record_store sector) m f = record {
  length_kept = length-sets m 0 sector;
  read_back = subst (λ (k : ℕ). take k (sets m 0 sector) ≡ sector) f.0 (part_stored m sector 0 (omega (arith, f.0, f.1)));
  record_kept = λ n. absurd n;
  spots_kept = λ q r n. part_kept m sector 0 (place g q) g.size (inl (omega (arith, f.0, past_record g q)));
}
stored g (block_store p bytes) m f = record {
  length_kept = length-sets m (place g p) bytes;
  read_back = subst (λ (k : ℕ). take k (drop (place g p) (sets m (place g p) bytes)) ≡ bytes) f.1 (part_stored m bytes (place g p) (omega (arith, f.1, f.0.fits)));
  record_kept = λ _. part_kept m bytes (place g p) 0 record_bytes (inr (past_record g p));
  spots_kept = λ q r n. elim (disjoint g p q f.0.row r n) [
    | inl h ↦ part_kept m bytes (place g p) (place g q) g.size (inl (omega (arith, f.1)))
    | inr h ↦ part_kept m bytes (place g p) (place g q) g.size (inr h)
  ];
}

fits_longer : (g : Geometry) (n len : ℕ) (s : Store) → n ≤ len → StoreFits g n s → StoreFits g len s
unfolding StoreFits
fits_longer g n len no_store h f = tt
fits_longer g n len (record_store sector) h f = (f.0, omega (arith, f.1))
fits_longer g n len (block_store p bytes) h f = (record { row = f.0.row; fits = omega (arith, f.0.fits) }, f.1)

beyond_kept : (g : Geometry) (n : ℕ) (s : Store) (m : List ℕ) → StoreFits g n s → drop n (apply g s m) ≡ drop n m
unfolding apply StoreFits
beyond_kept g n no_store m f = refl
beyond_kept g n (record_store sector) m f = drop_kept m sector 0 n (omega (arith, f.0, f.1))
beyond_kept g n (block_store p bytes) m f = drop_kept m bytes (place g p) n (omega (arith, f.1, f.0.fits))

-- ---- what a cut may leave, and that it stands then

any_bytes_left : (g : Geometry) (p : Spot) (stored bytes m : List ℕ) → length bytes ≡ length stored
    → Leaves g (block_store p stored) (torn_block bytes) m (sets m (place g p) bytes)
unfolding MayLeave apply_cut cut_store apply
any_bytes_left g p stored bytes m e = record { may_leave_law = e; stands = refl }

old_record_left : (g : Geometry) (sector m : List ℕ) → Leaves g (record_store sector) old_record m m
unfolding MayLeave apply_cut cut_store apply
old_record_left g sector m = record { may_leave_law = tt; stands = refl }

new_record_left : (g : Geometry) (sector m : List ℕ) → Leaves g (record_store sector) new_record m (sets m 0 sector)
unfolding MayLeave apply_cut cut_store apply
new_record_left g sector m = record { may_leave_law = tt; stands = refl }

none_pending : (m : List ℕ) → EachMayLeave [] [] × (apply_cuts [] [] m ≡ m)
unfolding EachMayLeave apply_cuts
none_pending m = (tt, refl)

each_left : (s : Placed) (l : AfterCut) (stores : List Placed) (left : List AfterCut) (m before after : List ℕ) → EachMayLeave stores left
    → apply_cuts stores left m ≡ before → Leaves s.geometry s.store l before after
    → EachMayLeave (s ∷ stores) (l ∷ left) × (apply_cuts (s ∷ stores) (l ∷ left) m ≡ after)
unfolding EachMayLeave apply_cuts
each_left s l stores left m before after may e leaves = ((leaves.may_leave_law, may), rw e leaves.stands)

pub medium_laws : MediumLaws
unfolding apply_cut
medium_laws = record {
  past_record = past_record;
  disjoint = disjoint;
  inside = inside;
  stored = stored;
  fits_longer = fits_longer;
  beyond_kept = beyond_kept;
  cut_stored = λ g s l m f c. stored g (cut_store s l) m (cut_fits g (length m) s l f c);
  cut_other_than_record = cut_other_than_record;
  cut_other_than_spot = cut_other_than_spot;
  cut_beyond_kept = λ g n s l m f c. beyond_kept g n (cut_store s l) m (cut_fits g n s l f c);
  any_bytes_left = any_bytes_left;
  old_record_left = old_record_left;
  new_record_left = new_record_left;
  none_pending = none_pending;
  each_left = each_left;
}
