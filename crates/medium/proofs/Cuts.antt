-- A store that was cut.
use Prim.Native.Nat.{ℕ}
use mathlib.Core.Path.{◌∙◌}
use Rattle.layout.specs.declared.Spot.{Spot}
use Rattle.medium.specs.declared.Geometry.{Geometry}
use Rattle.medium.specs.Medium.{Store, no_store, record_store, block_store, StoreFits, AfterCut, torn_block, old_record, new_record, MayLeave, cut_store}
use Rattle.medium.specs.Laws.{OtherThanRecord, OtherThanSpot}

-- what a cut leaves lies where the store does
pub cut_fits : (g : Geometry) (n : ℕ) (s : Store) (l : AfterCut) → StoreFits g n s → MayLeave s l → StoreFits g n (cut_store s l)
unfolding StoreFits MayLeave cut_store
cut_fits g n no_store l f c = absurd c
cut_fits g n (record_store sector) (torn_block bytes) f c = absurd c
cut_fits g n (record_store sector) old_record f c = tt
cut_fits g n (record_store sector) new_record f c = f
cut_fits g n (block_store p stored) (torn_block bytes) f c = (f.0, c ∙ f.1)
cut_fits g n (block_store p stored) old_record f c = absurd c
cut_fits g n (block_store p stored) new_record f c = absurd c

pub cut_other_than_record : (s : Store) (l : AfterCut) → MayLeave s l → OtherThanRecord s → OtherThanRecord (cut_store s l)
unfolding MayLeave cut_store OtherThanRecord
cut_other_than_record no_store l c n = absurd c
cut_other_than_record (record_store sector) l c n = absurd n
cut_other_than_record (block_store p stored) (torn_block bytes) c n = tt
cut_other_than_record (block_store p stored) old_record c n = absurd c
cut_other_than_record (block_store p stored) new_record c n = absurd c

pub cut_other_than_spot : (s : Store) (l : AfterCut) (q : Spot) → MayLeave s l → OtherThanSpot s q → OtherThanSpot (cut_store s l) q
unfolding MayLeave cut_store OtherThanSpot
cut_other_than_spot no_store l q c n = absurd c
cut_other_than_spot (record_store sector) (torn_block bytes) q c n = absurd c
cut_other_than_spot (record_store sector) old_record q c n = tt
cut_other_than_spot (record_store sector) new_record q c n = tt
cut_other_than_spot (block_store p stored) (torn_block bytes) q c n = n
cut_other_than_spot (block_store p stored) old_record q c n = absurd c
cut_other_than_spot (block_store p stored) new_record q c n = absurd c
