-- Document 02, W7: a grow of 3 disks with one row and blocks of 512 bytes, worked out by hand, on a medium of 8,704 bytes, which is enough for 16
-- disks, or of 512 bytes, which is not enough for any. `proofs/GrowCases.antt` has the proofs.
use Rattle.std.specs.Prelude.{◌≡◌, [], ◌∷◌, map}
use Rattle.base.specs.Refusals.{refusal}
use Rattle.medium.specs.Medium.{Observations}
use Rattle.volume.specs.declared.Volume.{Volume}
use Rattle.volume.specs.Calls.{grow_table, grow_beyond_doubling_table, grow_beyond_doubling_outcome}
use Rattle.volume.specs.States.{new_state}

abbrev pub three_disks : Volume
three_disks = new_state 512 1 3

abbrev pub long_medium : Observations
long_medium = record { byte_count = 8_704; sector = []; bytes_at = λ g p. [] }

pub record GrowCases : Type 0 where
  -- "20 when the new count exceeds twice N[t]": to 5, 6 and 7 disks
  pub doubling_bounds : map (λ count. refusal (grow_table three_disks count 8_704)) (5 ∷ 6 ∷ 7 ∷ []) ≡ (0 ∷ 0 ∷ 20 ∷ [])
  -- "tested .. before 2"
  pub doubling_before_room : refusal (grow_table three_disks 7 512) ≡ 20
  -- "the one without 20"
  pub without_doubling : refusal (grow_beyond_doubling_table three_disks 7 8_704) ≡ 0
  -- "the record with the count added"
  pub count_added : (grow_beyond_doubling_outcome three_disks 5 long_medium).reply.state.counts ≡ (3 ∷ 5 ∷ 0 ∷ 0 ∷ 0 ∷ 0 ∷ 0 ∷ 0 ∷ [])
