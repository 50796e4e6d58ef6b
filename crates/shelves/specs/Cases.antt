-- Views worked out by hand, as one table: blocks of 512 bytes and 5 rows, from 3 disks to 5, as in document 01's L1 to L7. `proofs/Cases.antt` has
-- its one proof.
use Rattle.std.specs.Prelude.{ℕ, ◌≡◌, Bool, true, false, List, [], ◌∷◌, map, Ok, Err}
use Rattle.base.specs.Refusals.{refusal_with}
use Rattle.volume.specs.declared.Volume.{Volume}
use Rattle.shelves.specs.declared.ViewStart.TheVariants.{First, Second}
use Rattle.shelves.specs.Views.{ViewAnswer, view_answer}

-- while the growth runs or after it, with these words of recorded and copied marks of window 0, and stores pending or not
abbrev pub volume : (growing recorded copied : ℕ) (pending : Bool) → Volume
volume growing recorded copied pending =
    record {
      size = 512;
      rows = 5;
      growths = 1;
      counts = 3 ∷ 5 ∷ 0 ∷ 0 ∷ 0 ∷ 0 ∷ 0 ∷ 0 ∷ [];
      growing = growing;
      window = 0;
      recorded = recorded;
      copied = copied;
      pending = record { records = pending; blocks = pending };
    }

-- it runs, a record and blocks are pending; block 0 has mark 0
abbrev pub growing : (recorded copied : ℕ) → Volume
growing recorded copied = volume 1 recorded copied true

-- it is finished
abbrev pub grown : Volume
grown = volume 0 0 0 false

-- a view of block x, with k disks on the first shelf and shelves of so many bytes
pub record ViewCase : Type 0 where
  pub state : Volume
  pub first : ℕ
  pub second : ℕ
  pub k : ℕ
  pub x : ℕ
  pub answer : ViewAnswer

abbrev pub viewed : (state : Volume) (first second k x : ℕ) (answer : ViewAnswer) → ViewCase
viewed state first second k x answer = record { state = state; first = first; second = second; k = k; x = x; answer = answer }

abbrev pub on_first : (at : ℕ) → ViewAnswer
on_first at = Ok (First at)

abbrev pub on_second : (at : ℕ) → ViewAnswer
on_second at = Ok (Second at)

abbrev pub refused : (number : ℕ) → ViewAnswer
refused number = Err (refusal_with number)

abbrev pub table : List ViewCase
table =
    viewed grown 8_192 5_120 3 12 (on_first 2_560)  -- block 12 stays at disk 0, row 4
    ∷ viewed grown 8_192 5_120 3 0 (on_second 0)  -- block 0 is moved to disk 3, row 0
    ∷ viewed grown 8_192 5_120 3 4 (on_second 3_072)  -- block 4 to disk 4, row 1
    ∷ viewed grown 10_752 2_560 4 0 (on_first 8_192)  -- with disk 3 on the first shelf
    ∷ viewed grown 13_312 0 5 4 (on_first 11_264)  -- all disks are on the first shelf
    ∷ viewed grown 13_312 9_999 3 4 (on_second 3_072)  -- spare bytes on both
    ∷ viewed (growing 0 0) 8_192 5_120 3 0 (on_first 512)  -- not copied yet
    ∷ viewed (growing 0 1) 8_192 5_120 3 0 (on_first 512)  -- copied, not recorded
    ∷ viewed (growing 1 1) 8_192 5_120 3 0 (on_second 0)  -- recorded
    ∷ viewed (growing 1 0) 0 0 0 99 (refused 1)  -- recorded and not copied: not sound
    ∷ viewed grown 0 0 0 99 (refused 8)
    ∷ viewed grown 0 0 6 99 (refused 8)
    ∷ viewed (growing 1 1) 13_312 0 6 0 (refused 8)  -- N[t] is 5 while the growth runs
    ∷ viewed grown 8_191 5_120 3 99 (refused 2)
    ∷ viewed grown 8_192 5_119 3 99 (refused 2)
    ∷ viewed grown 8_192 5_120 3 25 (refused 3)
    ∷ viewed (growing 1 1) 8_192 5_120 3 15 (refused 3)  -- an added block
    ∷ []

-- a case with its answer worked out from the definition
unfoldable pub worked : ViewCase → ViewCase
worked c = viewed c.state c.first c.second c.k c.x (view_answer c.state c.first c.second c.k c.x)

-- the table is right: worked out, it is the same table
abbrev pub TableHolds : Type 0
TableHolds = map worked table ≡ table
