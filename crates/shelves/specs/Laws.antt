-- What is proved of views: `ViewLaws`. `proofs/Theorems.antt` has the proof.
use Rattle.std.specs.Prelude.{ℕ, ◌+◌, ◌≤◌, ◌<◌, ◌≡◌, true, false, List, [], ◌≢◌, ◌⊎◌, length, take, drop, Ok, Err}
use Rattle.base.specs.Refusals.{refusal, refusal_number}
use Rattle.layout.specs.Tally.{open_blocks, live_spot_of}
use Rattle.medium.specs.Medium.{bytes_needed, observe}
use Rattle.volume.specs.declared.Pending.{Pending}
use Rattle.volume.specs.declared.Volume.{Volume}
use Rattle.volume.specs.Answers.{number}
use Rattle.volume.specs.Calls.{read_table, read_effect, read_outcome}
use Rattle.volume.specs.Sound.{sound}
use Rattle.volume.specs.States.{geometry, disks, tally_of, with_pending}
use Rattle.shelves.specs.declared.ViewStart.TheVariants.{First, Second}
use Rattle.shelves.specs.Cases.{TableHolds}
use Rattle.shelves.specs.Shelves.{first_needs, second_needs, joined}
use Rattle.shelves.specs.Views.{ViewAnswer, view_table, view_answer, view_number, view_of}

-- k from 1 to N[t], and shelves of so many bytes that are long enough
pub record Fitting (v : Volume) (first second k : ℕ) : Type 0 where
  pub some_disk : k ≢ 0
  pub disks_there : k ≤ disks v
  pub first_long : first_needs (geometry v) k ≤ first
  pub second_long : second_needs (geometry v) (disks v) k ≤ second

-- the number told: that of the first test that fails
pub record ViewRefuses (v : Volume) (first second k x told : ℕ) : Type 0 where
  pub number_told : told ≡ refusal (view_table v first second k x)
  pub not_sound : sound v ≡ false → told ≡ 1
  pub outside : sound v ≡ true → (k ≡ 0) ⊎ (disks v < k) → told ≡ 8
  pub too_short : sound v ≡ true → k ≢ 0 → k ≤ disks v
      → (first < first_needs (geometry v) k) ⊎ (second < second_needs (geometry v) (disks v) k) → told ≡ 2
  pub not_open : sound v ≡ true → Fitting v first second k → open_blocks (tally_of v) ≤ x → told ≡ 3
  pub accepted : sound v ≡ true → Fitting v first second k → x < open_blocks (tally_of v) → told ≡ 0

-- where the block stands: on "the one shelf that has its spot", in the bytes that this shelf needs, and these are there
unfoldable pub Stands : (v : Volume) (first second k x : ℕ) (a : ViewAnswer) → Type 0
Stands v first second k x (Err r) = refusal_number r ≢ 0
Stands v first second k x (Ok (First at)) =
    ((live_spot_of (tally_of v) x).disk < k) × (at + v.size ≤ first_needs (geometry v) k) × (first_needs (geometry v) k ≤ first)
Stands v first second k x (Ok (Second at)) =
    (k ≤ (live_spot_of (tally_of v) x).disk) × (at + v.size ≤ second_needs (geometry v) (disks v) k) × (second_needs (geometry v) (disks v) k ≤ second)

-- the two shelves of a volume joined
abbrev pub joined_of : (v : Volume) (k : ℕ) (first second : List ℕ) → List ℕ
joined_of v k first second = joined (geometry v) (disks v) k first second

-- an accepted view: "the block's Z bytes", which equal "what read gives on the two joined without spare bytes"
pub record Shows (v : Volume) (first second : List ℕ) (k x : ℕ) : Type 0 where
  pub one_block : length (view_of v first second k x) ≡ v.size
  pub equals_read : view_of v first second k x ≡ (read_effect v x (observe (joined_of v k first second))).piece
  pub read_accepted : (piece : List ℕ) → length piece ≡ v.size
      → read_outcome v x piece (observe (joined_of v k first second)) ≡ read_effect v x (observe (joined_of v k first second))

pub record ViewLaws : Type 0 where
  pub view_refuses : (v : Volume) (first second k x : ℕ) → ViewRefuses v first second k x (view_number (view_answer v first second k x))
  pub stands : (v : Volume) (first second k x : ℕ) → Stands v first second k x (view_answer v first second k x)
  -- "A refusal shows an empty part", and no accepted view does
  pub refused_empty : (v : Volume) (first second : List ℕ) (k x : ℕ) → view_number (view_answer v (length first) (length second) k x) ≢ 0
      → view_of v first second k x ≡ []
  pub empty_refused : (v : Volume) (first second : List ℕ) (k x : ℕ) → view_of v first second k x ≡ []
      → view_number (view_answer v (length first) (length second) k x) ≢ 0
  pub view_shows : (v : Volume) (first second : List ℕ) (k x : ℕ) → view_number (view_answer v (length first) (length second) k x) ≡ 0
      → Shows v first second k x
  -- with k and shelves that fit, a view is refused exactly where read on the two joined is, with the same number
  pub joined_length : (v : Volume) (first second : List ℕ) (k : ℕ) → Fitting v (length first) (length second) k
      → length (joined_of v k first second) ≡ bytes_needed (geometry v) (disks v)
  pub same_number : (v : Volume) (first second : List ℕ) (k x : ℕ) (piece : List ℕ) → Fitting v (length first) (length second) k → length piece ≡ v.size
      → view_number (view_answer v (length first) (length second) k x)
      ≡ number (read_outcome v x piece (observe (joined_of v k first second))).reply.answer
  -- "without spare bytes": with the shelves cut to their needs the view is the same
  pub spare_not_shown : (v : Volume) (first second : List ℕ) (k x : ℕ)
      → view_of v (take (first_needs (geometry v) k) first) (take (second_needs (geometry v) (disks v) k) second) k x ≡ view_of v first second k x
  -- k = N[t] needs no second shelf
  pub no_second : (v : Volume) (first second x : ℕ) → view_answer v first second (disks v) x ≡ view_answer v first 0 (disks v) x
  -- what is pending makes no difference
  pub pending_shown : (v : Volume) (p : Pending) (first second k x : ℕ) → view_answer (with_pending v p) first second k x ≡ view_answer v first second k x
  -- a medium cut in two after disk k-1: where read accepts, so does the view, and shows what read gives on the medium, spare bytes or not
  pub of_medium : (v : Volume) (m : List ℕ) (k x : ℕ) → k ≢ 0 → k ≤ disks v → refusal (read_table v x v.size (length m)) ≡ 0
      → (let first = take (first_needs (geometry v) k) m in
      let second = drop (first_needs (geometry v) k) m in
      (view_number (view_answer v (length first) (length second) k x) ≡ 0) × (view_of v first second k x ≡ (read_effect v x (observe m)).piece))
  -- worked out by hand
  pub view_cases : TableHolds
