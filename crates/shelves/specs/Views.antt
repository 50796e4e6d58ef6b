-- Document 02, W5: a block shown out of two lent shelves, not copied. One definition, `view_answer`, gives the number of a refusal and the part
-- that is shown.
use Rattle.std.specs.Prelude.{ℕ, Bool, not, List, [], ◌∷◌, ◌++◌, eqb, leb, ltb, length, take, drop, Result, Ok, Err}
use Rattle.base.specs.declared.Refusal.{Refusal}
use Rattle.base.specs.Refusals.{refusal_with}
use Rattle.layout.specs.Tally.{open_blocks, live_spot_of}
use Rattle.volume.specs.declared.Volume.{Volume}
use Rattle.volume.specs.Answers.{number}
use Rattle.volume.specs.Calls.{judged}
use Rattle.volume.specs.Sound.{sound}
use Rattle.volume.specs.States.{geometry, disks, tally_of}
use Rattle.shelves.specs.declared.ViewStart.{ViewStart}
use Rattle.shelves.specs.declared.ViewStart.TheVariants.{First, Second}
use Rattle.shelves.specs.Shelves.{first_needs, second_needs, start_on_shelf}

-- "Tests are 1, then 8 for k outside 1 to N[t], then 2 for either shelf": what is tested of the state and of shelves of so many bytes. N[t] also
-- while a growth runs; spare bytes at the end of a shelf are allowed.
unfoldable pub shelves_table : (v : Volume) (first_bytes second_bytes k : ℕ) → List (ℕ × Bool)
shelves_table v first_bytes second_bytes k =
    (1, not (sound v))
    ∷ (8, eqb k 0)
    ∷ (8, ltb (disks v) k)
    ∷ (2, ltb first_bytes (first_needs (geometry v) k))
    ∷ (2, ltb second_bytes (second_needs (geometry v) (disks v) k))
    ∷ []

-- "then 3"
unfoldable pub view_table : (v : Volume) (first_bytes second_bytes k x : ℕ) → List (ℕ × Bool)
view_table v first_bytes second_bytes k x = shelves_table v first_bytes second_bytes k ++ ((3, leb (open_blocks (tally_of v)) x) ∷ [])

-- what a view tells
abbrev pub ViewAnswer : Type 0
ViewAnswer = Result ViewStart Refusal

-- with shelves of so many bytes: refused, or the shelf and the byte at which the block starts
unfoldable pub view_answer : (v : Volume) (first_bytes second_bytes k x : ℕ) → ViewAnswer
view_answer v first_bytes second_bytes k x =
    judged (view_table v first_bytes second_bytes k x) (λ n. Err (refusal_with n)) (Ok (start_on_shelf (geometry v) k (live_spot_of (tally_of v) x)))

-- the number of an answer
abbrev pub view_number : (a : ViewAnswer) → ℕ
view_number a = number a

-- "the block's Z bytes as a part of the one shelf that has its spot"; "A refusal shows an empty part."
unfoldable pub part_shown : (z : ℕ) (first second : List ℕ) (a : ViewAnswer) → List ℕ
part_shown z first second (Err r) = []
part_shown z first second (Ok (First at)) = take z (drop at first)
part_shown z first second (Ok (Second at)) = take z (drop at second)

unfoldable pub view_of : (v : Volume) (first second : List ℕ) (k x : ℕ) → List ℕ
view_of v first second k x = part_shown v.size first second (view_answer v (length first) (length second) k x)
