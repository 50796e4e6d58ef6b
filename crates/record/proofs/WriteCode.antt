-- What the writing functions store, turn by turn.
use Prim.Native.Nat.{ℕ, zero, suc, ◌+◌, ◌-◌, ◌*◌, ◌/◌, ◌≤◌, ◌<◌}
use mathlib.Core.Path.{◌≡◌, refl, sym, ◌∙◌}
use mathlib.Core.Bool.{Bool, false, cond}
use mathlib.Core.List.{List, [], ◌∷◌, ◌++◌}
use native.Mathlib.Nat.{zero-add}
use native.Mathlib.Numerals.{add-one}
use native.Mathlib.Omega.{arith}
use lib.Dec.{eqb}
use lib.ListN.{length, take, drop, get_or, set, replicate, length-set, length-take, drop_of_length-le}
use lib.Seq.{sets, drop-cons, get_or-set_same, drop-set-lt, append_snoc}
use Rattle.base.specs.Below.{table}
use Rattle.base.proofs.Lists.{sets_append, part_back_law, lent_length, joined_next, front_stored, whole_stored}
use Rattle.record.specs.Decimal.{space, column_width, last_digit, leading, decimal}
use Rattle.record.specs.Sector.{column_count, growths, mark_count, mark_byte, line_feed, field, columns, mark_bytes, ending, sector}
use Rattle.record.proofs.Lengths.{length_field, length_columns, length_marks, length_sector}

-- ---- a number in a part

drop_stored : (l : List ℕ) (j b : ℕ) → j < length l → drop j (set l j b) ≡ b ∷ drop (suc j) l
drop_stored l j b h =
    let k : j < length (set l j b) = simp length-set h in
    let less : j < suc j = omega arith in
    drop-cons (set l j b) j 0 k ∙ simp (get_or-set_same l j b 0 h, drop-set-lt (suc j) l j b less)

-- an empty part holds its number
pub no_columns : (n : ℕ) (page : List ℕ) → length page ≡ 0 → page ≡ decimal (length page) n
unfolding decimal
no_columns n [] e = refl
no_columns n (b ∷ page) e = absurd (omega arith)

-- a number is written from its last digit
pub last_digit_stored : (w n : ℕ) (page : List ℕ) → length page ≡ w → 0 < w
    → leading (w - 1) (n / 10) ++ drop (w - 1) (set page (w - 1) (last_digit n)) ≡ decimal w n
unfolding decimal
last_digit_stored zero n page e h = absurd (omega arith)
last_digit_stored (suc w) n page e h =
    let m : suc w - 1 ≡ w = omega arith in
    rw (m, drop_stored page w (last_digit n) (omega arith), drop_of_length-le page {i = suc w} (omega arith))

-- and the digits before it follow, each in place of what was there
pub digit_before : (i rest : ℕ) (page : List ℕ) → 0 < i → i ≤ length page
    → leading (i - 1) (rest / 10) ++ drop (i - 1) (set page (i - 1) (cond (eqb rest 0) space (last_digit rest))) ≡ leading i rest ++ drop i page
unfolding leading
digit_before zero rest page h k = absurd (omega arith)
digit_before (suc j) rest page h k =
    let m : suc j - 1 ≡ j = omega arith in
    let b = cond (eqb rest 0) space (last_digit rest) in
    rw (m, drop_stored page j b (omega arith)) (sym (append_snoc (leading j (rest / 10)) b (drop (suc j) page)))

-- ---- the record

-- a lent part that comes back full of what f gives for its length
pub full_part_back : (f : ℕ → List ℕ) → ((n : ℕ) → length (f n) ≡ n) → (m l : List ℕ) (at w : ℕ) → at + w ≤ length m
    → l ≡ f (length (take (at + w - at) (drop at m))) → take at m ++ (l ++ drop (at + w - at) (drop at m)) ≡ sets m at (f w)
full_part_back f long m l at w h e =
    let full : l ≡ f w = rw (lent_length m at w h) at e in
    rw full (part_back_law m (f w) at (at + w) (omega arith) h (rw (long w) (omega arith)))

pub columns_next : (m numbers : List ℕ) (i : ℕ)
    → sets (sets m 0 (columns numbers i)) (i * column_width) (field (growths numbers) i (get_or numbers i 0)) ≡ sets m 0 (columns numbers (i + 1))
unfolding columns
columns_next m numbers i =
    rw (← zero-add (i * column_width)) (joined_next _ column_width (λ j. length_field (growths numbers) j (get_or numbers j 0)) m 0 i)

pub marks_next : (m : List ℕ) (marks : List Bool) (i : ℕ)
    → set (sets m 130 (mark_bytes marks i)) (130 + i) (mark_byte (get_or marks i false)) ≡ sets m 130 (mark_bytes marks (i + 1))
unfolding mark_bytes table
marks_next m marks i =
    rw (add-one, sets_append m 130 (mark_bytes marks i) (mark_byte (get_or marks i false) ∷ []), length_marks marks i)

pub ending_parts : (m : List ℕ) → set (sets m 194 (replicate 317 space)) 511 line_feed ≡ sets m 194 ending
unfolding ending
ending_parts m = sym (sets_append m 194 (replicate 317 space) (line_feed ∷ []))

pub sector_parts : (m numbers : List ℕ) (marks : List Bool)
    → sets (sets (sets m 0 (columns numbers column_count)) 130 (mark_bytes marks mark_count)) 194 ending ≡ sets m 0 (sector numbers marks)
unfolding sector
sector_parts m numbers marks =
    rw (
      sets_append m 0 (columns numbers column_count) (mark_bytes marks mark_count ++ ending),
      length_columns numbers column_count,
      sets_append (sets m 0 (columns numbers column_count)) 130 (mark_bytes marks mark_count) ending,
      length_marks marks mark_count,
    )

-- the first 512 bytes of a page with the record in them, and the rest of the page
pub sector_on_page : (m l numbers : List ℕ) (marks : List Bool) → 512 ≤ length m → l ≡ sets (take 512 m) 0 (sector numbers marks)
    → l ++ drop 512 m ≡ sets m 0 (sector numbers marks)
sector_on_page m l numbers marks h e =
    let s = sector numbers marks in
    let long : length s ≡ 512 = length_sector numbers marks in
    let front : length s ≡ length (take 512 m) = simp (long, length-take) (omega arith) in
    let stored : l ≡ s = e ∙ whole_stored (take 512 m) s front in
    let fits : length s ≤ length m = rw long h in
    rw stored (rw long at (front_stored m s fits))
