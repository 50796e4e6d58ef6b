-- What the tests of `is_record` say.
use Prim.Native.Nat.{ℕ, ◌+◌}
use mathlib.Core.Path.{◌≡◌}
use mathlib.Core.Bool.{Bool, true, false, ◌&&◌}
use mathlib.Core.List.{List}
use native.Mathlib.Omega.{arith}
use borrow.Author.Tests.{le-ltb, eqb-true}
use lib.Dec.{eqb}
use lib.ListN.{length, get_or}
use Rattle.base.proofs.Booleans.{and_left, and_right}
use Rattle.record.specs.Sector.{line_feed, is_blank, growths_read, fields_hold, marks_hold, spaces_hold, is_record}

-- the number of growths is never blank
pub growths_due : (t : ℕ) → is_blank t 2 ≡ false
unfolding is_blank
growths_due t = simp (le-ltb (3 + t) 2 (omega arith))

-- all tests pass
pub record Holds (bytes : List ℕ) : Type 0 where
  pub whole : length bytes ≡ 512
  pub fields : fields_hold bytes (growths_read bytes) ≡ true
  pub marked : marks_hold bytes ≡ true
  pub spaced : spaces_hold bytes ≡ true
  pub ended : get_or bytes 511 0 ≡ line_feed

five_tests : (a b c d e : Bool) → (a && (b && (c && (d && e)))) ≡ true → (a ≡ true) × (b ≡ true) × (c ≡ true) × (d ≡ true) × (e ≡ true)
five_tests a b c d e h =
    let h1 = and_right a (b && (c && (d && e))) h in
    let h2 = and_right b (c && (d && e)) h1 in
    let h3 = and_right c (d && e) h2 in (
      and_left a (b && (c && (d && e))) h,
      and_left b (c && (d && e)) h1,
      and_left c (d && e) h2,
      and_left d e h3,
      and_right d e h3,
    )

pub holds : (bytes : List ℕ) → is_record bytes ≡ true → Holds bytes
unfolding is_record
holds bytes e =
    let t = five_tests (eqb (length bytes) 512) (fields_hold bytes (growths_read bytes)) (marks_hold bytes) (spaces_hold bytes) (eqb (get_or bytes 511 0) line_feed) e in
    record { whole = eqb-true _ _ t.0; fields = t.1; marked = t.2; spaced = t.3; ended = eqb-true _ _ t.4 }
