-- What the code of the table's places needs.
use Prim.Native.Nat.{ℕ, ◌+◌, ◌*◌}
use mathlib.Core.Path.{◌≡◌}
use mathlib.Core.Bool.{true, ◌&&◌}
use lib.Dec.{leb, ltb}
use borrow.Author.Tests.{leb-true, le-leb, ltb-true, lt-ltb}
use Rattle.base.proofs.Booleans.{and_left, and_right, and_both, by_test}
use Rattle.layout.specs.Limits.{most_disks}
use Rattle.std.specs.Prelude.{Some, None}
use Rattle.move_table.specs.Entries.{offset, has_mark, place_of}
use Rattle.move_table.specs.Tables.{IsMark}

-- ---- which marks there are

module _ (m n j : ℕ) where
  pub mark_true : has_mark m n j ≡ true → IsMark m n j
  unfolding has_mark
  mark_true e =
      let three = and_left (leb 1 m && leb 1 n && leb (m + n) most_disks) (ltb j (m * n)) e in
      let two = and_left (leb 1 m && leb 1 n) (leb (m + n) most_disks) three in
      record {
        pair =
            record {
              old = leb-true 1 m (and_left (leb 1 m) (leb 1 n) two);
              added = leb-true 1 n (and_right (leb 1 m) (leb 1 n) two);
              most = leb-true (m + n) most_disks (and_right (leb 1 m && leb 1 n) (leb (m + n) most_disks) three);
            };
        below = ltb-true j (m * n) (and_right (leb 1 m && leb 1 n && leb (m + n) most_disks) (ltb j (m * n)) e);
      }

  true_mark : IsMark m n j → has_mark m n j ≡ true
  unfolding has_mark
  true_mark h =
      and_both
      (and_both (and_both (le-leb 1 m h.pair.old) (le-leb 1 n h.pair.added)) (le-leb (m + n) most_disks h.pair.most))
      (lt-ltb j (m * n) h.below)

  pub at_place : IsMark m n j → place_of m n j ≡ Some (offset m n j)
  unfolding place_of
  at_place h = rw (true_mark h)

  pub no_place : (IsMark m n j → ⊥) → place_of m n j ≡ None
  unfolding place_of
  no_place none = by_test (has_mark m n j) (λ e. absurd (none (mark_true e))) (λ e. rw e)
