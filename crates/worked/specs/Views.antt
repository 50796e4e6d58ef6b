-- That demand 3 for a player which shows blocks (`ViewPromise`) is not empty, and for each of its parts a program that breaks it. `proofs/Views.antt`
-- has the proof.
use Rattle.std.specs.Prelude.{ℕ, ◌≡◌, List, []}
use Rattle.volume.specs.declared.Volume.{Volume}
use Rattle.promise.specs.Lists.{call_outcome, memory_of}
use Rattle.promise.specs.Promise.{system_after}
use Rattle.shelves.specs.Shown.{first_shelf, second_shelf, ViewPromiseOf, our_view}
use Rattle.worked.specs.Worked.{block_of, worked_start, before_read}

-- a view that refuses every block; one that accepts and shows nothing
abbrev pub refuses_view : (v : Volume) (first second : List ℕ) (k x : ℕ) → ℕ × List ℕ
refuses_view v first second k x = (3, [])

abbrev pub shows_nothing : (v : Volume) (first second : List ℕ) (k x : ℕ) → ℕ × List ℕ
shows_nothing v first second k x = (0, [])

pub record ViewsWorked : Type 0 where
  -- the worked list, with one disk on the first shelf: the save that was down is shown
  pub is_shown : (let s = system_after call_outcome worked_start before_read in (our_view (memory_of s) (first_shelf s 1) (second_shelf s 1) 1 0).0 ≡ 0)
  pub shown_back : (let s = system_after call_outcome worked_start before_read in
      (our_view (memory_of s) (first_shelf s 1) (second_shelf s 1) 1 0).1 ≡ block_of 5)
  -- the programs
  pub accepted_broken : ViewPromiseOf refuses_view → ⊥
  pub shown_broken : ViewPromiseOf shows_nothing → ⊥
