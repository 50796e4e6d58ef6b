-- Demand 3 for a player that shows blocks instead of reading them: `ViewPromise`. `proofs/Shown.antt` has the proof.
use Rattle.std.specs.Prelude.{ℕ, ◌≤◌, ◌<◌, ◌≡◌, true, List, ◌≢◌, length, take, drop}
use Rattle.std.proofs.Math.Option.{some}
use Rattle.volume.specs.declared.Volume.{Volume}
use Rattle.volume.specs.Answers.{accepted}
use Rattle.volume.specs.States.{geometry, disks}
use Rattle.promise.specs.Lists.{call_outcome, Event, System, medium_of, memory_of, NoEarlyCut, Lawful, IsUp}
use Rattle.promise.specs.Promise.{Start, formatted, begin, system_after, model_of}
use Rattle.shelves.specs.Shelves.{first_needs}
use Rattle.shelves.specs.Views.{view_answer, view_number, view_of}

-- the medium that calls see, cut in two after disk k-1
abbrev pub first_shelf : (s : System) (k : ℕ) → List ℕ
first_shelf s k = take (first_needs (geometry (memory_of s)) k) (medium_of s)

abbrev pub second_shelf : (s : System) (k : ℕ) → List ℕ
second_shelf s k = drop (first_needs (geometry (memory_of s)) k) (medium_of s)

-- what is shown is a parameter, so that the claim can be asked of any program: of a state, two shelves, k and a block the number and the part
module _ (view : (v : Volume) (first second : List ℕ) (k x : ℕ) → ℕ × List ℕ) where
  -- a view of block x, by the state last handed back: it is accepted, "and for a block set there gives the bytes that the plain volume holds for
  -- it"
  pub record ShownRight (a : Start) (es : List Event) (k x : ℕ) : Type 0 where
    pub is_accepted_law : (let s = system_after call_outcome a es in (view (memory_of s) (first_shelf s k) (second_shelf s k) k x).0 ≡ 0)
    pub bytes_shown : (b : List ℕ) → (model_of call_outcome a es).plain.bytes x ≡ some b
        → (let s = system_after call_outcome a es in (view (memory_of s) (first_shelf s k) (second_shelf s k) k x).1 ≡ b)

  -- after every list of demand 3, with a write cache, that does not end in a cut; of every block open in the plain volume, with every k
  abbrev pub ViewPromiseOf : Type 0
  ViewPromiseOf =
      (a : Start) → accepted (formatted a).reply.answer ≡ true → (es : List Event) → Lawful call_outcome (begin a) es → NoEarlyCut es
      → IsUp (system_after call_outcome a es) → (k x : ℕ) → k ≢ 0 → k ≤ disks (memory_of (system_after call_outcome a es))
      → x < (model_of call_outcome a es).plain.blocks → ShownRight a es k x

-- our view
abbrev pub our_view : (v : Volume) (first second : List ℕ) (k x : ℕ) → ℕ × List ℕ
our_view v first second k x = (view_number (view_answer v (length first) (length second) k x), view_of v first second k x)

abbrev pub ViewPromise : Type 0
ViewPromise = ViewPromiseOf our_view
