-- Views on the worked list: what ours shows, and the programs that break the claim on views.
use Prim.Native.Nat.{ℕ, ◌≤◌, ◌<◌}
use mathlib.Core.Path.{◌≡◌, refl, sym, ap, ◌∙◌}
use mathlib.Core.Bool.{Bool, true, false, false≢true}
use mathlib.Core.List.{List, [], ◌∷◌}
use mathlib.Core.Logic.{inl}
use native.Mathlib.Omega.{arith}
use lib.ListN.{length, length-replicate}
use Rattle.volume.specs.States.{disks}
use Rattle.volume.proofs.Accepted.{read_accepted}
use Rattle.volume.proofs.Judged.{accepted_number}
use Rattle.volume.proofs.Theorems.{volume_laws}
use Rattle.promise.specs.Calls.{read}
use Rattle.promise.specs.Lists.{Event, runs, cut, System, IsUp, memory_of, medium_of, outcome, is_accepted, call_outcome, after, after_all, NoEarlyCut, Lawful}
use Rattle.promise.specs.Promise.{begin, system_after, model_of}
use Rattle.promise.proofs.Theorem.{lawful_before, promise}
use Rattle.medium.specs.Medium.{observe}
use Rattle.shelves.specs.Shown.{ShownRight, ViewPromiseOf, our_view}
use Rattle.shelves.proofs.Shown.{view_promise}
use Rattle.shelves.proofs.Standing.{live_within}
use Rattle.worked.specs.Views.{refuses_view, shows_nothing, ViewsWorked}
use Rattle.worked.specs.Worked.{block_of, worked_start, before_read, worked_events}
use Rattle.worked.proofs.Computing.{computing}
use Rattle.worked.proofs.Worked.{worked}

-- a list whose last event is a call
ends_in_call : (es : List Event) → Bool
ends_in_call [] = false
ends_in_call (runs c ∷ []) = true
ends_in_call (cut c left ∷ []) = false
ends_in_call (e ∷ f ∷ es) = ends_in_call (f ∷ es)

ends_up_law : (s : System) (es : List Event) → ends_in_call es ≡ true → IsUp (after_all call_outcome s es)
unfolding ends_in_call after_all after IsUp
ends_up_law s [] e = absurd (false≢true e)
ends_up_law s (runs c ∷ []) e = tt
ends_up_law s (cut c left ∷ []) e = absurd (false≢true e)
ends_up_law s (e ∷ f ∷ es) h = ends_up_law (after call_outcome s e) (f ∷ es) h

-- ---- the worked list, before its last read

abbrev here : System
here = system_after call_outcome worked_start before_read

is_lawful : Lawful call_outcome (begin worked_start) before_read
unfolding worked_events
is_lawful = lawful_before call_outcome (begin worked_start) before_read (runs (read 0 (block_of 0)) ∷ []) worked.is_lawful

no_early_cut : NoEarlyCut before_read
unfolding computing NoEarlyCut
no_early_cut = inl refl

is_up_law : IsUp here
unfolding system_after ends_in_call computing
is_up_law = ends_up_law (begin worked_start) before_read refl

open_here : 0 < (model_of call_outcome worked_start before_read).plain.blocks
open_here = rw worked.open_after (omega arith)

-- block 0 is read there, so there is a disk
read_well : is_accepted call_outcome (read 0 (block_of 0)) here ≡ true
unfolding worked_events computing
read_well =
    ((promise worked_start worked.is_accepted_law worked_events worked.is_lawful worked.no_early_cut).reads before_read [] 0 (block_of 0) refl open_here
    (length-replicate {A = ℕ} 512 0)).is_accepted_law

some_disk : 1 ≤ disks (memory_of here)
unfolding outcome call_outcome observe
some_disk =
    let passes = sym (volume_laws.read_refuses (memory_of here) 0 (block_of 0) (observe (medium_of here))).number_told ∙ accepted_number _ read_well in
    let f = read_accepted (memory_of here) 0 (length (block_of 0)) (length (medium_of here)) passes in
    let w = live_within (memory_of here) 0 f.is_sound f.block_open in
    omega (arith, w.0)

-- what a program that meets the claim shows
shown : (view : _) → ViewPromiseOf view → ShownRight view worked_start before_read 1 0
shown view p = p worked_start worked.is_accepted_law before_read is_lawful no_early_cut is_up_law 1 0 (λ e. omega (arith, e)) some_disk open_here

-- a part with no bytes is no block
not_a_block : [] ≡ block_of 5 → ⊥
not_a_block e = let none : length {A = ℕ} [] ≡ 512 = ap length e ∙ length-replicate {A = ℕ} 512 5 in omega (arith, none)

pub views_worked : ViewsWorked
views_worked =
    record {
      is_shown = (shown our_view view_promise).is_accepted_law;
      shown_back = (shown our_view view_promise).bytes_shown (block_of 5) worked.block_set;
      accepted_broken = λ p. omega (arith, (shown refuses_view p).is_accepted_law);
      shown_broken = λ p. not_a_block ((shown shows_nothing p).bytes_shown (block_of 5) worked.block_set);
    }
