-- The claim on saves which were flushed: a list that it is about, and programs that break it, each by a list that is computed.
use Prim.Native.Nat.{ℕ}
use mathlib.Core.Path.{◌≡◌, refl, sym, ap, ◌∙◌}
use mathlib.Core.Bool.{Bool, true, false, not, ◌&&◌}
use mathlib.Core.List.{List, [], ◌∷◌}
use mathlib.Core.Logic.{inl}
use mathlib.Core.Option.{none, some}
use lib.Dec.{eqb}
use lib.ListN.{drop, get_or, length-replicate}
use borrow.Author.Tests.{eq-eqb, not-true}
use Rattle.base.proofs.Booleans.{and_left, and_right, clash}
use Rattle.promise.specs.Calls.{Call, write, flushed, Fed, ended}
use Rattle.promise.specs.Lists.{call_outcome, Event, runs, cut, is_accepted, after, after_all, fed, fed_all, IsUp, NoEarlyCut}
use Rattle.promise.specs.Model.{Model, start_model, nothing_pending, model_after}
use Rattle.promise.specs.Promise.{Start, begin, system_after, model_of}
use Rattle.promise.specs.WithoutCache.{flushed_after}
use Rattle.promise.specs.SavesKept.{Saves}
use Rattle.promise.specs.CoveredLists.{no_call}
use Rattle.promise.specs.FlushedSaves.{Spares, AllSpare, saved_and_flushed, GivesPiece, FlushedSavesOf}
use Rattle.promise.proofs.FlushedSaves.{flushed_saves}
use Rattle.promise.proofs.SavesKept.{saves_kept}
use Rattle.promise.proofs.Theorem.{lawful_before}
use Rattle.worked.specs.FlushedSaves.{cut_twice, three_rows, whole_growth, FlushedSavesWorked}
use Rattle.worked.specs.Worked.{block_of, worked_start}
use Rattle.worked.specs.WrongPrograms.{Act, program, refuses_read, writes_nothing, marks_later}
use Rattle.worked.proofs.Computed.{heard_all, computed, fed_same, Tested, tested, accepted_first}
use Rattle.worked.proofs.Computing.{computing}
use Rattle.worked.proofs.Worked.{hear_nothing}
use Rattle.worked.proofs.BrokenReads.{ReadHeard, heard_there, empty_piece, read_test, read_tested}

-- ---- calls that save nothing

-- whether a call saves block x, as a model with nothing pending tells it
unfoldable saves_block : (x : ℕ) (c : Call) → Bool
saves_block x c = (model_after (ended c true) (nothing_pending (start_model 1 1))).written x

spares : (x : ℕ) (c : Call) → saves_block x c ≡ false → Saves c x → ⊥
unfolding saves_block
spares x c e s = clash (saves_kept.save_written c (nothing_pending (start_model 1 1)) x s) e

unfoldable none_saves : (x : ℕ) (es : List Event) → Bool
none_saves x [] = true
none_saves x (runs c ∷ es) = not (saves_block x c) && none_saves x es
none_saves x (cut none left ∷ es) = none_saves x es
none_saves x (cut (some c) left ∷ es) = not (saves_block x c) && none_saves x es

all_spare : (x : ℕ) (es : List Event) → none_saves x es ≡ true → AllSpare x es
unfolding none_saves AllSpare Spares
all_spare x [] e = tt
all_spare x (runs c ∷ es) e = (spares x c (not-true _ (and_left (not (saves_block x c)) _ e)), all_spare x es (and_right (not (saves_block x c)) _ e))
all_spare x (cut none left ∷ es) e = (tt, all_spare x es e)
all_spare x (cut (some c) left ∷ es) e = (spares x c (not-true _ (and_left (not (saves_block x c)) _ e)), all_spare x es (and_right (not (saves_block x c)) _ e))

-- ---- a list with a save that is flushed, computed

abbrev flushed_first : List Event
flushed_first = runs flushed ∷ []

module _ (a : Start) (x : ℕ) (piece : List ℕ) (rest : List Event) where
  abbrev saved_list : List Event
  saved_list = saved_and_flushed flushed_first x piece [] rest

  -- the save is accepted, as a test of a program
  unfoldable save_test : (calls : (c : Call) → Act) → Bool
  save_test calls = accepted_first (drop 1 (computed calls hear_nothing (begin a) saved_list tt).fed)

  -- another piece is read than was saved, by its first byte
  abbrev other_piece : ReadHeard → Model → Bool
  other_piece h k = not (eqb (get_or h.piece 0 0) (get_or piece 0 0))

  abbrev refused : ReadHeard → Model → Bool
  refused h k = not h.was_accepted

  module _ (calls : (c : Call) → Act) where
    save_accepted : save_test calls ≡ true → is_accepted calls (write x piece) (system_after calls a flushed_first) ≡ true
    unfolding save_test accepted_first fed_all fed saved_and_flushed system_after after_all
    save_accepted t = ap (λ (fs : List Fed). accepted_first (drop 1 fs)) (sym (fed_same calls hear_nothing (begin a) saved_list tt)) ∙ t

    -- what a program that meets the claim gives
    gives : (wrong : ReadHeard → Model → Bool) → read_test calls a saved_list [] x wrong ≡ true → save_test calls ≡ true → AllSpare x rest
        → IsUp (system_after calls a saved_list) → FlushedSavesOf calls
        → (wrong (heard_there calls a saved_list [] x) (model_of calls a saved_list) ≡ true) × GivesPiece calls a saved_list x piece (empty_piece a)
    unfolding NoEarlyCut saved_and_flushed heard_all AllSpare
    gives wrong t s spared is_up_law claim =
        let both = read_tested calls a saved_list [] x (λ s h. refl) wrong t in (
          both.1,
          claim a both.0.format_accepted flushed_first x piece [] rest (lawful_before calls (begin a) saved_list _ both.0.lawful) (inl refl) (save_accepted s) no_call tt spared is_up_law
              (empty_piece a) (length-replicate {A = ℕ} a.size 0),
        )

    breaks_accepted : Tested calls (λ p. read_test p a saved_list [] x refused) → Tested calls save_test → AllSpare x rest → IsUp (system_after calls a saved_list) → FlushedSavesOf calls → ⊥
    breaks_accepted t s spared is_up_law claim =
        let both = gives refused (tested calls (λ p. read_test p a saved_list [] x refused) t) (tested calls save_test s) spared is_up_law claim in
        clash both.1.is_accepted_law (not-true _ both.0)

    breaks_bytes : Tested calls (λ p. read_test p a saved_list [] x other_piece) → Tested calls save_test → AllSpare x rest → IsUp (system_after calls a saved_list) → FlushedSavesOf calls → ⊥
    breaks_bytes t s spared is_up_law claim =
        let both = gives other_piece (tested calls (λ p. read_test p a saved_list [] x other_piece) t) (tested calls save_test s) spared is_up_law claim in
        clash (eq-eqb _ _ (ap (λ (l : List ℕ). get_or l 0 0) both.1.bytes_read)) (not-true _ both.0)

-- ---- the programs

unfoldable testing : Unit {0}
unfolding computing read_test program save_test accepted_first saved_and_flushed cut_twice three_rows whole_growth none_saves saves_block
testing = tt

refuses_read_law : FlushedSavesOf refuses_read → ⊥
unfolding testing refuses_read system_after after_all after IsUp AllSpare
refuses_read_law = breaks_accepted worked_start 0 (block_of 5) [] refuses_read (λ v o. refl, refl) (λ v o. refl, refl) tt tt

writes_nothing_law : FlushedSavesOf writes_nothing → ⊥
unfolding testing writes_nothing system_after after_all after IsUp AllSpare
writes_nothing_law = breaks_bytes worked_start 0 (block_of 5) [] writes_nothing (λ v o. refl, refl) (λ v o. refl, refl) tt tt

marks_later_law : FlushedSavesOf marks_later → ⊥
unfolding testing marks_later system_after after_all after IsUp
marks_later_law =
    breaks_bytes three_rows 2 (block_of 1) (flushed_after whole_growth) marks_later (λ v o. refl, refl) (λ v o. refl, refl) (all_spare 2 (flushed_after whole_growth) refl) tt

-- ---- and ours

read_back : GivesPiece call_outcome worked_start (saved_and_flushed flushed_first 0 (block_of 5) [] cut_twice) 0 (block_of 5) (block_of 0)
unfolding testing system_after after_all after IsUp
read_back =
    let any : ReadHeard → Model → Bool = λ h k. true in
    (gives worked_start 0 (block_of 5) cut_twice call_outcome any (tested call_outcome (λ p. read_test p worked_start (saved_list worked_start 0 (block_of 5) cut_twice) [] 0 any) (λ v o. refl, refl))
    (tested call_outcome (save_test worked_start 0 (block_of 5) cut_twice) (λ v o. refl, refl)) (all_spare 0 cut_twice refl) tt flushed_saves).1

pub flushed_saves_worked : FlushedSavesWorked
flushed_saves_worked = record { read_back = read_back; accepted_broken = refuses_read_law; bytes_broken = writes_nothing_law; bytes_broken_later = marks_later_law }
