-- The worked lists with a growth beyond doubling, by computing.
use Prim.Native.Nat.{ℕ}
use mathlib.Core.Bool.{Bool, true, false}
use mathlib.Core.List.{List, [], ◌∷◌, ◌++◌}
use mathlib.Core.Logic.{inl}
use mathlib.Core.Option.{none, some}
use mathlib.Core.Path.{◌≡◌, refl, sym, ap, ◌∙◌}
use native.Mathlib.Omega.{arith}
use lib.ListN.{length, take, drop, length-replicate}
use Rattle.layout.specs.Tally.{is_running, calls_left_of}
use Rattle.volume.specs.Answers.{number, accepted}
use Rattle.promise.specs.Calls.{Call, grow, grow_beyond_doubling, advance, write, read, restart, flushed, is_advance, record_new, Fed, ended, cut_in}
use Rattle.promise.specs.Lists.{Event, IsUp, runs, outcome, call_outcome, after, NoEarlyCut, Lawful, AllFurther, an_advance, a_flushed, after_all, fed_all, finished_told}
use Rattle.promise.specs.Model.{Model}
use Rattle.promise.specs.Promise.{Start, Finishing, formatted, begin, system_after, model_of}
use Rattle.promise.specs.WithoutCache.{ends, flushed_after, from_format, system_without, model_without, advances_told, DirectFurther, DirectFinishing}
use Rattle.promise.specs.WithoutCache as direct
use Rattle.promise.proofs.Theorem.{lawful_before, promise}
use Rattle.promise.proofs.WithoutCache.{promise_without_cache}
use Rattle.worked.specs.Worked.{block_of}
use Rattle.worked.specs.BeyondDoubling.{one_disk, saved_events, running_events, finishing_events, rested_events, grown_events, beyond_events, BeyondDoublingFacts, running_direct, finishing_direct, finished_direct, beyond_direct, BeyondWithoutCacheFacts}
use Rattle.worked.proofs.FasterCalls.{faster}
use Rattle.worked.proofs.Computed.{Hearing, heard_all, computed, lawful_result, Facts, faster_facts, heard_both, fed_before, fed_after, model_fed, model_fed_law}
use Rattle.worked.proofs.Computing.{computing}
use Rattle.worked.proofs.Running.{left_told, finishing_of, direct_left_told, direct_finishing, advances_fed, tellings_fed}
use Rattle.worked.proofs.Worked.{our_restart}

is_accepted_law : accepted (formatted one_disk).reply.answer ≡ true
unfolding computing
is_accepted_law = refl

-- ---- what plain volume and tally are fed, and the number that the last call told

abbrev hear_number : Hearing ℕ
hear_number c m out before = number out.reply.answer

abbrev saved_fed : List Fed
saved_fed = ended flushed true ∷ ended (write 0 (block_of 1)) true ∷ ended (write 1 (block_of 2)) true ∷ ended flushed true ∷ []

abbrev running_fed : List Fed
running_fed = saved_fed ++ (ended (grow 3) false ∷ cut_in (some (grow_beyond_doubling 3)) record_new ∷ ended restart true ∷ [])

abbrev three_fed : List Fed
three_fed = ended advance true ∷ ended advance true ∷ ended flushed true ∷ ended advance true ∷ []

abbrev rested_fed : List Fed
rested_fed = (running_fed ++ three_fed) ++ (ended flushed true ∷ ended restart true ∷ [])

abbrev grown_fed : List Fed
grown_fed = rested_fed ++ (ended (grow 7) false ∷ ended (grow 6) true ∷ [])

abbrev beyond_fed : List Fed
beyond_fed = grown_fed ++ (ended (read 1 (block_of 0)) true ∷ [])

beyond_computed : computed (faster call_outcome) hear_number (begin one_disk) beyond_events 0 ≡ lawful_result beyond_fed 0
unfolding computing
beyond_computed = refl

beyond_facts : Facts call_outcome hear_number (begin one_disk) beyond_events 0 beyond_fed 0
beyond_facts = faster_facts call_outcome hear_number (begin one_disk) beyond_events 0 beyond_fed 0 our_restart beyond_computed

-- of a call after a list
number_told : (a : Start) (es : List Event) (c : Call) (fs : List Fed) (k : ℕ)
    → computed (faster call_outcome) hear_number (begin a) (es ++ (runs c ∷ [])) 0 ≡ lawful_result fs k
    → number (outcome call_outcome c (system_after call_outcome a es)).reply.answer ≡ k
unfolding system_after heard_all
number_told a es c fs k e =
    sym (heard_both call_outcome hear_number (begin a) es (runs c ∷ []) 0)
    ∙ (faster_facts call_outcome hear_number (begin a) (es ++ (runs c ∷ [])) 0 fs k our_restart e).all_heard

refused_computed : computed (faster call_outcome) hear_number (begin one_disk) (saved_events ++ (runs (grow 3) ∷ [])) 0
    ≡ lawful_result (saved_fed ++ (ended (grow 3) false ∷ [])) 20
unfolding computing
refused_computed = refl

again_computed : computed (faster call_outcome) hear_number (begin one_disk) (rested_events ++ (runs (grow 7) ∷ [])) 0
    ≡ lawful_result (rested_fed ++ (ended (grow 7) false ∷ [])) 20
unfolding computing
again_computed = refl

-- and of the first events
grown_fed_law : fed_all call_outcome (begin one_disk) grown_events ≡ grown_fed
unfolding beyond_events grown_events rested_events running_events saved_events finishing_events
grown_fed_law = fed_before call_outcome (begin one_disk) grown_events (runs (read 1 (block_of 0)) ∷ []) ∙ ap (take 15) beyond_facts.all_fed_law

rested_fed_law : fed_all call_outcome (begin one_disk) rested_events ≡ rested_fed
unfolding grown_events rested_events running_events saved_events finishing_events
rested_fed_law = fed_before call_outcome (begin one_disk) rested_events (runs (grow 7) ∷ runs (grow 6) ∷ []) ∙ ap (take 13) grown_fed_law

three_fed_law : fed_all call_outcome (begin one_disk) (running_events ++ finishing_events) ≡ running_fed ++ three_fed
unfolding rested_events running_events saved_events finishing_events
three_fed_law = fed_before call_outcome (begin one_disk) (running_events ++ finishing_events) (runs flushed ∷ runs restart ∷ []) ∙ ap (take 11) rested_fed_law

running_fed_law : fed_all call_outcome (begin one_disk) running_events ≡ running_fed
unfolding running_events saved_events
running_fed_law = fed_before call_outcome (begin one_disk) running_events finishing_events ∙ ap (take 7) three_fed_law

-- ---- plain volume and tally

-- whether a growth runs, how many blocks are open, how many calls are left
abbrev stage : (k : Model) → Bool × ℕ × ℕ
stage k = (is_running k.tally.mode, k.plain.blocks, calls_left_of k.tally)

running_stage : stage (model_fed one_disk running_fed) ≡ (true, 2, 3)
unfolding computing
running_stage = refl

rested_stage : stage (model_fed one_disk rested_fed) ≡ (false, 6, 0)
unfolding computing
rested_stage = refl

rested_unset : (model_fed one_disk rested_fed).plain.bytes 2 ≡ none
unfolding computing
rested_unset = refl

grown_stage : stage (model_fed one_disk grown_fed) ≡ (true, 6, 4)
unfolding computing
grown_stage = refl

grown_set : (model_fed one_disk grown_fed).plain.bytes 1 ≡ some (block_of 2)
unfolding computing
grown_set = refl

-- and after the events
stage_after : (es : List Event) (fs : List Fed) (known : Bool × ℕ × ℕ) → fed_all call_outcome (begin one_disk) es ≡ fs
    → stage (model_fed one_disk fs) ≡ known → stage (model_of call_outcome one_disk es) ≡ known
stage_after es fs known e k = ap stage (model_fed_law call_outcome one_disk es fs e) ∙ k

running_after : stage (model_of call_outcome one_disk running_events) ≡ (true, 2, 3)
running_after = stage_after running_events running_fed (true, 2, 3) running_fed_law running_stage

rested_after : stage (model_of call_outcome one_disk rested_events) ≡ (false, 6, 0)
rested_after = stage_after rested_events rested_fed (false, 6, 0) rested_fed_law rested_stage

grown_after : stage (model_of call_outcome one_disk grown_events) ≡ (true, 6, 4)
grown_after = stage_after grown_events grown_fed (true, 6, 4) grown_fed_law grown_stage

-- its three parts
runs_of : {a b : Bool × ℕ × ℕ} → a ≡ b → a.0 ≡ b.0
runs_of e = ap (λ (t : Bool × ℕ × ℕ). t.0) e

open_of : {a b : Bool × ℕ × ℕ} → a ≡ b → a.1 ≡ b.1
open_of e = ap (λ (t : Bool × ℕ × ℕ). t.1) e

left_of : {a b : Bool × ℕ × ℕ} → a ≡ b → a.2 ≡ b.2
left_of e = ap (λ (t : Bool × ℕ × ℕ). t.2) e

-- ---- what the promise says of it

no_early_cut : NoEarlyCut beyond_events
unfolding NoEarlyCut beyond_events grown_events rested_events running_events saved_events
no_early_cut = inl refl

grown_early : NoEarlyCut grown_events
unfolding NoEarlyCut grown_events rested_events running_events saved_events
grown_early = inl refl

running_early : NoEarlyCut running_events
unfolding NoEarlyCut running_events saved_events
running_early = inl refl

grown_lawful : Lawful call_outcome (begin one_disk) grown_events
unfolding beyond_events
grown_lawful = lawful_before call_outcome (begin one_disk) grown_events (runs (read 1 (block_of 0)) ∷ []) beyond_facts.lawful

running_lawful : Lawful call_outcome (begin one_disk) running_events
unfolding grown_events rested_events
running_lawful =
    lawful_before call_outcome (begin one_disk) running_events finishing_events
    (lawful_before call_outcome (begin one_disk) (running_events ++ finishing_events) (runs flushed ∷ runs restart ∷ [])
    (lawful_before call_outcome (begin one_disk) ((running_events ++ finishing_events) ++ (runs flushed ∷ runs restart ∷ [])) (runs (grow 7) ∷ runs (grow 6) ∷ []) grown_lawful))

running_up : IsUp (system_after call_outcome one_disk running_events)
unfolding system_after after_all after IsUp running_events saved_events
running_up = tt

grown_up : IsUp (system_after call_outcome one_disk grown_events)
unfolding system_after after_all after IsUp grown_events rested_events running_events saved_events finishing_events
grown_up = tt

three_further : AllFurther call_outcome (system_after call_outcome one_disk running_events) finishing_events
unfolding finishing_events AllFurther
three_further = (an_advance, (an_advance, (a_flushed, (an_advance, tt))))

finishing : Finishing call_outcome one_disk running_events finishing_events 3
finishing =
    finishing_of one_disk is_accepted_law running_events running_lawful running_early running_up running_fed running_fed_law (runs_of running_stage) 3
    (left_of running_stage) finishing_events three_further

three_told : length (finished_told call_outcome (system_after call_outcome one_disk running_events) finishing_events) ≡ 3
unfolding system_after is_advance advances_fed running_events saved_events
three_told =
    tellings_fed (system_after call_outcome one_disk running_events) finishing_events
    ∙ ap advances_fed (fed_after call_outcome (begin one_disk) running_events finishing_events ∙ ap (drop 7) three_fed_law)

block_set : (model_of call_outcome one_disk grown_events).plain.bytes 1 ≡ some (block_of 2)
block_set = ap (λ (k : Model). k.plain.bytes 1) (model_fed_law call_outcome one_disk grown_events grown_fed grown_fed_law) ∙ grown_set

read_follows : beyond_events ≡ grown_events ++ (runs (read 1 (block_of 0)) ∷ [])
unfolding beyond_events
read_follows = refl

read_back : (outcome call_outcome (read 1 (block_of 0)) (system_after call_outcome one_disk grown_events)).piece ≡ block_of 2
unfolding one_disk
read_back =
    ((promise one_disk is_accepted_law beyond_events beyond_facts.lawful no_early_cut
    ).reads grown_events [] 1 (block_of 0) read_follows (rw (open_of grown_after) (omega arith)) (length-replicate {A = ℕ} 512 0)).bytes_read (block_of 2) block_set

pub beyond_doubling : BeyondDoublingFacts
beyond_doubling =
    record {
      is_accepted_law = is_accepted_law;
      is_lawful = beyond_facts.lawful;
      no_early_cut = no_early_cut;
      refused_beyond = number_told one_disk saved_events (grow 3) _ 20 refused_computed;
      runs_on = runs_of running_after;
      open_running = open_of running_after;
      calls_left_law = left_of running_after;
      calls_told =
          left_told one_disk is_accepted_law running_events running_lawful running_early running_up running_fed running_fed_law (runs_of running_stage) 3
          (left_of running_stage);
      all_further = three_further;
      finishing = finishing;
      told = finishing.last_told three_told;
      finished = runs_of rested_after;
      open_finished = open_of rested_after;
      added_unset = ap (λ (k : Model). k.plain.bytes 2) (model_fed_law call_outcome one_disk rested_events rested_fed rested_fed_law) ∙ rested_unset;
      refused_again = number_told one_disk rested_events (grow 7) _ 20 again_computed;
      runs_again = runs_of grown_after;
      calls_left_again = left_of grown_after;
      calls_told_again =
          left_told one_disk is_accepted_law grown_events grown_lawful grown_early grown_up grown_fed grown_fed_law (runs_of grown_stage) 4 (left_of grown_stage);
      block_set = block_set;
      read_back = read_back;
    }

-- ---- on drives that keep no store

abbrev running_direct_fed : List Fed
running_direct_fed =
    ended flushed true
    ∷ ended (write 0 (block_of 1)) true
    ∷ ended flushed true
    ∷ ended (write 1 (block_of 2)) true
    ∷ ended flushed true
    ∷ ended (grow 3) false
    ∷ ended flushed true
    ∷ cut_in (some (grow_beyond_doubling 3)) record_new
    ∷ ended restart true
    ∷ ended flushed true
    ∷ []

abbrev advance_fed : List Fed
advance_fed = ended advance true ∷ ended flushed true ∷ []

abbrev finished_direct_fed : List Fed
finished_direct_fed = running_direct_fed ++ (advance_fed ++ advance_fed ++ advance_fed)

direct_computed : computed (faster call_outcome) hear_number (begin one_disk) (from_format beyond_direct) 0
    ≡ lawful_result (finished_direct_fed ++ (ended (read 1 (block_of 0)) true ∷ ended flushed true ∷ [])) 0
unfolding computing
direct_computed = refl

direct_facts : Facts call_outcome hear_number (begin one_disk) (from_format beyond_direct) 0
    (finished_direct_fed ++ (ended (read 1 (block_of 0)) true ∷ ended flushed true ∷ [])) 0
direct_facts = faster_facts call_outcome hear_number (begin one_disk) (from_format beyond_direct) 0 _ 0 our_restart direct_computed

finished_direct_fed_law : fed_all call_outcome (begin one_disk) (from_format finished_direct) ≡ finished_direct_fed
unfolding from_format flushed_after beyond_direct finished_direct running_direct finishing_direct
finished_direct_fed_law =
    fed_before call_outcome (begin one_disk) (from_format finished_direct) (flushed_after (ends (read 1 (block_of 0)) ∷ [])) ∙ ap (take 16) direct_facts.all_fed_law

running_direct_fed_law : fed_all call_outcome (begin one_disk) (from_format running_direct) ≡ running_direct_fed
unfolding from_format flushed_after finished_direct running_direct finishing_direct
running_direct_fed_law = fed_before call_outcome (begin one_disk) (from_format running_direct) (flushed_after finishing_direct) ∙ ap (take 10) finished_direct_fed_law

running_direct_stage : stage (model_fed one_disk running_direct_fed) ≡ (true, 2, 3)
unfolding computing
running_direct_stage = refl

finished_direct_stage : stage (model_fed one_disk finished_direct_fed) ≡ (false, 6, 0)
unfolding computing
finished_direct_stage = refl

direct_set : (model_fed one_disk finished_direct_fed).plain.bytes 1 ≡ some (block_of 2)
unfolding computing
direct_set = refl

running_direct_after : stage (model_without call_outcome one_disk running_direct) ≡ (true, 2, 3)
running_direct_after = stage_after (from_format running_direct) running_direct_fed (true, 2, 3) running_direct_fed_law running_direct_stage

finished_direct_after : stage (model_without call_outcome one_disk finished_direct) ≡ (false, 6, 0)
finished_direct_after = stage_after (from_format finished_direct) finished_direct_fed (false, 6, 0) finished_direct_fed_law finished_direct_stage

running_direct_lawful : Lawful call_outcome (begin one_disk) (from_format running_direct)
unfolding from_format flushed_after beyond_direct finished_direct running_direct finishing_direct
running_direct_lawful =
    lawful_before call_outcome (begin one_disk) (from_format running_direct) (flushed_after (finishing_direct ++ (ends (read 1 (block_of 0)) ∷ []))) direct_facts.lawful

running_direct_up : IsUp (system_without call_outcome one_disk running_direct)
unfolding system_after after_all after IsUp from_format flushed_after running_direct
running_direct_up = tt

direct_further : DirectFurther finishing_direct
unfolding finishing_direct
direct_further = direct.an_advance (direct.an_advance (direct.an_advance direct.no_call))

three_direct : DirectFinishing call_outcome one_disk running_direct finishing_direct 3
three_direct =
    direct_finishing one_disk is_accepted_law running_direct running_direct_lawful running_direct_up running_direct_fed running_direct_fed_law
    (runs_of running_direct_stage) 3 (left_of running_direct_stage) finishing_direct direct_further

three_direct_told : length (advances_told call_outcome (system_without call_outcome one_disk running_direct) finishing_direct) ≡ 3
unfolding finishing_direct advances_told is_advance
three_direct_told = refl

direct_block_set : (model_without call_outcome one_disk finished_direct).plain.bytes 1 ≡ some (block_of 2)
direct_block_set =
    ap (λ (k : Model). k.plain.bytes 1) (model_fed_law call_outcome one_disk (from_format finished_direct) finished_direct_fed finished_direct_fed_law) ∙ direct_set

direct_read_follows : beyond_direct ≡ finished_direct ++ (ends (read 1 (block_of 0)) ∷ [])
unfolding beyond_direct
direct_read_follows = refl

direct_read_back : (outcome call_outcome (read 1 (block_of 0)) (system_without call_outcome one_disk finished_direct)).piece ≡ block_of 2
unfolding one_disk
direct_read_back =
    ((promise_without_cache one_disk is_accepted_law beyond_direct direct_facts.lawful
    ).reads finished_direct [] 1 (block_of 0) direct_read_follows (rw (open_of finished_direct_after) (omega arith)) (length-replicate {A = ℕ} 512 0)
    ).bytes_read (block_of 2) direct_block_set

pub beyond_without_cache : BeyondWithoutCacheFacts
beyond_without_cache =
    record {
      is_lawful = direct_facts.lawful;
      runs_on = runs_of running_direct_after;
      calls_left_law = left_of running_direct_after;
      calls_told =
          direct_left_told one_disk is_accepted_law running_direct running_direct_lawful running_direct_up running_direct_fed running_direct_fed_law
          (runs_of running_direct_stage) 3 (left_of running_direct_stage);
      all_further = direct_further;
      finishing = three_direct;
      told = three_direct.last_told three_direct_told;
      finished = runs_of finished_direct_after;
      open_finished = open_of finished_direct_after;
      block_set = direct_block_set;
      read_back = direct_read_back;
    }
