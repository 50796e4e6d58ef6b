-- The worked list, by computing.
use Prim.Native.Nat.{ℕ}
use mathlib.Core.Bool.{true, false}
use mathlib.Core.List.{List, [], ◌∷◌, ◌++◌}
use mathlib.Core.Logic.{inl}
use mathlib.Core.Option.{none, some}
use mathlib.Core.Path.{◌≡◌, refl, ap, ◌∙◌}
use native.Mathlib.Omega.{arith}
use lib.ListN.{length, take, drop, replicate, length-replicate}
use Rattle.layout.specs.Tally.{is_running, calls_left_of}
use Rattle.volume.specs.Answers.{accepted}
use Rattle.promise.specs.Calls.{grow, copy, advance, write, read, restart, flushed, is_advance, same_record, record_old, Fed, ended, cut_in}
use Rattle.promise.specs.Lists.{Event, IsUp, runs, outcome, call_outcome, after, NoEarlyCut, Lawful, AllFurther, an_advance, a_write, a_read, a_flushed, a_refused, after_all, fed, fed_all, finished_told}
use Rattle.promise.specs.Model.{Model}
use Rattle.promise.specs.Promise.{Finishing, formatted, begin, system_after, model_of}
use Rattle.promise.proofs.Theorem.{lawful_before, promise}
use Rattle.worked.specs.Worked.{block_of, worked_start, first_events, copied_events, further_events, finished_events, taken_back, before_read, worked_events, WorkedFacts}
use Rattle.worked.proofs.FasterCalls.{faster, OurRestart}
use Rattle.worked.proofs.Computed.{Hearing, computed, lawful_result, Facts, faster_facts, fed_before, fed_after, model_fed, model_fed_law, accepted_first}
use Rattle.worked.proofs.Computing.{computing}
use Rattle.worked.proofs.Running.{left_fed, left_told, finishing_of, advances_fed, tellings_fed}

pub is_accepted_law : accepted (formatted worked_start).reply.answer ≡ true
unfolding computing
is_accepted_law = refl

no_early_cut : NoEarlyCut worked_events
unfolding computing NoEarlyCut
no_early_cut = inl refl

pub our_restart : OurRestart call_outcome
unfolding call_outcome
our_restart v o = refl

-- of these lists nothing is heard
abbrev pub hear_nothing : Hearing (Unit {0})
hear_nothing c m out before = tt

-- ---- what plain volume and tally are fed

abbrev pub first_fed : List Fed
first_fed =
    ended flushed true
    ∷ ended (write 0 (block_of 1)) true
    ∷ ended (write 0 (block_of 2)) true
    ∷ cut_in none same_record
    ∷ ended restart true
    ∷ ended (write 0 (block_of 3)) true
    ∷ ended flushed true
    ∷ ended (grow 2) true
    ∷ ended (write 0 (block_of 4)) false
    ∷ cut_in none record_old
    ∷ ended restart true
    ∷ ended (grow 2) true
    ∷ ended flushed true
    ∷ []

abbrev further_fed : List Fed
further_fed =
    ended (write 0 (block_of 5)) true
    ∷ ended flushed true
    ∷ ended advance true
    ∷ ended (read 0 (block_of 0)) true
    ∷ ended (grow 4) false
    ∷ ended (copy 0) false
    ∷ ended advance false
    ∷ ended flushed true
    ∷ ended advance true
    ∷ []

abbrev finished_fed : List Fed
finished_fed = first_fed ++ further_fed

abbrev all_fed : List Fed
all_fed = finished_fed ++ (cut_in none record_old ∷ ended restart true ∷ [])

abbrev worked_fed : List Fed
worked_fed = all_fed ++ (ended (read 0 (block_of 0)) true ∷ [])

worked_computed : computed (faster call_outcome) hear_nothing (begin worked_start) worked_events tt ≡ lawful_result worked_fed tt
unfolding computing
worked_computed = refl

worked_facts : Facts call_outcome hear_nothing (begin worked_start) worked_events tt worked_fed tt
worked_facts = faster_facts call_outcome hear_nothing (begin worked_start) worked_events tt worked_fed tt our_restart worked_computed

-- and of the first events
all_fed_law : fed_all call_outcome (begin worked_start) before_read ≡ all_fed
unfolding worked_events before_read finished_events first_events further_events copied_events taken_back
all_fed_law = fed_before call_outcome (begin worked_start) before_read (runs (read 0 (block_of 0)) ∷ []) ∙ ap (take 24) worked_facts.all_fed_law

finished_fed_law : fed_all call_outcome (begin worked_start) finished_events ≡ finished_fed
unfolding before_read finished_events first_events further_events copied_events
finished_fed_law = fed_before call_outcome (begin worked_start) finished_events taken_back ∙ ap (take 22) all_fed_law

first_fed_law : fed_all call_outcome (begin worked_start) first_events ≡ first_fed
unfolding finished_events first_events
first_fed_law = fed_before call_outcome (begin worked_start) first_events further_events ∙ ap (take 13) finished_fed_law

first_open : (model_fed worked_start first_fed).plain.blocks ≡ 1
unfolding computing
first_open = refl

first_left : calls_left_of (model_fed worked_start first_fed).tally ≡ 2
unfolding computing
first_left = refl

pub first_runs : is_running (model_fed worked_start first_fed).tally.mode ≡ true
unfolding computing
first_runs = refl

finished_open : (model_fed worked_start finished_fed).plain.blocks ≡ 2
unfolding computing
finished_open = refl

finished_unset : (model_fed worked_start finished_fed).plain.bytes 1 ≡ none
unfolding computing
finished_unset = refl

last_open : (model_fed worked_start all_fed).plain.blocks ≡ 1
unfolding computing
last_open = refl

last_runs : is_running (model_fed worked_start all_fed).tally.mode ≡ true
unfolding computing
last_runs = refl

last_set : (model_fed worked_start all_fed).plain.bytes 0 ≡ some (block_of 5)
unfolding computing
last_set = refl

-- ---- what the promise says of it

pub first_model : model_of call_outcome worked_start first_events ≡ model_fed worked_start first_fed
first_model = model_fed_law call_outcome worked_start first_events first_fed first_fed_law

finished_model : model_of call_outcome worked_start finished_events ≡ model_fed worked_start finished_fed
finished_model = model_fed_law call_outcome worked_start finished_events finished_fed finished_fed_law

last_model : model_of call_outcome worked_start before_read ≡ model_fed worked_start all_fed
last_model = model_fed_law call_outcome worked_start before_read all_fed all_fed_law

-- lists that begin the worked one are lawful
read_follows : worked_events ≡ before_read ++ (runs (read 0 (block_of 0)) ∷ [])
unfolding worked_events
read_follows = refl

pub first_lawful : Lawful call_outcome (begin worked_start) first_events
unfolding worked_events before_read finished_events
first_lawful =
    lawful_before call_outcome (begin worked_start) first_events further_events
    (lawful_before call_outcome (begin worked_start) (first_events ++ further_events) taken_back
    (lawful_before call_outcome (begin worked_start) ((first_events ++ further_events) ++ taken_back) (runs (read 0 (block_of 0)) ∷ []) worked_facts.lawful))

pub first_early : NoEarlyCut first_events
unfolding NoEarlyCut first_events
first_early = inl refl

pub first_up : IsUp (system_after call_outcome worked_start first_events)
unfolding system_after after_all after IsUp first_events
first_up = tt

-- ---- further calls

further_fed_law : fed_all call_outcome (system_after call_outcome worked_start first_events) further_events ≡ further_fed
unfolding system_after finished_events first_events
further_fed_law = fed_after call_outcome (begin worked_start) first_events further_events ∙ ap (drop 13) finished_fed_law

copied_fed_law : fed_all call_outcome (system_after call_outcome worked_start first_events) copied_events ≡ take 4 further_fed
unfolding further_events copied_events
copied_fed_law = fed_before call_outcome (system_after call_outcome worked_start first_events) copied_events _ ∙ ap (take 4) further_fed_law

-- with two calls left
finishing_two : (further : List Event) → AllFurther call_outcome (system_after call_outcome worked_start first_events) further
    → Finishing call_outcome worked_start first_events further 2
finishing_two = finishing_of worked_start is_accepted_law first_events first_lawful first_early first_up first_fed first_fed_law first_runs 2 first_left

all_further : AllFurther call_outcome (system_after call_outcome worked_start first_events) further_events
unfolding further_events copied_events AllFurther fed_all fed accepted_first
all_further =
    let refused : (n : ℕ) → accepted_first (drop n (fed_all call_outcome (system_after call_outcome worked_start first_events) further_events)) ≡ accepted_first (drop n further_fed) =
    λ n. ap (λ (fs : List Fed). accepted_first (drop n fs)) further_fed_law in
    (a_write, (a_flushed, (an_advance, (a_read, (a_refused (refused 4), (a_refused (refused 5), (an_advance, (a_flushed, (an_advance, tt)))))))))

copied_further : AllFurther call_outcome (system_after call_outcome worked_start first_events) copied_events
unfolding copied_events AllFurther
copied_further = (a_write, (a_flushed, (an_advance, (a_read, tt))))

finishing : Finishing call_outcome worked_start first_events further_events 2
finishing = finishing_two further_events all_further

copied_finishing : Finishing call_outcome worked_start first_events copied_events 2
copied_finishing = finishing_two copied_events copied_further

two_advances : length (finished_told call_outcome (system_after call_outcome worked_start first_events) further_events) ≡ 2
unfolding is_advance advances_fed
two_advances = tellings_fed (system_after call_outcome worked_start first_events) further_events ∙ ap advances_fed further_fed_law

one_advance : length (finished_told call_outcome (system_after call_outcome worked_start first_events) copied_events) ≡ 1
unfolding is_advance advances_fed
one_advance = tellings_fed (system_after call_outcome worked_start first_events) copied_events ∙ ap advances_fed copied_fed_law

-- ---- the last read

block_set : (model_of call_outcome worked_start before_read).plain.bytes 0 ≡ some (block_of 5)
block_set = ap (λ (k : Model). k.plain.bytes 0) last_model ∙ last_set

open_after : (model_of call_outcome worked_start before_read).plain.blocks ≡ 1
open_after = ap (λ (k : Model). k.plain.blocks) last_model ∙ last_open

read_back : (outcome call_outcome (read 0 (block_of 0)) (system_after call_outcome worked_start before_read)).piece ≡ block_of 5
unfolding worked_start
read_back =
    ((promise worked_start is_accepted_law worked_events worked_facts.lawful no_early_cut
    ).reads before_read [] 0 (block_of 0) read_follows (rw open_after (omega arith)) (length-replicate {A = ℕ} 512 0)).bytes_read (block_of 5) block_set

pub worked : WorkedFacts
worked =
    record {
      is_accepted_law = is_accepted_law;
      is_lawful = worked_facts.lawful;
      no_early_cut = no_early_cut;
      open_before = ap (λ (k : Model). k.plain.blocks) first_model ∙ first_open;
      calls_left_law = left_fed worked_start first_events first_fed first_fed_law 2 first_left;
      calls_told = left_told worked_start is_accepted_law first_events first_lawful first_early first_up first_fed first_fed_law first_runs 2 first_left;
      all_further = all_further;
      further_fed_law = further_fed_law;
      finishing = finishing;
      finished = finishing.finished two_advances;
      told = finishing.last_told two_advances;
      copied_finishing = copied_finishing;
      still_runs = copied_finishing.still_runs (rw one_advance (omega arith));
      none_told = copied_finishing.none_told (rw one_advance (omega arith)) ∙ ap (λ (n : ℕ). replicate n false) one_advance;
      open_finished = ap (λ (k : Model). k.plain.blocks) finished_model ∙ finished_open;
      added_unset = ap (λ (k : Model). k.plain.bytes 1) finished_model ∙ finished_unset;
      runs_again = ap (λ (k : Model). is_running k.tally.mode) last_model ∙ last_runs;
      open_after = open_after;
      block_set = block_set;
      read_back = read_back;
    }
