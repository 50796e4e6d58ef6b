-- The worked list for drives that keep no store, by computing.
use Prim.Native.Nat.{ℕ}
use mathlib.Core.Bool.{true, false}
use mathlib.Core.List.{List, [], ◌∷◌, ◌++◌}
use mathlib.Core.Option.{none, some}
use mathlib.Core.Path.{◌≡◌, refl, ap, ◌∙◌}
use native.Mathlib.Omega.{arith}
use lib.ListN.{length, take, drop, replicate, length-replicate}
use Rattle.layout.specs.Tally.{is_running, calls_left_of}
use Rattle.promise.specs.Calls.{grow, copy, checkpoint, advance, write, read, restart, flushed, is_advance, same_record, record_old, record_new, Fed, ended, cut_in}
use Rattle.promise.specs.Lists.{call_outcome, after, after_all, IsUp, outcome, Lawful, fed_all}
use Rattle.promise.specs.Model.{Model}
use Rattle.promise.specs.Promise.{begin, system_after}
use Rattle.promise.specs.WithoutCache.{DirectEvent, ends, flushed_after, from_format, system_without, model_without, DirectFurther, no_call, an_advance, a_write, a_read, advances_told, DirectFinishing}
use Rattle.promise.proofs.Theorem.{lawful_before}
use Rattle.promise.proofs.WithoutCache.{promise_without_cache}
use Rattle.worked.specs.Worked.{block_of, worked_start}
use Rattle.worked.specs.WorkedWithoutCache.{first_direct, cut_direct, before_further, copied_direct, further_direct, cut_advance, direct_before_read, direct_events, WithoutCacheFacts}
use Rattle.worked.proofs.FasterCalls.{faster}
use Rattle.worked.proofs.Computed.{computed, lawful_result, Facts, faster_facts, fed_before, fed_after, model_fed, model_fed_law}
use Rattle.worked.proofs.Computing.{computing}
use Rattle.worked.proofs.Running.{left_fed, direct_left_told, direct_finishing}
use Rattle.worked.proofs.Worked.{is_accepted_law, our_restart, hear_nothing}

-- ---- what plain volume and tally are fed

abbrev first_fed : List Fed
first_fed =
    ended flushed true
    ∷ ended (write 0 (block_of 1)) true
    ∷ ended flushed true
    ∷ cut_in (some (write 0 (block_of 2))) same_record
    ∷ ended restart true
    ∷ ended flushed true
    ∷ ended (write 0 (block_of 3)) true
    ∷ ended flushed true
    ∷ cut_in (some (grow 2)) record_new
    ∷ ended restart true
    ∷ ended flushed true
    ∷ []

abbrev cut_fed : List Fed
cut_fed =
    cut_in (some (copy 0)) same_record
    ∷ ended restart true
    ∷ ended flushed true
    ∷ ended (copy 0) true
    ∷ ended flushed true
    ∷ ended (write 0 (block_of 4)) false
    ∷ ended flushed true
    ∷ cut_in (some checkpoint) record_old
    ∷ ended restart true
    ∷ ended flushed true
    ∷ []

abbrev copied_fed : List Fed
copied_fed =
    ended (write 0 (block_of 5)) true
    ∷ ended flushed true
    ∷ ended advance true
    ∷ ended flushed true
    ∷ ended (read 0 (block_of 0)) true
    ∷ ended flushed true
    ∷ []

abbrev last_fed : List Fed
last_fed = first_fed ++ cut_fed ++ copied_fed ++ (cut_in (some advance) record_new ∷ ended restart true ∷ ended flushed true ∷ [])

abbrev direct_fed : List Fed
direct_fed = last_fed ++ (ended (read 0 (block_of 0)) true ∷ ended flushed true ∷ [])

direct_computed : computed (faster call_outcome) hear_nothing (begin worked_start) (from_format direct_events) tt ≡ lawful_result direct_fed tt
unfolding computing
direct_computed = refl

direct_facts : Facts call_outcome hear_nothing (begin worked_start) (from_format direct_events) tt direct_fed tt
direct_facts = faster_facts call_outcome hear_nothing (begin worked_start) (from_format direct_events) tt direct_fed tt our_restart direct_computed

-- and of the first events
all_fed_law : fed_all call_outcome (begin worked_start) (from_format direct_before_read) ≡ last_fed
unfolding from_format flushed_after direct_events direct_before_read before_further copied_direct cut_advance first_direct cut_direct
all_fed_law =
    fed_before call_outcome (begin worked_start) (from_format direct_before_read) (flushed_after (ends (read 0 (block_of 0)) ∷ []))
    ∙ ap (take 30) direct_facts.all_fed_law

further_fed_law : fed_all call_outcome (begin worked_start) (from_format before_further ++ flushed_after copied_direct) ≡ first_fed ++ cut_fed ++ copied_fed
unfolding from_format flushed_after direct_before_read before_further copied_direct cut_advance first_direct cut_direct
further_fed_law = fed_before call_outcome (begin worked_start) (from_format before_further ++ flushed_after copied_direct) (flushed_after cut_advance) ∙ ap (take 27) all_fed_law

before_fed : fed_all call_outcome (begin worked_start) (from_format before_further) ≡ first_fed ++ cut_fed
unfolding from_format flushed_after before_further first_direct cut_direct
before_fed = fed_before call_outcome (begin worked_start) (from_format before_further) (flushed_after copied_direct) ∙ ap (take 21) further_fed_law

copied_fed_law : fed_all call_outcome (system_without call_outcome worked_start before_further) (flushed_after copied_direct) ≡ copied_fed
unfolding system_after from_format flushed_after before_further first_direct cut_direct
copied_fed_law = fed_after call_outcome (begin worked_start) (from_format before_further) (flushed_after copied_direct) ∙ ap (drop 21) further_fed_law

first_fed_law : fed_all call_outcome (begin worked_start) (from_format first_direct) ≡ first_fed
unfolding from_format flushed_after before_further first_direct cut_direct
first_fed_law = fed_before call_outcome (begin worked_start) (from_format first_direct) (flushed_after cut_direct) ∙ ap (take 11) before_fed

first_open : (model_fed worked_start first_fed).plain.blocks ≡ 1
unfolding computing
first_open = refl

first_left : calls_left_of (model_fed worked_start first_fed).tally ≡ 2
unfolding computing
first_left = refl

first_runs : is_running (model_fed worked_start first_fed).tally.mode ≡ true
unfolding computing
first_runs = refl

before_left : calls_left_of (model_fed worked_start (first_fed ++ cut_fed)).tally ≡ 2
unfolding computing
before_left = refl

before_runs : is_running (model_fed worked_start (first_fed ++ cut_fed)).tally.mode ≡ true
unfolding computing
before_runs = refl

last_open : (model_fed worked_start last_fed).plain.blocks ≡ 2
unfolding computing
last_open = refl

last_set : (model_fed worked_start last_fed).plain.bytes 0 ≡ some (block_of 5)
unfolding computing
last_set = refl

last_unset : (model_fed worked_start last_fed).plain.bytes 1 ≡ none
unfolding computing
last_unset = refl

-- ---- what the claim says of it

first_model : model_without call_outcome worked_start first_direct ≡ model_fed worked_start first_fed
first_model = model_fed_law call_outcome worked_start (from_format first_direct) first_fed first_fed_law

last_model : model_without call_outcome worked_start direct_before_read ≡ model_fed worked_start last_fed
last_model = model_fed_law call_outcome worked_start (from_format direct_before_read) last_fed all_fed_law

before_lawful : Lawful call_outcome (begin worked_start) (from_format before_further)
unfolding from_format flushed_after direct_events direct_before_read before_further first_direct cut_direct
before_lawful =
    lawful_before call_outcome (begin worked_start) (from_format before_further) (flushed_after ((copied_direct ++ cut_advance) ++ (ends (read 0 (block_of 0)) ∷ [])))
    direct_facts.lawful

before_up : IsUp (system_without call_outcome worked_start before_further)
unfolding system_after after_all after IsUp from_format flushed_after before_further first_direct cut_direct
before_up = tt

first_lawful : Lawful call_outcome (begin worked_start) (from_format first_direct)
unfolding from_format flushed_after before_further first_direct
first_lawful = lawful_before call_outcome (begin worked_start) (from_format first_direct) (flushed_after cut_direct) before_lawful

first_up : IsUp (system_without call_outcome worked_start first_direct)
unfolding system_after after_all after IsUp from_format flushed_after first_direct
first_up = tt

-- ---- further calls

all_further : DirectFurther further_direct
unfolding further_direct copied_direct
all_further = a_write (an_advance (a_read (an_advance no_call)))

copied_further : DirectFurther copied_direct
unfolding copied_direct
copied_further = a_write (an_advance (a_read no_call))

-- with two calls left
finishing_two : (further : List DirectEvent) → DirectFurther further → DirectFinishing call_outcome worked_start before_further further 2
finishing_two = direct_finishing worked_start is_accepted_law before_further before_lawful before_up (first_fed ++ cut_fed) before_fed before_runs 2 before_left

finishing : DirectFinishing call_outcome worked_start before_further further_direct 2
finishing = finishing_two further_direct all_further

copied_finishing : DirectFinishing call_outcome worked_start before_further copied_direct 2
copied_finishing = finishing_two copied_direct copied_further

two_advances : length (advances_told call_outcome (system_without call_outcome worked_start before_further) further_direct) ≡ 2
unfolding further_direct copied_direct advances_told is_advance
two_advances = refl

one_advance : length (advances_told call_outcome (system_without call_outcome worked_start before_further) copied_direct) ≡ 1
unfolding copied_direct advances_told is_advance
one_advance = refl

-- ---- the last read

block_set : (model_without call_outcome worked_start direct_before_read).plain.bytes 0 ≡ some (block_of 5)
block_set = ap (λ (k : Model). k.plain.bytes 0) last_model ∙ last_set

open_after : (model_without call_outcome worked_start direct_before_read).plain.blocks ≡ 2
open_after = ap (λ (k : Model). k.plain.blocks) last_model ∙ last_open

read_follows : direct_events ≡ direct_before_read ++ (ends (read 0 (block_of 0)) ∷ [])
unfolding direct_events
read_follows = refl

read_back : (outcome call_outcome (read 0 (block_of 0)) (system_without call_outcome worked_start direct_before_read)).piece ≡ block_of 5
unfolding worked_start
read_back =
    ((promise_without_cache worked_start is_accepted_law direct_events direct_facts.lawful
    ).reads direct_before_read [] 0 (block_of 0) read_follows (rw open_after (omega arith)) (length-replicate {A = ℕ} 512 0)).bytes_read (block_of 5) block_set

pub worked_without_cache : WithoutCacheFacts
worked_without_cache =
    record {
      is_lawful = direct_facts.lawful;
      open_before = ap (λ (k : Model). k.plain.blocks) first_model ∙ first_open;
      calls_left_law = left_fed worked_start (from_format first_direct) first_fed first_fed_law 2 first_left;
      calls_told = direct_left_told worked_start is_accepted_law first_direct first_lawful first_up first_fed first_fed_law first_runs 2 first_left;
      calls_left_again = left_fed worked_start (from_format before_further) (first_fed ++ cut_fed) before_fed 2 before_left;
      all_further = all_further;
      copied_fed_law = copied_fed_law;
      finishing = finishing;
      finished = finishing.finished two_advances;
      told = finishing.last_told two_advances;
      copied_finishing = copied_finishing;
      still_runs = copied_finishing.still_runs (rw one_advance (omega arith));
      none_told = copied_finishing.none_told (rw one_advance (omega arith)) ∙ ap (λ (n : ℕ). replicate n false) one_advance;
      open_after = open_after;
      block_set = block_set;
      read_back = read_back;
      added_unset = ap (λ (k : Model). k.plain.bytes 1) last_model ∙ last_unset;
    }
