-- Programs that demand 3 shuts out (document 01, "What each contract carries" and "Near errors"; document 02, W4), each of them ours but for a
-- call or two: `ShutOut`, and for drives that keep no store `ShutOutWithoutCache`. `proofs/WrongReads.antt` and `proofs/WrongGrowths.antt` have
-- for each a list, computed, at which it breaks a part of the demand.
use Rattle.std.specs.Prelude.{ℕ, ◌-◌, ◌*◌, Bool, true, false, cond, not, ◌&&◌, ◌||◌, List, [], ◌++◌, ltb, eqb, length, take, Ok}
use Rattle.layout.specs.Tally.{open_blocks, calls_left_of, next_block, window_full, last_window}
use Rattle.medium.specs.Medium.{Observations, no_store, record_store}
use Rattle.volume.specs.declared.Advanced.TheVariants.{Recorded, Finished}
use Rattle.volume.specs.declared.Told.TheVariants.{CallsLeft}
use Rattle.volume.specs.declared.Volume.{Volume}
use Rattle.volume.specs.Answers.{accepted}
use Rattle.volume.specs.Calls.{Outcome, refused, reporting, telling, judged, is_none, grow_effect, grow_outcome_of, copy_outcome, checkpoint_outcome, advance_table, advance_effect, advance_outcome, read_table, block_rows, write_table, write_effect, write_outcome, read_outcome, restart_table, restart_outcome, flushed_outcome}
use Rattle.volume.specs.Records.{record_of, state_read}
use Rattle.volume.specs.States.{disks, tally_of, zeros, in_stage}
use Rattle.promise.specs.Calls.{Call, grow, grow_beyond_doubling, copy, checkpoint, advance, write, read, restart, flushed}
use Rattle.promise.specs.Promise.{PromiseOf}
use Rattle.promise.specs.WithoutCache.{PromiseWithoutCacheOf}

-- what a call does with the state that it gets and what it sees of the medium
abbrev pub Act : Type 0
Act = (v : Volume) (o : Observations) → Outcome

-- our calls, with these as given
unfoldable pub program : (grows : (limited : Bool) (count : ℕ) → Act) (advances : Act) (writes reads : (x : ℕ) (piece : List ℕ) → Act) (restarts : Act) (c : Call) → Act
program grows advances writes reads restarts (grow count) v o = grows true count v o
program grows advances writes reads restarts (grow_beyond_doubling count) v o = grows false count v o
program grows advances writes reads restarts (copy x) v o = copy_outcome v x o
program grows advances writes reads restarts checkpoint v o = checkpoint_outcome v o
program grows advances writes reads restarts advance v o = advances v o
program grows advances writes reads restarts (write x piece) v o = writes x piece v o
program grows advances writes reads restarts (read x piece) v o = reads x piece v o
program grows advances writes reads restarts restart v o = restarts v o
program grows advances writes reads restarts flushed v o = flushed_outcome v

-- W7's grow, and the one without 20
abbrev our_grow : (limited : Bool) (count : ℕ) → Act
our_grow limited count v o = grow_outcome_of limited v count o

abbrev our_write : (x : ℕ) (piece : List ℕ) → Act
our_write x piece v o = write_outcome v x piece o

abbrev our_read : (x : ℕ) (piece : List ℕ) → Act
our_read x piece v o = read_outcome v x piece o

abbrev our_restart : Act
our_restart v o = restart_outcome o

-- ---- saves and reads

-- a read that refuses an open block
unfoldable pub refuses_read : (c : Call) → Act
refuses_read = program our_grow advance_outcome our_write (λ x piece v o. cond (eqb x 0) (refused v 3 piece) (read_outcome v x piece o)) our_restart

-- blocks 0 and 1 exchanged, where both are open
abbrev exchanged : (v : Volume) (x : ℕ) → ℕ
exchanged v x = cond (ltb 1 (open_blocks (tally_of v))) (cond (eqb x 0) 1 (cond (eqb x 1) 0 x)) x

-- saves and reads that exchange them: what was saved is read, and stands elsewhere
unfoldable pub exchanges_blocks : (c : Call) → Act
exchanges_blocks =
    program our_grow advance_outcome (λ x piece v o. write_outcome v (exchanged v x) piece o) (λ x piece v o. read_outcome v (exchanged v x) piece o) our_restart

-- "a write that stores nothing"
unfoldable pub writes_nothing : (c : Call) → Act
writes_nothing =
    program our_grow advance_outcome (λ x piece v o. record { reply = (write_outcome v x piece o).reply; store = no_store; piece = piece }) our_read our_restart

-- a write that stores a block that is copied and not recorded: no 7. "Writing a copied, unrecorded block to one spot"
unfoldable pub writes_waiting : (c : Call) → Act
writes_waiting =
    program our_grow advance_outcome
    (λ x piece v o.
    judged (read_table v x (length piece) o.byte_count ++ block_rows v) (λ k. refused v k piece) (write_effect v x piece))
    our_read our_restart

-- a write that does not wait for a record store: no 19, the last of its rows
unfoldable pub writes_early : (c : Call) → Act
writes_early =
    program our_grow advance_outcome
    (λ x piece v o. judged (take 5 (write_table v x (length piece) o.byte_count)) (λ k. refused v k piece) (write_effect v x piece))
    our_read our_restart

-- ---- advances

-- an advance that does not wait for block stores: no 18, the last of its rows
unfoldable pub records_early : (c : Call) → Act
records_early =
    program our_grow (λ v o. judged (take 4 (advance_table v o.byte_count)) (λ k. refused v k []) (advance_effect v o)) our_write our_read our_restart

-- "an advance that always refuses"
unfoldable pub never_advances : (c : Call) → Act
never_advances = program our_grow (λ v o. refused v 5 []) our_write our_read our_restart

-- "an advance that copies the first window and later only marks"
unfoldable pub marks_later : (c : Call) → Act
marks_later =
    program our_grow
    (λ v o.
    cond (eqb v.window 0 || window_full (tally_of v)) (advance_outcome v o)
    (record { reply = (advance_outcome v o).reply; store = no_store; piece = [] }))
    our_write our_read our_restart

-- an advance that ends the growth a call early: with two calls left it copies nothing and stores the record of the end
unfoldable pub ends_early : (c : Call) → Act
ends_early =
    program our_grow
    (λ v o.
    let u = in_stage v 0 0 0 0 in
    cond (eqb (calls_left_of (tally_of v)) 2)
    (judged (advance_table v o.byte_count) (λ k. refused v k []) (telling u Finished (record_store (record_of u)))) (advance_outcome v o))
    our_write our_read our_restart

-- an advance that ends it a call late: where it would finish and nothing is recorded, it records the copies but that with mark 0
unfoldable pub ends_late : (c : Call) → Act
ends_late =
    program our_grow
    (λ v o.
    let u = in_stage v v.growing v.window (v.copied - 1) v.copied in
    cond (is_none (next_block (tally_of v)) && (last_window (tally_of v) && eqb v.recorded 0))
    (judged (advance_table v o.byte_count) (λ k. refused v k []) (telling u Recorded (record_store (record_of u)))) (advance_outcome v o))
    our_write our_read our_restart

-- ---- growths and restarts

-- a grow that refuses nothing, to 0 disks from 0 disks too
unfoldable pub grows_always : (c : Call) → Act
grows_always = program (λ limited count v o. grow_effect v count) advance_outcome our_write our_read our_restart

-- "a made-up count of calls left"
unfoldable pub made_up_count : (c : Call) → Act
made_up_count =
    program
    (λ limited count v o.
    let ours = grow_outcome_of limited v count o in
    record {
      reply = record { state = ours.reply.state; answer = cond (accepted ours.reply.answer) (Ok (CallsLeft 7)) ours.reply.answer };
      store = ours.store;
      piece = [];
    })
    advance_outcome our_write our_read our_restart

-- a grow without 20 that goes to twice N[t] at most, where more was asked
unfoldable pub grows_to_twice : (c : Call) → Act
grows_to_twice =
    program (λ limited count v o. grow_outcome_of limited v (cond (ltb (2 * disks v) count && not limited) (2 * disks v) count) o) advance_outcome our_write our_read
    our_restart

-- a restart that keeps the unrecorded copies that memory still has
unfoldable pub keeps_copies : (c : Call) → Act
keeps_copies =
    program our_grow advance_outcome our_write our_read
    (λ v o.
    let u = state_read o.sector in
    judged (restart_table o) (λ k. refused zeros k []) (reporting (in_stage u u.growing u.window u.recorded v.copied) no_store))

pub record ShutOut : Type 0 where
  pub writes_nothing_law : PromiseOf writes_nothing → ⊥
  pub writes_waiting_law : PromiseOf writes_waiting → ⊥
  pub writes_early_law : PromiseOf writes_early → ⊥
  pub records_early_law : PromiseOf records_early → ⊥
  pub never_advances_law : PromiseOf never_advances → ⊥
  pub marks_later_law : PromiseOf marks_later → ⊥
  pub made_up_count_law : PromiseOf made_up_count → ⊥
  pub grows_to_twice_law : PromiseOf grows_to_twice → ⊥
  pub keeps_copies_law : PromiseOf keeps_copies → ⊥
  pub refuses_read_law : PromiseOf refuses_read → ⊥
  pub exchanges_blocks_law : PromiseOf exchanges_blocks → ⊥
  pub grows_always_law : PromiseOf grows_always → ⊥
  pub ends_early_law : PromiseOf ends_early → ⊥
  pub ends_late_law : PromiseOf ends_late → ⊥

-- and of document 01's own, for drives that keep no store; two of them are wrong only where stores may be pending
pub record ShutOutWithoutCache : Type 0 where
  pub writes_nothing_law : PromiseWithoutCacheOf writes_nothing → ⊥
  pub writes_waiting_law : PromiseWithoutCacheOf writes_waiting → ⊥
  pub never_advances_law : PromiseWithoutCacheOf never_advances → ⊥
  pub marks_later_law : PromiseWithoutCacheOf marks_later → ⊥
  pub made_up_count_law : PromiseWithoutCacheOf made_up_count → ⊥
  pub grows_to_twice_law : PromiseWithoutCacheOf grows_to_twice → ⊥
  pub keeps_copies_law : PromiseWithoutCacheOf keeps_copies → ⊥
  pub refuses_read_law : PromiseWithoutCacheOf refuses_read → ⊥
  pub exchanges_blocks_law : PromiseWithoutCacheOf exchanges_blocks → ⊥
  pub grows_always_law : PromiseWithoutCacheOf grows_always → ⊥
  pub ends_early_law : PromiseWithoutCacheOf ends_early → ⊥
  pub ends_late_law : PromiseWithoutCacheOf ends_late → ⊥
