-- Programs whose reads are wrong: for each a list, computed, at which a read breaks a part of demand 3.
use Prim.Native.Nat.{ℕ}
use mathlib.Core.Path.{◌≡◌, refl, sym, ap, ◌∙◌}
use mathlib.Core.Bool.{Bool, true, false, ◌&&◌, false≢true}
use mathlib.Core.List.{List, [], ◌∷◌}
use mathlib.Core.Option.{Option, none, some}
use Rattle.base.proofs.Booleans.{and_left, and_right}
use Rattle.medium.specs.Medium.{torn_block, old_record, new_record}
use Rattle.promise.specs.Calls.{Call, grow, copy, checkpoint, advance, write, restart, flushed}
use Rattle.promise.specs.Lists.{Event, runs, cut}
use Rattle.promise.specs.Model.{Model}
use Rattle.promise.specs.Promise.{Start, model_of}
use Rattle.promise.specs.WithoutCache.{DirectEvent, ends, from_format}
use Rattle.worked.specs.Worked.{block_of, worked_start}
use Rattle.worked.specs.WrongPrograms.{Act, program, refuses_read, exchanges_blocks, writes_nothing, writes_waiting, writes_early, records_early, marks_later}
use Rattle.promise.specs.Parts.{ReadAccepted, BytesRead, BytesStand, EveryRead, EveryDirectRead}
use Rattle.worked.specs.FlushedSaves.{three_rows, whole_growth}
use Rattle.worked.specs.BrokenParts.{two_rows, saved_first, ExchangedRead}
use Rattle.worked.proofs.FasterCalls.{same_bytes, same_bytes_law}
use Rattle.worked.proofs.Computed.{Tested, tested}
use Rattle.worked.proofs.Computing.{computing}
use Rattle.worked.proofs.BrokenReads.{ReadHeard, heard_there, read_test, read_tested, broken, broken_twice, silent_flushed, refused_read, other_bytes, other_read, other_stands, refutes_accepted, refutes_read, refutes_stand}

-- unfolded, it opens what a computed list with a read needs
unfoldable testing : Unit {0}
unfolding computing read_test other_bytes program
testing = tt

-- a part that a program breaks on both kinds of drives
abbrev pub BreaksRead : (calls : (c : Call) → Act) (P : (a : Start) (before : List Event) (x : ℕ) (piece : List ℕ) → Type 0) → Type 0
BreaksRead calls P = (EveryRead calls P → ⊥) × (EveryDirectRead calls P → ⊥)

-- ---- a read that refuses an open block

refuses_tested : Tested refuses_read (λ p. read_test p worked_start (from_format []) (runs flushed ∷ []) 0 (refused_read worked_start 0))
unfolding testing refuses_read
refuses_tested = (λ v o. refl, refl)

pub refuses_read_law : BreaksRead refuses_read (ReadAccepted refuses_read)
refuses_read_law = broken_twice refuses_read (ReadAccepted refuses_read) refused_read (refutes_accepted refuses_read) worked_start [] 0 refuses_tested

-- ---- a write that stores nothing: the block is read as it was before

nothing_tested : Tested writes_nothing (λ p. read_test p worked_start (from_format saved_first) (runs flushed ∷ []) 0 (other_read worked_start 0))
unfolding testing writes_nothing saved_first
nothing_tested = (λ v o. refl, refl)

pub writes_nothing_law : BreaksRead writes_nothing (BytesRead writes_nothing)
writes_nothing_law = broken_twice writes_nothing (BytesRead writes_nothing) other_read (refutes_read writes_nothing) worked_start saved_first 0 nothing_tested

-- ---- a write of a block that is copied and not recorded: the checkpoint brings back the bytes before it

abbrev saved_between : List DirectEvent
saved_between = ends (write 0 (block_of 1)) ∷ ends (grow 2) ∷ ends (copy 0) ∷ ends (write 0 (block_of 2)) ∷ ends checkpoint ∷ []

waiting_tested : Tested writes_waiting (λ p. read_test p worked_start (from_format saved_between) (runs flushed ∷ []) 0 (other_read worked_start 0))
unfolding testing writes_waiting
waiting_tested = (λ v o. refl, refl)

pub writes_waiting_law : BreaksRead writes_waiting (BytesRead writes_waiting)
writes_waiting_law = broken_twice writes_waiting (BytesRead writes_waiting) other_read (refutes_read writes_waiting) worked_start saved_between 0 waiting_tested

-- ---- an advance that copies the first window and later only marks: with three rows block 2 moves in the second window

abbrev saved_then_grown : List DirectEvent
saved_then_grown = ends (write 2 (block_of 1)) ∷ whole_growth

later_tested : Tested marks_later (λ p. read_test p three_rows (from_format saved_then_grown) (runs flushed ∷ []) 2 (other_read three_rows 2))
unfolding testing marks_later three_rows whole_growth
later_tested = (λ v o. refl, refl)

pub marks_later_law : BreaksRead marks_later (BytesRead marks_later)
marks_later_law = broken_twice marks_later (BytesRead marks_later) other_read (refutes_read marks_later) three_rows saved_then_grown 2 later_tested

-- ---- a write while the record that ends a growth is pending: the added block 1 is stored at block 0's old spot, and the cut leaves the old
-- record

abbrev saved_early : List Event
saved_early =
    runs (write 0 (block_of 1))
    ∷ runs flushed
    ∷ runs (grow 2)
    ∷ runs flushed
    ∷ runs advance
    ∷ runs flushed
    ∷ runs advance
    ∷ runs (write 1 (block_of 2))
    ∷ cut none (torn_block (block_of 9) ∷ old_record ∷ [])
    ∷ runs restart
    ∷ []

early_tested : Tested writes_early (λ p. read_test p worked_start (runs flushed ∷ saved_early) [] 0 (other_read worked_start 0))
unfolding testing writes_early
early_tested = (λ v o. refl, refl)

pub writes_early_law : EveryRead writes_early (BytesRead writes_early) → ⊥
writes_early_law = broken writes_early (BytesRead writes_early) other_read (refutes_read writes_early) worked_start saved_early 0 early_tested

-- ---- an advance that records a copy whose store is pending: the cut leaves the new record, and the copy torn

abbrev recorded_early : List Event
recorded_early =
    runs (write 0 (block_of 1))
    ∷ runs flushed
    ∷ runs (grow 2)
    ∷ runs flushed
    ∷ runs advance
    ∷ runs advance
    ∷ cut none (new_record ∷ torn_block (block_of 9) ∷ [])
    ∷ runs restart
    ∷ []

record_tested : Tested records_early (λ p. read_test p worked_start (runs flushed ∷ recorded_early) [] 0 (other_read worked_start 0))
unfolding testing records_early
record_tested = (λ v o. refl, refl)

pub records_early_law : EveryRead records_early (BytesRead records_early) → ⊥
records_early_law = broken records_early (BytesRead records_early) other_read (refutes_read records_early) worked_start recorded_early 0 record_tested

-- ---- saves and reads that exchange blocks: the read is right, and the bytes stand at block 1's spot

-- block 0 is set to these bytes
abbrev is_set_to : (set : Option (List ℕ)) (b : List ℕ) → Bool
is_set_to none b = false
is_set_to (some c) b = same_bytes c b

is_set_to_law : (set : Option (List ℕ)) (b : List ℕ) → is_set_to set b ≡ true → set ≡ some b
is_set_to_law none b t = absurd (false≢true t)
is_set_to_law (some c) b t = ap some (same_bytes_law c b t)

-- the read is accepted, and gives 1 as it was saved
abbrev right_read : (x : ℕ) → ReadHeard → Model → Bool
right_read x h k = h.was_accepted && (same_bytes h.piece (block_of 1) && is_set_to (k.plain.bytes x) (block_of 1))

abbrev only_stands : (a : Start) (x : ℕ) → ReadHeard → Model → Bool
only_stands a x h k = other_stands a x h k && right_read x h k

exchanged_tested : Tested exchanges_blocks (λ p. read_test p two_rows (from_format saved_first) (runs flushed ∷ []) 0 (only_stands two_rows 0))
unfolding testing exchanges_blocks two_rows saved_first
exchanged_tested = (λ v o. refl, refl)

pub exchanges_blocks_law : BreaksRead exchanges_blocks (BytesStand exchanges_blocks)
exchanges_blocks_law =
    broken_twice exchanges_blocks (BytesStand exchanges_blocks) only_stands
    (λ a before rest x t. refutes_stand exchanges_blocks a before rest x
    (and_left (other_stands a x (heard_there exchanges_blocks a before rest x) (model_of exchanges_blocks a before)) _ t))
    two_rows saved_first 0 exchanged_tested

abbrev exchanged_heard : ReadHeard
exchanged_heard = heard_there exchanges_blocks two_rows (from_format saved_first) (runs flushed ∷ []) 0

abbrev exchanged_model : Model
exchanged_model = model_of exchanges_blocks two_rows (from_format saved_first)

exchanged_right : right_read 0 exchanged_heard exchanged_model ≡ true
exchanged_right =
    and_right (other_stands two_rows 0 exchanged_heard exchanged_model) _
    (read_tested exchanges_blocks two_rows (from_format saved_first) (runs flushed ∷ []) 0 (silent_flushed exchanges_blocks) (only_stands two_rows 0)
    (tested exchanges_blocks (λ p. read_test p two_rows (from_format saved_first) (runs flushed ∷ []) 0 (only_stands two_rows 0)) exchanged_tested)).1

bytes_or : Option (List ℕ) → List ℕ
bytes_or none = []
bytes_or (some b) = b

pub exchanged_read : ExchangedRead
unfolding two_rows bytes_or
exchanged_read =
    let given = and_right exchanged_heard.was_accepted _ exchanged_right in
    let saved = is_set_to_law (exchanged_model.plain.bytes 0) (block_of 1) (and_right (same_bytes exchanged_heard.piece (block_of 1)) _ given) in
    record {
      saved = saved;
      is_accepted_law = and_left exchanged_heard.was_accepted _ exchanged_right;
      bytes_read = λ b e. same_bytes_law exchanged_heard.piece (block_of 1) (and_left (same_bytes exchanged_heard.piece (block_of 1)) _ given) ∙ ap bytes_or (sym saved ∙ e);
    }
