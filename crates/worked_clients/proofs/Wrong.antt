-- `shut_out`, `parts_broken`: for each wrong program two runs, computed, after which its read breaks a part of the claim.
use mathlib.Core.Path.{refl, ap}
use mathlib.Core.List.{[]}
use borrow.Author.Tests.{eq-eqb}
use Rattle.volume.specs.declared.Reply.{Reply}
use Rattle.volume.specs.declared.Told.{Told}
use Rattle.spans.specs.declared.Spans.{Spans}
use Rattle.clients.specs.Parts.{AnsweredAlike, SetAlike, BytesAlike, OpenAlike, OwnAccepted, EachRead, SeparateParts}
use Rattle.clients.specs.Stations.{StationCall, reads, Act, reply_after, read_after}
use Rattle.clients.specs.TwoRuns.{is_shared, SeparateOf, SameRepliesOf}
use Rattle.clients.proofs.ListsBefore.{no_flushed}
use Rattle.clients.proofs.Parts.{parts_of_separate}
use Rattle.worked.proofs.BrokenReads.{other_bytes}
use Rattle.worked_clients.specs.Runs.{one_each, whole_growth}
use Rattle.worked_clients.specs.WrongPrograms.{program, too_long, too_early, overlapping, reads_other, reads_all, writes_all, any_client, nothing_allowed, ShutOut, begins_with_two, refuses_by_other, reads_by_other, grows_by_other, PartsBroken}
use Rattle.worked_clients.proofs.Computing.{stations_computing}
use Rattle.worked_clients.proofs.Broken.{disturbed, alone, pair_test, breaks_answer, breaks_plain, breaks_bytes, breaks_open, breaks_accepted}

-- unfolded, it opens what two runs of a program are computed with
unfoldable testing : Unit {0}
unfolding stations_computing program disturbed alone pair_test other_bytes begins_with_two
testing = tt

-- ---- the other's write changes which bytes a block is set to

abbrev PlainBroken : (calls : (t : Spans) (c : StationCall) → Act) → Type 0
PlainBroken calls = EachRead calls (SetAlike calls) → ⊥

-- client 0's span reaches into client 1's, or client 1's into client 0's
too_long_law : PlainBroken too_long
unfolding testing too_long
too_long_law = breaks_plain too_long one_each 1 1 0 1 [] refl refl

too_early_law : PlainBroken too_early
unfolding testing too_early
too_early_law = breaks_plain too_early one_each 0 0 1 0 [] refl refl

-- both have block 0
unfoldable one_block : Spans
one_block = record { zero = record { first = 0; count = 1 }; one = record { first = 0; count = 1 } }

overlaps : PlainBroken overlapping
unfolding testing overlapping one_block
overlaps = breaks_plain overlapping one_block 0 0 1 0 [] refl refl

-- client 0 reads block 1, of client 1
reads_other_law : PlainBroken reads_other
unfolding testing reads_other
reads_other_law = breaks_plain reads_other one_each 0 1 1 1 [] refl refl

reads_all_law : PlainBroken reads_all
unfolding testing reads_all
reads_all_law = breaks_plain reads_all one_each 0 1 1 1 [] refl refl

writes_all_law : PlainBroken writes_all
unfolding testing writes_all
writes_all_law = breaks_plain writes_all one_each 0 0 1 0 [] refl refl

any_client_law : PlainBroken any_client
unfolding testing any_client
any_client_law = breaks_plain any_client one_each 0 0 2 0 [] refl refl

-- ---- the other parts

nothing_allowed_law : EachRead nothing_allowed (OwnAccepted nothing_allowed) → ⊥
unfolding testing nothing_allowed
nothing_allowed_law = breaks_accepted nothing_allowed one_each 0 0 1 1 [] refl refl

refuses_by_other_law : EachRead refuses_by_other (AnsweredAlike refuses_by_other) → ⊥
unfolding testing refuses_by_other
refuses_by_other_law = breaks_answer refuses_by_other one_each 0 0 1 1 [] refl refl

reads_by_other_law : EachRead reads_by_other (BytesAlike reads_by_other) → ⊥
unfolding testing reads_by_other
reads_by_other_law = breaks_bytes reads_by_other one_each 0 0 1 1 [] refl refl

-- the growth is in one of the runs only
grows_by_other_law : EachRead grows_by_other (OpenAlike grows_by_other) → ⊥
unfolding testing grows_by_other
grows_by_other_law = breaks_open grows_by_other one_each 0 0 1 1 whole_growth refl refl

-- what the claim on replies says of a read
read_replies : (calls : (t : Spans) (c : StationCall) → Act) → SameRepliesOf calls → EachRead calls (AnsweredAlike calls)
unfolding read_after reply_after is_shared
read_replies calls all t client a ok es fs ce cf q before rest before1 rest1 x piece e f s =
    ap (λ (r : Reply Told). r.answer)
    (all t client a ok es fs ce cf q before rest before1 rest1 (reads client x piece) (eq-eqb client client refl) (no_flushed client x piece) e f s)

replies_by_other : SameRepliesOf refuses_by_other → ⊥
replies_by_other all = refuses_by_other_law (read_replies refuses_by_other all)

pub parts_broken : PartsBroken
parts_broken = record { same_answer = refuses_by_other_law; same_plain = writes_all_law; same_bytes_law = reads_by_other_law; same_open = grows_by_other_law; is_accepted_law = nothing_allowed_law; same_replies = replies_by_other }

-- ---- and so the claim

parts : (calls : (t : Spans) (c : StationCall) → Act) → SeparateOf calls → SeparateParts calls
parts calls = (parts_of_separate calls).parts

pub shut_out : ShutOut
shut_out =
    record {
      too_long_law = λ claim. too_long_law (parts too_long claim).same_plain;
      too_early_law = λ claim. too_early_law (parts too_early claim).same_plain;
      overlaps = λ claim. overlaps (parts overlapping claim).same_plain;
      reads_other_law = λ claim. reads_other_law (parts reads_other claim).same_plain;
      reads_all_law = λ claim. reads_all_law (parts reads_all claim).same_plain;
      writes_all_law = λ claim. writes_all_law (parts writes_all claim).same_plain;
      any_client_law = λ claim. any_client_law (parts any_client claim).same_plain;
      nothing_allowed_law = λ claim. nothing_allowed_law (parts nothing_allowed claim).is_accepted_law;
    }
