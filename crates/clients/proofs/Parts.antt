-- The parts of W10's claim together are the claim, of every program: `parts_of_separate`.
use Rattle.spans.specs.declared.Spans.{Spans}
use Rattle.clients.specs.Stations.{StationCall, Act}
use Rattle.clients.specs.TwoRuns.{SeparateOf}
use Rattle.clients.specs.Parts.{AnsweredAlike, SetAlike, BytesAlike, OpenAlike, OwnAccepted, EachRead, PartsOfSeparate}
use Rattle.clients.proofs.Together.{together}

module _ (calls : (t : Spans) (c : StationCall) → Act) where
  same_answer : SeparateOf calls → EachRead calls (AnsweredAlike calls)
  same_answer all t client a ok es fs ce cf q before rest before1 rest1 x piece e f s = (all t client a ok es fs ce cf q before rest before1 rest1 x piece e f s).same_answer

  same_plain : SeparateOf calls → EachRead calls (SetAlike calls)
  same_plain all t client a ok es fs ce cf q before rest before1 rest1 x piece e f s = (all t client a ok es fs ce cf q before rest before1 rest1 x piece e f s).same_plain

  same_bytes_law : SeparateOf calls → EachRead calls (BytesAlike calls)
  same_bytes_law all t client a ok es fs ce cf q before rest before1 rest1 x piece e f s = (all t client a ok es fs ce cf q before rest before1 rest1 x piece e f s).same_bytes_law

  same_open : SeparateOf calls → EachRead calls (OpenAlike calls)
  same_open all t client a ok es fs ce cf q before rest before1 rest1 x piece e f s = (all t client a ok es fs ce cf q before rest before1 rest1 x piece e f s).same_open

  is_accepted_law : SeparateOf calls → EachRead calls (OwnAccepted calls)
  is_accepted_law all t client a ok es fs ce cf q before rest before1 rest1 x piece e f s = (all t client a ok es fs ce cf q before rest before1 rest1 x piece e f s).is_accepted_law

  pub parts_of_separate : PartsOfSeparate calls
  parts_of_separate =
      record {
        parts = λ all. record { same_answer = same_answer all; same_plain = same_plain all; same_bytes_law = same_bytes_law all; same_open = same_open all; is_accepted_law = is_accepted_law all };
        together = together calls;
      }
