-- The parts of W10's claim together say what it says.
use Rattle.spans.specs.declared.Spans.{Spans}
use Rattle.clients.specs.Stations.{StationCall, Act}
use Rattle.clients.specs.TwoRuns.{SeparateOf}
use Rattle.clients.specs.Parts.{SeparateParts}

module _ (calls : (t : Spans) (c : StationCall) → Act) where
  pub together : SeparateParts calls → SeparateOf calls
  together p t client a ok es fs ce cf q before rest before1 rest1 x piece e f s =
      record {
        same_answer = p.same_answer t client a ok es fs ce cf q before rest before1 rest1 x piece e f s;
        same_plain = p.same_plain t client a ok es fs ce cf q before rest before1 rest1 x piece e f s;
        same_bytes_law = p.same_bytes_law t client a ok es fs ce cf q before rest before1 rest1 x piece e f s;
        same_open = p.same_open t client a ok es fs ce cf q before rest before1 rest1 x piece e f s;
        is_accepted_law = p.is_accepted_law t client a ok es fs ce cf q before rest before1 rest1 x piece e f s;
      }
