-- That the claim on the numbers reported (`ExactReports`) is not empty, and programs that break it. `proofs/ExactReports.antt` has the proof.
use Rattle.promise.specs.Lists.{call_outcome}
use Rattle.promise.specs.ExactReports.{ExactNumber, ExactReportsOf}
use Rattle.worked.specs.Worked.{worked_start, first_events}
use Rattle.worked.specs.WrongPrograms.{never_advances, made_up_count, ends_early, ends_late}

pub record ExactReportsWorked : Type 0 where
  -- the worked list leaves a growth running with two calls left
  pub two_left : ExactNumber call_outcome worked_start first_events 2
  -- an accepted grow, and no advance is accepted
  pub begins_broken : ExactReportsOf never_advances → ⊥
  -- grow reports 7 calls, and the second advance tells finished; of two calls the first one does
  pub none_told_broken : ExactReportsOf made_up_count → ⊥
  pub none_told_early : ExactReportsOf ends_early → ⊥
  -- the second does not
  pub last_told_broken : ExactReportsOf ends_late → ⊥
