-- The parts of demand 3 together say what it says.
use Rattle.medium.specs.Medium.{Observations}
use Rattle.volume.specs.declared.Volume.{Volume}
use Rattle.volume.specs.Calls.{Outcome}
use Rattle.promise.specs.Calls.{Call}
use Rattle.promise.specs.Promise.{PromiseOf}
use Rattle.promise.specs.WithoutCache.{PromiseWithoutCacheOf}
use Rattle.promise.specs.Parts.{Parts, PartsWithoutCache}

module _ (calls : (c : Call) (v : Volume) (o : Observations) → Outcome) where
  pub together : Parts calls → PromiseOf calls
  together p a ok es l early =
      record {
        reads = λ before rest x piece e below whole.
            record {
              is_accepted_law = p.is_accepted_law a ok es l early before rest x piece e below whole;
              bytes_read = p.bytes_read a ok es l early before rest x piece e below whole;
              bytes_stand = p.bytes_stand a ok es l early before rest x piece e below whole;
            };
        calls_left_law = p.calls_left_law a ok es l early;
        finishes = λ is_up on further f.
            record {
              still_runs = p.still_runs a ok es l early is_up on further f;
              none_told = p.none_told a ok es l early is_up on further f;
              finished = p.finished a ok es l early is_up on further f;
              last_told = p.last_told a ok es l early is_up on further f;
            };
        advances = p.advances a ok es l early;
      }

  pub together_without_cache : PartsWithoutCache calls → PromiseWithoutCacheOf calls
  together_without_cache p a ok es l =
      record {
        reads = λ first rest x piece e below whole.
            record {
              is_accepted_law = p.is_accepted_law a ok es l first rest x piece e below whole;
              bytes_read = p.bytes_read a ok es l first rest x piece e below whole;
              bytes_stand = p.bytes_stand a ok es l first rest x piece e below whole;
            };
        calls_left_law = p.calls_left_law a ok es l;
        finishes = λ is_up runs further f.
            record {
              still_runs = p.still_runs a ok es l is_up runs further f;
              none_told = p.none_told a ok es l is_up runs further f;
              finished = p.finished a ok es l is_up runs further f;
              last_told = p.last_told a ok es l is_up runs further f;
            };
      }
