-- The parts of demand 3 are the demand: `parts_of_promise`.
use Rattle.medium.specs.Medium.{Observations}
use Rattle.volume.specs.declared.Volume.{Volume}
use Rattle.volume.specs.Calls.{Outcome}
use Rattle.promise.specs.Calls.{Call}
use Rattle.promise.specs.Promise.{PromiseOf}
use Rattle.promise.specs.WithoutCache.{from_format, PromiseWithoutCacheOf}
use Rattle.promise.specs.Parts.{StillRuns, NoneTold, Finished, LastTold, ReadAccepted, BytesRead, BytesStand, CallsLeftTold, AdvanceAccepted, EveryRead, EveryGrowth, EveryFurther, Parts, EveryDirectRead, EveryDirectGrowth, EveryDirectFurther, PartsWithoutCache, PartsOfPromise}
use Rattle.promise.proofs.Together.{together, together_without_cache}

module _ (calls : (c : Call) (v : Volume) (o : Observations) → Outcome) where
  -- ---- with a write cache

  reads_accepted : PromiseOf calls → EveryRead calls (ReadAccepted calls)
  reads_accepted kept a ok es l early before rest x piece e below whole = ((kept a ok es l early).reads before rest x piece e below whole).is_accepted_law

  reads_right : PromiseOf calls → EveryRead calls (BytesRead calls)
  reads_right kept a ok es l early before rest x piece e below whole = ((kept a ok es l early).reads before rest x piece e below whole).bytes_read

  bytes_standing : PromiseOf calls → EveryRead calls (BytesStand calls)
  bytes_standing kept a ok es l early before rest x piece e below whole = ((kept a ok es l early).reads before rest x piece e below whole).bytes_stand

  calls_left_law : PromiseOf calls → EveryGrowth calls (CallsLeftTold calls)
  calls_left_law kept a ok es l early = (kept a ok es l early).calls_left_law

  runs_before : PromiseOf calls → EveryFurther calls StillRuns
  runs_before kept a ok es l early is_up on further f = ((kept a ok es l early).finishes is_up on further f).still_runs

  told_before : PromiseOf calls → EveryFurther calls NoneTold
  told_before kept a ok es l early is_up on further f = ((kept a ok es l early).finishes is_up on further f).none_told

  finished_then : PromiseOf calls → EveryFurther calls Finished
  finished_then kept a ok es l early is_up on further f = ((kept a ok es l early).finishes is_up on further f).finished

  told_then : PromiseOf calls → EveryFurther calls LastTold
  told_then kept a ok es l early is_up on further f = ((kept a ok es l early).finishes is_up on further f).last_told

  advances : PromiseOf calls → EveryGrowth calls (AdvanceAccepted calls)
  advances kept a ok es l early = (kept a ok es l early).advances

  pub parts : PromiseOf calls → Parts calls
  parts kept =
      record {
        is_accepted_law = reads_accepted kept;
        bytes_read = reads_right kept;
        bytes_stand = bytes_standing kept;
        calls_left_law = calls_left_law kept;
        still_runs = runs_before kept;
        none_told = told_before kept;
        finished = finished_then kept;
        last_told = told_then kept;
        advances = advances kept;
      }

  -- ---- and with none

  direct_reads_accepted : PromiseWithoutCacheOf calls → EveryDirectRead calls (ReadAccepted calls)
  direct_reads_accepted kept a ok es l before rest x piece e below whole = ((kept a ok es l).reads before rest x piece e below whole).is_accepted_law

  direct_reads_right : PromiseWithoutCacheOf calls → EveryDirectRead calls (BytesRead calls)
  direct_reads_right kept a ok es l before rest x piece e below whole = ((kept a ok es l).reads before rest x piece e below whole).bytes_read

  direct_bytes_standing : PromiseWithoutCacheOf calls → EveryDirectRead calls (BytesStand calls)
  direct_bytes_standing kept a ok es l before rest x piece e below whole = ((kept a ok es l).reads before rest x piece e below whole).bytes_stand

  direct_calls_left : PromiseWithoutCacheOf calls → EveryDirectGrowth calls (λ a es. CallsLeftTold calls a (from_format es))
  direct_calls_left kept a ok es l = (kept a ok es l).calls_left_law

  direct_runs_before : PromiseWithoutCacheOf calls → EveryDirectFurther calls StillRuns
  direct_runs_before kept a ok es l is_up on further f = ((kept a ok es l).finishes is_up on further f).still_runs

  direct_told_before : PromiseWithoutCacheOf calls → EveryDirectFurther calls NoneTold
  direct_told_before kept a ok es l is_up on further f = ((kept a ok es l).finishes is_up on further f).none_told

  direct_finished_then : PromiseWithoutCacheOf calls → EveryDirectFurther calls Finished
  direct_finished_then kept a ok es l is_up on further f = ((kept a ok es l).finishes is_up on further f).finished

  direct_told_then : PromiseWithoutCacheOf calls → EveryDirectFurther calls LastTold
  direct_told_then kept a ok es l is_up on further f = ((kept a ok es l).finishes is_up on further f).last_told

  pub parts_without_cache : PromiseWithoutCacheOf calls → PartsWithoutCache calls
  parts_without_cache kept =
      record {
        is_accepted_law = direct_reads_accepted kept;
        bytes_read = direct_reads_right kept;
        bytes_stand = direct_bytes_standing kept;
        calls_left_law = direct_calls_left kept;
        still_runs = direct_runs_before kept;
        none_told = direct_told_before kept;
        finished = direct_finished_then kept;
        last_told = direct_told_then kept;
      }

  pub parts_of_promise : PartsOfPromise calls
  parts_of_promise =
      record { parts = parts; together = together calls; parts_without_cache = parts_without_cache; together_without_cache = together_without_cache calls }
