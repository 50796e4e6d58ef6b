-- What comes behind a list in which each write is flushed.
use mathlib.Core.List.{List, [], ◌∷◌, ◌++◌}
use mathlib.Core.Option.{none}
use Rattle.medium.specs.Medium.{AfterCut}
use Rattle.clients.specs.Stations.{by_rack, reads, writes, StationEvent, ends, fails}
use Rattle.clients.specs.TwoRuns.{BeginsFlushed, WritesFlushed}

begins_append : (es fs : List StationEvent) → BeginsFlushed es → BeginsFlushed (es ++ fs)
unfolding BeginsFlushed
begins_append [] fs b = absurd b
begins_append (ends (by_rack c) ∷ es) fs b = b
begins_append (ends (reads k x piece) ∷ es) fs b = b
begins_append (ends (writes k x piece) ∷ es) fs b = b
begins_append (fails c left ∷ es) fs b = b

pub writes_then : (es fs : List StationEvent) → WritesFlushed es → WritesFlushed fs → WritesFlushed (es ++ fs)
unfolding WritesFlushed
writes_then [] fs w v = v
writes_then (ends (by_rack c) ∷ es) fs w v = writes_then es fs w v
writes_then (ends (reads k x piece) ∷ es) fs w v = writes_then es fs w v
writes_then (ends (writes k x piece) ∷ es) fs w v = (begins_append es fs w.0, writes_then es fs w.1 v)
writes_then (fails c left ∷ es) fs w v = writes_then es fs w v

-- a cut between calls has no write before its end
pub between_flushed : (left : List AfterCut) → WritesFlushed (fails none left ∷ [])
unfolding WritesFlushed
between_flushed left = tt
