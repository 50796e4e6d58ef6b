-- Each part of demand 3 alone, as a claim about a program: `Parts` for drives with a write cache (document 02, W4), `PartsWithoutCache` for
-- drives that keep no store. Together they are the demand: `PartsOfPromise`, so that neither can be weakened without the other.
-- `proofs/Parts.antt` has the proof.
use Rattle.std.specs.Prelude.{ℕ, ◌-◌, ◌<◌, ◌≡◌, Bool, true, false, List, [], ◌∷◌, ◌++◌, length, replicate}
use Rattle.std.proofs.Math.Option.{none, some}
use Rattle.layout.specs.Tally.{Mode, is_running, live_spot_of, calls_left_of}
use Rattle.medium.specs.Medium.{Observations, observe}
use Rattle.volume.specs.declared.Volume.{Volume}
use Rattle.volume.specs.Answers.{accepted}
use Rattle.volume.specs.Calls.{Outcome}
use Rattle.promise.specs.Calls.{Call, advance, read, flushed}
use Rattle.promise.specs.Lists.{Event, runs, medium_of, outcome, is_accepted, after, NoEarlyCut, Lawful, last_reported, IsUp, AllFurther, finished_told}
use Rattle.promise.specs.Promise.{Start, formatted, begin, system_after, model_of, PromiseOf}
use Rattle.promise.specs.WithoutCache.{DirectEvent, ends, from_format, DirectFurther, system_without, model_without, advances_told, PromiseWithoutCacheOf}

-- ---- what is said of further calls: of what their advances told, the mode after them, and the n calls that were left before them

abbrev pub StillRuns : (told : List Bool) (mode : Mode) (n : ℕ) → Type 0
StillRuns told mode n = length told < n → is_running mode ≡ true

abbrev pub NoneTold : (told : List Bool) (mode : Mode) (n : ℕ) → Type 0
NoneTold told mode n = length told < n → told ≡ replicate (length told) false

abbrev pub Finished : (told : List Bool) (mode : Mode) (n : ℕ) → Type 0
Finished told mode n = length told ≡ n → is_running mode ≡ false

abbrev pub LastTold : (told : List Bool) (mode : Mode) (n : ℕ) → Type 0
LastTold told mode n = length told ≡ n → told ≡ replicate (n - 1) false ++ (true ∷ [])

module _ (calls : (c : Call) (v : Volume) (o : Observations) → Outcome) where
  -- ---- what is said of each read of an open block into a piece of its size, after the events before it

  abbrev pub ReadAccepted : (a : Start) (before : List Event) (x : ℕ) (piece : List ℕ) → Type 0
  ReadAccepted a before x piece = is_accepted calls (read x piece) (system_after calls a before) ≡ true

  abbrev pub BytesRead : (a : Start) (before : List Event) (x : ℕ) (piece : List ℕ) → Type 0
  BytesRead a before x piece =
      (b : List ℕ) → (model_of calls a before).plain.bytes x ≡ some b → (outcome calls (read x piece) (system_after calls a before)).piece ≡ b

  abbrev pub BytesStand : (a : Start) (before : List Event) (x : ℕ) (piece : List ℕ) → Type 0
  BytesStand a before x piece =
      (b : List ℕ) → (model_of calls a before).plain.bytes x ≡ some b
      → (observe (medium_of (system_after calls a before))).bytes_at (record { size = a.size; rows = a.rows }) (live_spot_of (model_of calls a before).tally x) ≡ b

  -- ---- what is said of each list that leaves a growth running

  abbrev pub CallsLeftTold : (a : Start) (es : List Event) → Type 0
  CallsLeftTold a es = last_reported calls (begin a) es none ≡ some (calls_left_of (model_of calls a es).tally)

  abbrev pub AdvanceAccepted : (a : Start) (es : List Event) → Type 0
  AdvanceAccepted a es = is_accepted calls advance (after calls (system_after calls a es) (runs flushed)) ≡ true

  -- ---- of every list with a write cache: each read, each growth that runs, and further calls after it

  abbrev pub EveryRead : (P : (a : Start) (before : List Event) (x : ℕ) (piece : List ℕ) → Type 0) → Type 0
  EveryRead P =
      (a : Start) → accepted (formatted a).reply.answer ≡ true → (es : List Event) → Lawful calls (begin a) es → NoEarlyCut es
      → (before rest : List Event) (x : ℕ) (piece : List ℕ) → es ≡ before ++ (runs (read x piece) ∷ rest)
      → x < (model_of calls a before).plain.blocks → length piece ≡ a.size → P a before x piece

  abbrev pub EveryGrowth : (P : (a : Start) (es : List Event) → Type 0) → Type 0
  EveryGrowth P =
      (a : Start) → accepted (formatted a).reply.answer ≡ true → (es : List Event) → Lawful calls (begin a) es → NoEarlyCut es
      → IsUp (system_after calls a es) → is_running (model_of calls a es).tally.mode ≡ true → P a es

  abbrev pub EveryFurther : (P : (told : List Bool) (mode : Mode) (n : ℕ) → Type 0) → Type 0
  EveryFurther P =
      EveryGrowth
      (λ a es. (further : List Event) → AllFurther calls (system_after calls a es) further
      → P (finished_told calls (system_after calls a es) further) (model_of calls a (es ++ further)).tally.mode (calls_left_of (model_of calls a es).tally))

  pub record Parts : Type 0 where
    pub is_accepted_law : EveryRead ReadAccepted
    pub bytes_read : EveryRead BytesRead
    pub bytes_stand : EveryRead BytesStand
    pub calls_left_law : EveryGrowth CallsLeftTold
    pub still_runs : EveryFurther StillRuns
    pub none_told : EveryFurther NoneTold
    pub finished : EveryFurther Finished
    pub last_told : EveryFurther LastTold
    pub advances : EveryGrowth AdvanceAccepted

  -- ---- and with none

  abbrev pub EveryDirectRead : (P : (a : Start) (before : List Event) (x : ℕ) (piece : List ℕ) → Type 0) → Type 0
  EveryDirectRead P =
      (a : Start) → accepted (formatted a).reply.answer ≡ true → (es : List DirectEvent) → Lawful calls (begin a) (from_format es)
      → (before rest : List DirectEvent) (x : ℕ) (piece : List ℕ) → es ≡ before ++ (ends (read x piece) ∷ rest)
      → x < (model_without calls a before).plain.blocks → length piece ≡ a.size → P a (from_format before) x piece

  abbrev pub EveryDirectGrowth : (P : (a : Start) (es : List DirectEvent) → Type 0) → Type 0
  EveryDirectGrowth P =
      (a : Start) → accepted (formatted a).reply.answer ≡ true → (es : List DirectEvent) → Lawful calls (begin a) (from_format es)
      → IsUp (system_without calls a es) → is_running (model_without calls a es).tally.mode ≡ true → P a es

  abbrev pub EveryDirectFurther : (P : (told : List Bool) (mode : Mode) (n : ℕ) → Type 0) → Type 0
  EveryDirectFurther P =
      EveryDirectGrowth
      (λ a es. (further : List DirectEvent) → DirectFurther further
      → P (advances_told calls (system_without calls a es) further) (model_without calls a (es ++ further)).tally.mode (calls_left_of (model_without calls a es).tally))

  pub record PartsWithoutCache : Type 0 where
    pub is_accepted_law : EveryDirectRead ReadAccepted
    pub bytes_read : EveryDirectRead BytesRead
    pub bytes_stand : EveryDirectRead BytesStand
    pub calls_left_law : EveryDirectGrowth (λ a es. CallsLeftTold a (from_format es))
    pub still_runs : EveryDirectFurther StillRuns
    pub none_told : EveryDirectFurther NoneTold
    pub finished : EveryDirectFurther Finished
    pub last_told : EveryDirectFurther LastTold

-- ---- together they are the demand

pub record PartsOfPromise (calls : (c : Call) (v : Volume) (o : Observations) → Outcome) : Type 0 where
  pub parts : PromiseOf calls → Parts calls
  pub together : Parts calls → PromiseOf calls
  pub parts_without_cache : PromiseWithoutCacheOf calls → PartsWithoutCache calls
  pub together_without_cache : PartsWithoutCache calls → PromiseWithoutCacheOf calls
