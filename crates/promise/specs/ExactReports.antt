-- Demand 3's numbers, said of calls, lists and answers alone, with no plain volume and no tally: the number last reported while a growth runs is
-- exact, to the call: `ExactReports`. `proofs/ExactReports.antt` has the proof, `exact_reports`.
use Rattle.std.specs.Prelude.{ℕ, ◌-◌, ◌<◌, ◌≡◌, Bool, true, false, List, [], ◌∷◌, ◌++◌, length, replicate}
use Rattle.std.proofs.Math.Option.{Option, none, some}
use Rattle.medium.specs.Medium.{Observations}
use Rattle.volume.specs.declared.Volume.{Volume}
use Rattle.volume.specs.Answers.{accepted}
use Rattle.volume.specs.Calls.{Outcome}
use Rattle.promise.specs.Calls.{Call, grow, grow_beyond_doubling, advance, flushed}
use Rattle.promise.specs.Lists.{call_outcome, Event, runs, System, is_accepted, after, after_all, NoEarlyCut, Lawful, IsUp, AllFurther, last_reported, finished_told}
use Rattle.promise.specs.Promise.{Start, formatted, begin, system_after}

-- both grows
pub data Grows : (c : Call) → Type 0 where
  a_grow : {count : ℕ} → Grows (grow count)
  a_grow_beyond_doubling : {count : ℕ} → Grows (grow_beyond_doubling count)

module _ (calls : (c : Call) (v : Volume) (o : Observations) → Outcome) where
  -- a growth runs: an advance directly after flushed is accepted
  abbrev pub growth_runs : (s : System) → Bool
  growth_runs s = is_accepted calls advance (after calls s (runs flushed))

  -- what the accepted advances among further calls told
  abbrev pub told_further : (a : Start) (es further : List Event) → List Bool
  told_further a es further = finished_told calls (system_after calls a es) further

  -- "Exactly that many further advance calls .. finish the growth, and only the last of them tells finished. After every smaller number of them
  -- it still runs."
  pub record ExactNumber (a : Start) (es : List Event) (n : ℕ) : Type 0 where
    pub some_left : 0 < n
    pub still_runs : (further : List Event) → AllFurther calls (system_after calls a es) further → length (told_further a es further) < n
        → growth_runs (after_all calls (system_after calls a es) further) ≡ true
    pub none_told : (further : List Event) → AllFurther calls (system_after calls a es) further → length (told_further a es further) < n
        → told_further a es further ≡ replicate (length (told_further a es further)) false
    pub finished : (further : List Event) → AllFurther calls (system_after calls a es) further → length (told_further a es further) ≡ n
        → growth_runs (after_all calls (system_after calls a es) further) ≡ false
    pub last_told : (further : List Event) → AllFurther calls (system_after calls a es) further → length (told_further a es further) ≡ n
        → told_further a es further ≡ replicate (n - 1) false ++ (true ∷ [])

  -- there is a number last reported, and it is that one
  unfoldable pub ExactReport : (a : Start) (es : List Event) (told : Option ℕ) → Type 0
  ExactReport a es none = ⊥
  ExactReport a es (some n) = ExactNumber a es n

  -- of every list that does not end in a cut: an accepted grow begins a growth, and while one runs the number last reported is exact
  pub record ExactReportsOf : Type 0 where
    pub begins : (a : Start) → accepted (formatted a).reply.answer ≡ true → (es : List Event) → Lawful calls (begin a) es → NoEarlyCut es → IsUp (system_after calls a es)
        → (c : Call) → Grows c → is_accepted calls c (system_after calls a es) ≡ true → growth_runs (after calls (system_after calls a es) (runs c)) ≡ true
    pub is_exact : (a : Start) → accepted (formatted a).reply.answer ≡ true → (es : List Event) → Lawful calls (begin a) es → NoEarlyCut es → IsUp (system_after calls a es)
        → growth_runs (system_after calls a es) ≡ true → ExactReport a es (last_reported calls (begin a) es none)

-- of our calls
abbrev pub ExactReports : Type 0
ExactReports = ExactReportsOf call_outcome
