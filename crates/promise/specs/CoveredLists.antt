-- Which lists demand 3 is about, apart from the text of `Lawful`, `NoEarlyCut` and `Further`: a claim about fewer lists does not meet these
-- laws. `proofs/CoveredLists.antt` has the proofs.
use Rattle.std.specs.Prelude.{ℕ, ◌≡◌, false, List, [], ◌∷◌, ◌++◌}
use Rattle.std.proofs.Math.Option.{Option, none, some}
use Rattle.medium.specs.Medium.{Observations, AfterCut, EachMayLeave}
use Rattle.volume.specs.declared.Volume.{Volume}
use Rattle.volume.specs.Calls.{Outcome}
use Rattle.promise.specs.Calls.{Call, advance, write, read, restart, flushed}
use Rattle.promise.specs.Lists.{Event, runs, cut, System, down, drives_of, IsUp, NoEarlyCut, stores_at, is_accepted, after_all, Lawful, AllFurther}
use Rattle.promise.specs.WithoutCache.{DirectEvent, ends, fails, flushed_after, from_format, DirectFurther}

-- a list of calls that come to their end
pub data CallsOnly : List Event → Type 0 where
  no_call : CallsOnly []
  one_more : {c : Call} {es : List Event} → CallsOnly es → CallsOnly (runs c ∷ es)

-- "It starts at the first flushed after format .. and covers lists with no cut before that": any calls may come first, and anything after it
pub record EarlyListsCovered : Type 0 where
  pub no_flushed : (es : List Event) → CallsOnly es → NoEarlyCut es
  pub after_flushed : (es rest : List Event) → CallsOnly es → NoEarlyCut (es ++ (runs flushed ∷ rest))
  pub a_call : (es : List Event) → NoEarlyCut es → (c : Call) → NoEarlyCut (es ++ (runs c ∷ []))

module _ (calls : (c : Call) (v : Volume) (o : Observations) → Outcome) where
  -- "Take every list of the calls .., whichever of their stores the power fails in": what may be added to a lawful list
  pub record ListsCovered : Type 0 where
    pub no_event : (s : System) → Lawful calls s []
    -- where it does not end in a cut: every call but restart, with any arguments
    pub a_call : (s : System) (es : List Event) → Lawful calls s es → IsUp (after_all calls s es) → (c : Call) → (c ≡ restart → ⊥)
        → Lawful calls s (es ++ (runs c ∷ []))
    -- "restart comes only after a cut or directly after flushed", where nothing is pending
    pub a_restart : (s : System) (es : List Event) → Lawful calls s es → (drives_of (after_all calls s es)).pending ≡ [] → Lawful calls s (es ++ (runs restart ∷ []))
    -- a cut in the store of any call, or between calls, that leaves of each store that may not be down what it may (`MediumLaws` tells what that is)
    pub a_cut : (s : System) (es : List Event) → Lawful calls s es → IsUp (after_all calls s es) → (c : Option Call) (left : List AfterCut)
        → EachMayLeave (stores_at calls c (after_all calls s es)) left → Lawful calls s (es ++ (cut c left ∷ []))
    -- and the power may fail again before restart
    pub a_second_cut : (s : System) (es : List Event) (m : List ℕ) → Lawful calls s es → after_all calls s es ≡ down m → Lawful calls s (es ++ (cut none [] ∷ []))

  -- "further advance calls, uncut, with any reads and writes but no other call between", and "flushed calls .. and refused ones": what may be
  -- added to further calls
  pub record FurtherCovered : Type 0 where
    pub no_call_yet : (s : System) → AllFurther calls s []
    pub an_advance : (s : System) (es : List Event) → AllFurther calls s es → AllFurther calls s (es ++ (runs advance ∷ []))
    pub a_write : (s : System) (es : List Event) → AllFurther calls s es → (x : ℕ) (piece : List ℕ) → AllFurther calls s (es ++ (runs (write x piece) ∷ []))
    pub a_read : (s : System) (es : List Event) → AllFurther calls s es → (x : ℕ) (piece : List ℕ) → AllFurther calls s (es ++ (runs (read x piece) ∷ []))
    pub a_flushed : (s : System) (es : List Event) → AllFurther calls s es → AllFurther calls s (es ++ (runs flushed ∷ []))
    pub a_refused : (s : System) (es : List Event) → AllFurther calls s es → (c : Call) → is_accepted calls c (after_all calls s es) ≡ false
        → AllFurther calls s (es ++ (runs c ∷ []))

-- drives that keep no store: each of document 01's events is there on our drives, with a flushed after each call, and nothing else; and what may
-- be added to further calls
pub record DirectListsCovered : Type 0 where
  pub from_format_law : (es : List DirectEvent) → from_format es ≡ runs flushed ∷ flushed_after es
  pub no_event : flushed_after [] ≡ []
  pub a_call : (es : List DirectEvent) (c : Call) → flushed_after (es ++ (ends c ∷ [])) ≡ flushed_after es ++ (runs c ∷ runs flushed ∷ [])
  pub a_cut : (es : List DirectEvent) (c : Call) (left : AfterCut) → flushed_after (es ++ (fails c left ∷ [])) ≡ flushed_after es ++ (cut (some c) (left ∷ []) ∷ [])
  pub no_call_yet : DirectFurther []
  pub an_advance : (es : List DirectEvent) → DirectFurther es → DirectFurther (es ++ (ends advance ∷ []))
  pub a_write : (es : List DirectEvent) → DirectFurther es → (x : ℕ) (piece : List ℕ) → DirectFurther (es ++ (ends (write x piece) ∷ []))
  pub a_read : (es : List DirectEvent) → DirectFurther es → (x : ℕ) (piece : List ℕ) → DirectFurther (es ++ (ends (read x piece) ∷ []))
