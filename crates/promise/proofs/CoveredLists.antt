-- Which lists demand 3 is about.
use Prim.Native.Nat.{ℕ}
use mathlib.Core.Path.{◌≡◌, refl, sym, subst}
use mathlib.Core.Bool.{false}
use mathlib.Core.List.{List, [], ◌∷◌, ◌++◌}
use mathlib.Core.Logic.{inl, inr}
use mathlib.Core.Option.{Option, none, some}
use Rattle.medium.specs.Medium.{Observations, AfterCut, EachMayLeave}
use Rattle.volume.specs.declared.Volume.{Volume}
use Rattle.volume.specs.Calls.{Outcome}
use Rattle.promise.specs.Calls.{Call, advance, write, read, restart, flushed}
use Rattle.promise.specs.Lists.{Event, runs, cut, System, up, down, drives_of, IsUp, NoEarlyCut, stores_at, is_accepted, after, after_all, Allowed, Lawful, Further, AllFurther}
use Rattle.promise.specs.WithoutCache.{DirectEvent, ends, fails, flushed_after, from_format, DirectFurther}
use Rattle.promise.proofs.WithoutCache.{flushed_append}
use Rattle.promise.proofs.DirectLists.{direct_then}
use Rattle.promise.specs.CoveredLists.{CallsOnly, no_call, one_more, EarlyListsCovered, ListsCovered, FurtherCovered, DirectListsCovered}

-- ---- no cut before the first flushed

no_flushed : (es : List Event) → CallsOnly es → NoEarlyCut es
unfolding NoEarlyCut
no_flushed [] no_call = tt
no_flushed (runs c ∷ es) (one_more h) = inr (no_flushed es h)
no_flushed (cut c left ∷ es) h = elim h [ ]

after_flushed : (es rest : List Event) → CallsOnly es → NoEarlyCut (es ++ (runs flushed ∷ rest))
unfolding NoEarlyCut
after_flushed [] rest no_call = inl refl
after_flushed (runs c ∷ es) rest (one_more h) = inr (after_flushed es rest h)
after_flushed (cut c left ∷ es) rest h = elim h [ ]

early_call : (es : List Event) → NoEarlyCut es → (c : Call) → NoEarlyCut (es ++ (runs c ∷ []))
unfolding NoEarlyCut
early_call [] h c = inr tt
early_call (runs d ∷ es) (inl e) c = inl e
early_call (runs d ∷ es) (inr h) c = inr (early_call es h c)
early_call (cut d left ∷ es) h c = absurd h

pub early_lists_covered : EarlyListsCovered
early_lists_covered = record { no_flushed = no_flushed; after_flushed = after_flushed; a_call = early_call }

module _ (calls : (c : Call) (v : Volume) (o : Observations) → Outcome) where
  -- ---- lawful lists

  lawful_then : (s : System) (es : List Event) (e : Event) → Lawful calls s es → Allowed calls (after_all calls s es) e → Lawful calls s (es ++ (e ∷ []))
  unfolding Lawful after_all
  lawful_then s [] e l h = (h, tt)
  lawful_then s (f ∷ es) e l h = (l.0, lawful_then (after calls s f) es e l.1 h)

  a_call : (s : System) (es : List Event) → Lawful calls s es → IsUp (after_all calls s es) → (c : Call) → (c ≡ restart → ⊥) → Lawful calls s (es ++ (runs c ∷ []))
  unfolding IsUp Allowed
  a_call s es l u c other = lawful_then s es (runs c) l (may (after_all calls s es) u)
    where
      may : (t : System) → IsUp t → Allowed calls t (runs c)
      may (up v d) u = λ e. absurd (other e)
      may (down m) u = absurd u

  a_restart : (s : System) (es : List Event) → Lawful calls s es → (drives_of (after_all calls s es)).pending ≡ [] → Lawful calls s (es ++ (runs restart ∷ []))
  unfolding drives_of Allowed
  a_restart s es l h = lawful_then s es (runs restart) l (may (after_all calls s es) h)
    where
      may : (t : System) → (drives_of t).pending ≡ [] → Allowed calls t (runs restart)
      may (up v d) h = λ e. h
      may (down m) h = refl

  a_cut : (s : System) (es : List Event) → Lawful calls s es → IsUp (after_all calls s es) → (c : Option Call) (left : List AfterCut)
      → EachMayLeave (stores_at calls c (after_all calls s es)) left → Lawful calls s (es ++ (cut c left ∷ []))
  unfolding IsUp Allowed
  a_cut s es l u c left h = lawful_then s es (cut c left) l (may (after_all calls s es) u h)
    where
      may : (t : System) → IsUp t → EachMayLeave (stores_at calls c t) left → Allowed calls t (cut c left)
      may (up v d) u h = h
      may (down m) u h = absurd u

  a_second_cut : (s : System) (es : List Event) (m : List ℕ) → Lawful calls s es → after_all calls s es ≡ down m → Lawful calls s (es ++ (cut none [] ∷ []))
  unfolding Allowed
  a_second_cut s es m l e = lawful_then s es (cut none []) l (subst (λ (t : System). Allowed calls t (cut none [])) (sym e) (refl, refl))

  pub lists_covered : ListsCovered calls
  unfolding Lawful
  lists_covered = record { no_event = λ s. tt; a_call = a_call; a_restart = a_restart; a_cut = a_cut; a_second_cut = a_second_cut }

  -- ---- further calls

  further_then : (s : System) (es : List Event) (e : Event) → AllFurther calls s es → Further calls (after_all calls s es) e → AllFurther calls s (es ++ (e ∷ []))
  unfolding AllFurther after_all
  further_then s [] e f h = (h, tt)
  further_then s (g ∷ es) e f h = (f.0, further_then (after calls s g) es e f.1 h)

  a_refused : (s : System) (es : List Event) → AllFurther calls s es → (c : Call) → is_accepted calls c (after_all calls s es) ≡ false
      → AllFurther calls s (es ++ (runs c ∷ []))
  a_refused s es f c e = further_then s es (runs c) f (Further.a_refused e)

  a_flushed : (s : System) (es : List Event) → AllFurther calls s es → AllFurther calls s (es ++ (runs flushed ∷ []))
  a_flushed s es f = further_then s es (runs flushed) f Further.a_flushed

  a_write : (s : System) (es : List Event) → AllFurther calls s es → (x : ℕ) (piece : List ℕ) → AllFurther calls s (es ++ (runs (write x piece) ∷ []))
  a_write s es f x piece = further_then s es (runs (write x piece)) f Further.a_write

  a_read : (s : System) (es : List Event) → AllFurther calls s es → (x : ℕ) (piece : List ℕ) → AllFurther calls s (es ++ (runs (read x piece) ∷ []))
  a_read s es f x piece = further_then s es (runs (read x piece)) f Further.a_read

  an_advance : (s : System) (es : List Event) → AllFurther calls s es → AllFurther calls s (es ++ (runs advance ∷ []))
  an_advance s es f = further_then s es (runs advance) f Further.an_advance

  pub further_covered : FurtherCovered calls
  unfolding AllFurther
  further_covered =
      record {
        no_call_yet = λ s. tt;
        an_advance = an_advance;
        a_write = a_write;
        a_read = a_read;
        a_flushed = a_flushed;
        a_refused = a_refused;
      }

-- ---- drives that keep no store

direct_call : (es : List DirectEvent) (c : Call) → flushed_after (es ++ (ends c ∷ [])) ≡ flushed_after es ++ (runs c ∷ runs flushed ∷ [])
unfolding flushed_after
direct_call es c = flushed_append es (ends c ∷ [])

direct_cut : (es : List DirectEvent) (c : Call) (left : AfterCut) → flushed_after (es ++ (fails c left ∷ [])) ≡ flushed_after es ++ (cut (some c) (left ∷ []) ∷ [])
unfolding flushed_after
direct_cut es c left = flushed_append es (fails c left ∷ [])

direct_write : (es : List DirectEvent) → DirectFurther es → (x : ℕ) (piece : List ℕ) → DirectFurther (es ++ (ends (write x piece) ∷ []))
direct_write es f x piece = direct_then es (ends (write x piece)) (DirectFurther.a_write DirectFurther.no_call) f

direct_read : (es : List DirectEvent) → DirectFurther es → (x : ℕ) (piece : List ℕ) → DirectFurther (es ++ (ends (read x piece) ∷ []))
direct_read es f x piece = direct_then es (ends (read x piece)) (DirectFurther.a_read DirectFurther.no_call) f

pub direct_lists_covered : DirectListsCovered
unfolding flushed_after from_format
direct_lists_covered =
    record {
      from_format_law = λ es. refl;
      no_event = refl;
      a_call = direct_call;
      a_cut = direct_cut;
      no_call_yet = DirectFurther.no_call;
      an_advance = λ es f. direct_then es (ends advance) (DirectFurther.an_advance DirectFurther.no_call) f;
      a_write = direct_write;
      a_read = direct_read;
    }
