-- One call more behind the further calls of drives that keep no store.
use mathlib.Core.List.{List, [], ◌∷◌, ◌++◌}
use Rattle.promise.specs.Calls.{advance, write, read, restart, flushed}
use Rattle.promise.specs.WithoutCache.{DirectEvent, ends, fails, DirectFurther}

pub direct_then : (es : List DirectEvent) (e : DirectEvent) → DirectFurther (e ∷ []) → DirectFurther es → DirectFurther (es ++ (e ∷ []))
direct_then [] e more DirectFurther.no_call = more
direct_then (ends advance ∷ es) e more (DirectFurther.an_advance f) = DirectFurther.an_advance (direct_then es e more f)
direct_then (ends (write x piece) ∷ es) e more (DirectFurther.a_write f) = DirectFurther.a_write (direct_then es e more f)
direct_then (ends (read x piece) ∷ es) e more (DirectFurther.a_read f) = DirectFurther.a_read (direct_then es e more f)
direct_then (ends (Rattle.promise.specs.Calls.grow count) ∷ es) e more f = elim f [ ]
direct_then (ends (Rattle.promise.specs.Calls.grow_beyond_doubling count) ∷ es) e more f = elim f [ ]
direct_then (ends (Rattle.promise.specs.Calls.copy x) ∷ es) e more f = elim f [ ]
direct_then (ends Rattle.promise.specs.Calls.checkpoint ∷ es) e more f = elim f [ ]
direct_then (ends restart ∷ es) e more f = elim f [ ]
direct_then (ends flushed ∷ es) e more f = elim f [ ]
direct_then (fails c left ∷ es) e more f = elim f [ ]
