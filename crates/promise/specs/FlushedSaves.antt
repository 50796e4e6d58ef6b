-- Document 02, W4: "Rack users keep the old guarantee for saves made before the last flushed." What a read gives of such a save, said of calls,
-- lists and bytes alone, with no plain volume and no tally: `FlushedSaves`, and on drives that keep no store `SavesWithoutCache`.
-- `proofs/FlushedSaves.antt` has the proofs, `flushed_saves` and `saves_without_cache`.
use Rattle.std.specs.Prelude.{ℕ, ◌≡◌, true, List, [], ◌∷◌, ◌++◌, length}
use Rattle.std.proofs.Math.Option.{none, some}
use Rattle.medium.specs.Medium.{Observations}
use Rattle.volume.specs.declared.Volume.{Volume}
use Rattle.volume.specs.Answers.{accepted}
use Rattle.volume.specs.Calls.{Outcome}
use Rattle.promise.specs.Calls.{Call, write, read, flushed}
use Rattle.promise.specs.Lists.{call_outcome, Event, runs, cut, outcome, is_accepted, NoEarlyCut, Lawful, IsUp}
use Rattle.promise.specs.Promise.{Start, formatted, begin, system_after}
use Rattle.promise.specs.WithoutCache.{DirectEvent, ends, flushed_after, from_format, system_without}
use Rattle.promise.specs.SavesKept.{Saves}
use Rattle.promise.specs.CoveredLists.{CallsOnly}

-- events with no write of block x, accepted, refused or cut
unfoldable pub Spares : (x : ℕ) (e : Event) → Type 0
Spares x (runs c) = Saves c x → ⊥
Spares x (cut none left) = Unit {0}
Spares x (cut (some c) left) = Saves c x → ⊥

unfoldable pub AllSpare : (x : ℕ) (es : List Event) → Type 0
AllSpare x [] = Unit {0}
AllSpare x (e ∷ es) = Spares x e × AllSpare x es

-- any events; a save; calls; a flushed; any events
unfoldable pub saved_and_flushed : (before : List Event) (x : ℕ) (piece : List ℕ) (between rest : List Event) → List Event
saved_and_flushed before x piece between rest = before ++ (runs (write x piece) ∷ (between ++ (runs flushed ∷ rest)))

module _ (calls : (c : Call) (v : Volume) (o : Observations) → Outcome) where
  -- the read is accepted, and gives the piece that was saved
  pub record GivesPiece (a : Start) (es : List Event) (x : ℕ) (piece into : List ℕ) : Type 0 where
    pub is_accepted_law : is_accepted calls (read x into) (system_after calls a es) ≡ true
    pub bytes_read : (outcome calls (read x into) (system_after calls a es)).piece ≡ piece

  -- an accepted save, with no cut before the next flushed, and no write of its block since: whatever else is called, and wherever the power fails
  -- after that flushed, a read into a piece of its size gives it
  abbrev pub FlushedSavesOf : Type 0
  FlushedSavesOf =
      (a : Start) → accepted (formatted a).reply.answer ≡ true → (before : List Event) (x : ℕ) (piece : List ℕ) (between rest : List Event)
      → Lawful calls (begin a) (saved_and_flushed before x piece between rest) → NoEarlyCut (saved_and_flushed before x piece between rest)
      → is_accepted calls (write x piece) (system_after calls a before) ≡ true → CallsOnly between → AllSpare x between → AllSpare x rest
      → IsUp (system_after calls a (saved_and_flushed before x piece between rest)) → (into : List ℕ) → length into ≡ a.size
      → GivesPiece a (saved_and_flushed before x piece between rest) x piece into

  -- the same on drives that keep no store (document 01): flushed follows every call, so that a save is kept when its call returns
  abbrev pub SavesWithoutCacheOf : Type 0
  SavesWithoutCacheOf =
      (a : Start) → accepted (formatted a).reply.answer ≡ true → (before : List DirectEvent) (x : ℕ) (piece : List ℕ) (rest : List DirectEvent)
      → Lawful calls (begin a) (from_format (before ++ (ends (write x piece) ∷ rest))) → is_accepted calls (write x piece) (system_without calls a before) ≡ true
      → AllSpare x (flushed_after rest) → IsUp (system_without calls a (before ++ (ends (write x piece) ∷ rest))) → (into : List ℕ) → length into ≡ a.size
      → GivesPiece a (from_format (before ++ (ends (write x piece) ∷ rest))) x piece into

-- of our calls
abbrev pub FlushedSaves : Type 0
FlushedSaves = FlushedSavesOf call_outcome

abbrev pub SavesWithoutCache : Type 0
SavesWithoutCache = SavesWithoutCacheOf call_outcome
