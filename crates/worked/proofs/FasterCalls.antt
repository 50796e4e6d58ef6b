-- Stores and restart in a form that computes faster, equal to that of the specs. There each byte that is stored, and each byte of a record that
-- is read, is one more walk along the list.
use Prim.Native.Nat.{ℕ, ◌+◌}
use mathlib.Core.Bool.{Bool, true, false, cond, ◌&&◌, false≢true}
use mathlib.Core.List.{List, [], ◌∷◌, ◌++◌}
use mathlib.Core.Option.{none}
use mathlib.Core.Path.{◌≡◌, refl, sym, ap, ap₂, ◌∙◌, fun_ext}
use lib.Dec.{eqb, leb}
use lib.ListN.{length, take, drop}
use lib.Seq.{sets, sets-eq}
use borrow.Author.Tests.{leb-true, eqb-true}
use Rattle.base.proofs.Booleans.{cond_cases, and_left, and_right}
use Rattle.layout.specs.Tally.{open_blocks}
use Rattle.medium.specs.declared.Geometry.{Geometry}
use Rattle.medium.specs.Medium.{bytes_needed, Observations, Store, no_store, record_store, block_store, place, apply, AfterCut, cut_store, apply_cut, Placed, apply_all, apply_cuts}
use Rattle.record.specs.Sector.{growths_read, numbers_found, marks_found}
use Rattle.volume.specs.declared.Volume.{Volume}
use Rattle.volume.specs.Calls.{Outcome, reporting, restart_outcome}
use Rattle.volume.specs.Records.{record_of, state_of}
use Rattle.volume.specs.Sound.{sound}
use Rattle.volume.specs.States.{geometry, disks, tally_of, recorded_only}
use Rattle.promise.specs.Calls.{Call, grow, grow_beyond_doubling, copy, checkpoint, advance, write, read, restart, flushed}
use Rattle.promise.specs.Lists.{System, drives_of, medium_of}
use Rattle.promise.proofs.Consistent.{consistent_restarted}
use Rattle.promise.proofs.StateTallies.{tally_restarted}
use Rattle.promise.proofs.Steps.{restart_found}
use Rattle.worked.specs.WrongPrograms.{Act}
use Rattle.worked.proofs.Reflects.{Reflects, holds, fails, passed}

-- ---- stores, in one walk

unfoldable pub spliced : (m : List ℕ) (i : ℕ) (l : List ℕ) → List ℕ
spliced m i l = cond (leb (i + length l) (length m)) (take i m ++ l ++ drop (i + length l) m) (sets m i l)

spliced_same : (m : List ℕ) (i : ℕ) (l : List ℕ) → spliced m i l ≡ sets m i l
unfolding spliced
spliced_same m i l =
    cond_cases (λ (r : List ℕ). r ≡ sets m i l) (leb (i + length l) (length m)) (λ t. sym (sets-eq l m i (leb-true (i + length l) (length m) t))) (λ _. refl)

unfoldable pub applied : (g : Geometry) (s : Store) (m : List ℕ) → List ℕ
applied g no_store m = m
applied g (record_store sector) m = spliced m 0 sector
applied g (block_store p bytes) m = spliced m (place g p) bytes

applied_same : (g : Geometry) (s : Store) (m : List ℕ) → applied g s m ≡ apply g s m
unfolding applied apply
applied_same g no_store m = refl
applied_same g (record_store sector) m = spliced_same m 0 sector
applied_same g (block_store p bytes) m = spliced_same m (place g p) bytes

unfoldable pub all_applied : (stores : List Placed) (m : List ℕ) → List ℕ
all_applied [] m = m
all_applied (s ∷ stores) m = applied s.geometry s.store (all_applied stores m)

all_same : (stores : List Placed) (m : List ℕ) → all_applied stores m ≡ apply_all stores m
unfolding all_applied apply_all
all_same [] m = refl
all_same (s ∷ stores) m = applied_same s.geometry s.store (all_applied stores m) ∙ ap (apply s.geometry s.store) (all_same stores m)

unfoldable pub cuts_applied : (stores : List Placed) (left : List AfterCut) (m : List ℕ) → List ℕ
cuts_applied [] left m = m
cuts_applied (s ∷ stores) [] m = m
cuts_applied (s ∷ stores) (l ∷ left) m = applied s.geometry (cut_store s.store l) (cuts_applied stores left m)

pub cuts_same : (stores : List Placed) (left : List AfterCut) (m : List ℕ) → cuts_applied stores left m ≡ apply_cuts stores left m
unfolding cuts_applied apply_cuts apply_cut
cuts_same [] left m = refl
cuts_same (s ∷ stores) [] m = refl
cuts_same (s ∷ stores) (l ∷ left) m =
    applied_same s.geometry (cut_store s.store l) (cuts_applied stores left m) ∙ ap (apply s.geometry (cut_store s.store l)) (cuts_same stores left m)

-- the medium as calls see it
unfoldable pub medium_seen : (s : System) → List ℕ
medium_seen s = all_applied (drives_of s).pending (drives_of s).landed

pub seen_same : (s : System) → medium_seen s ≡ medium_of s
unfolding medium_seen medium_of
seen_same s = all_same (drives_of s).pending (drives_of s).landed

-- ---- restart: the bytes are compared with the record of the state that they tell

unfoldable pub same_bytes : (a b : List ℕ) → Bool
same_bytes [] [] = true
same_bytes [] (y ∷ b) = false
same_bytes (x ∷ a) [] = false
same_bytes (x ∷ a) (y ∷ b) = eqb x y && same_bytes a b

pub same_bytes_law : (a b : List ℕ) → same_bytes a b ≡ true → a ≡ b
unfolding same_bytes
same_bytes_law [] [] t = refl
same_bytes_law [] (y ∷ b) t = absurd (false≢true t)
same_bytes_law (x ∷ a) [] t = absurd (false≢true t)
same_bytes_law (x ∷ a) (y ∷ b) t =
    ap₂ (λ (z : ℕ) (l : List ℕ). z ∷ l) (eqb-true x y (and_left (eqb x y) (same_bytes a b) t)) (same_bytes_law a b (and_right (eqb x y) (same_bytes a b) t))

unfoldable pub state_told : (bytes : List ℕ) → Volume
state_told bytes = state_of (numbers_found bytes (growths_read bytes)) (marks_found bytes)

unfoldable pub is_record_of : (w : Volume) (o : Observations) → Bool
is_record_of w o = sound w && (same_bytes o.sector (record_of w) && leb (bytes_needed (geometry w) (disks w)) o.byte_count)

unfoldable pub restart_by_writing : (o : Observations) → Outcome
restart_by_writing o =
    let w = state_told o.sector in
    cond (is_record_of w o) (reporting (recorded_only w) no_store) (restart_outcome o)

restart_finds : (w : Volume) (o : Observations) → is_record_of w o ≡ true → restart_outcome o ≡ reporting (recorded_only w) no_store
unfolding is_record_of
restart_finds w o t =
    let compared = and_right (sound w) (same_bytes o.sector (record_of w) && leb (bytes_needed (geometry w) (disks w)) o.byte_count) t in
    restart_found
    (record {
      last = w;
      consistent =
          consistent_restarted w o (record { blocks = open_blocks (tally_of w); bytes = λ x. none })
          (record {
            is_sound = and_left (sound w) _ t;
            room = leb-true _ _ (and_right (same_bytes o.sector (record_of w)) _ compared);
            recorded = same_bytes_law _ _ (and_left (same_bytes o.sector (record_of w)) _ compared);
            same_open = refl;
            held = record { stands = λ x b below e. record { at_live = cc; at_target = λ _. cc } };
          });
      same_tally = sym (tally_restarted w);
      same_geometry = refl;
    })

pub restart_same : (o : Observations) → restart_by_writing o ≡ restart_outcome o
unfolding restart_by_writing
restart_same o =
    let w = state_told o.sector in
    cond_cases (λ (out : Outcome). out ≡ restart_outcome o) (is_record_of w o) (λ t. sym (restart_finds w o t)) (λ _. refl)

-- ---- the calls of a program

abbrev pub is_restart : (c : Call) → Bool
is_restart (grow count) = false
is_restart (grow_beyond_doubling count) = false
is_restart (copy x) = false
is_restart checkpoint = false
is_restart advance = false
is_restart (write x piece) = false
is_restart (read x piece) = false
is_restart restart = true
is_restart flushed = false

pub is_restart_law : (c : Call) → Reflects (c ≡ restart) (is_restart c)
is_restart_law (grow count) = fails (λ e. false≢true (ap is_restart e))
is_restart_law (grow_beyond_doubling count) = fails (λ e. false≢true (ap is_restart e))
is_restart_law (copy x) = fails (λ e. false≢true (ap is_restart e))
is_restart_law checkpoint = fails (λ e. false≢true (ap is_restart e))
is_restart_law advance = fails (λ e. false≢true (ap is_restart e))
is_restart_law (write x piece) = fails (λ e. false≢true (ap is_restart e))
is_restart_law (read x piece) = fails (λ e. false≢true (ap is_restart e))
is_restart_law restart = holds refl
is_restart_law flushed = fails (λ e. false≢true (ap is_restart e))

unfoldable pub faster : (calls : (c : Call) → Act) (c : Call) → Act
faster calls c v o = cond (is_restart c) (restart_by_writing o) (calls c v o)

-- a program whose restart is ours
abbrev pub OurRestart : (calls : (c : Call) → Act) → Type 0
OurRestart calls = (v : Volume) (o : Observations) → calls restart v o ≡ restart_outcome o

pub faster_same : (calls : (c : Call) → Act) → OurRestart calls → faster calls ≡ calls
unfolding faster
faster_same calls ours =
    fun_ext
    (λ c. fun_ext (λ v. fun_ext (λ o.
    cond_cases (λ (out : Outcome). out ≡ calls c v o) (is_restart c)
    (λ t. restart_same o ∙ sym (ours v o) ∙ ap (λ (d : Call). calls d v o) (sym (passed (is_restart_law c) t))) (λ _. refl))))
