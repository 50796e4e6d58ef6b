-- A list of events computed once: whether it is lawful, what plain volume and tally are fed, and what is heard of its calls: `computed`.
use Prim.Native.Nat.{ℕ}
use mathlib.Core.Bool.{Bool, true, false, cond, not, ◌&&◌, ◌||◌}
use mathlib.Core.List.{List, [], ◌∷◌, ◌++◌}
use mathlib.Core.Option.{Option, none, some}
use mathlib.Core.Path.{◌≡◌, refl, sym, ap, ap₂, ◌∙◌, subst}
use lib.Dec.{eqb}
use lib.ListN.{length, take, drop}
use Rattle.medium.specs.Medium.{observe, Store, no_store, record_store, block_store, AfterCut, torn_block, old_record, new_record, MayLeave, Placed, placed, also_pending, EachMayLeave}
use Rattle.volume.specs.Answers.{accepted}
use Rattle.volume.specs.Calls.{Outcome}
use Rattle.volume.specs.States.{geometry}
use Rattle.promise.specs.Calls.{Call, settles, Fed, ended, cut_in}
use Rattle.promise.specs.Lists.{Event, runs, cut, System, up, down, drives_of, memory_of, medium_of, cut_left, outcome, drives_after, stores_at, after, Allowed, fed, after_all, Lawful, fed_all}
use Rattle.promise.specs.Model.{Model, start_model, nothing_pending, modelled}
use Rattle.promise.specs.Promise.{Start, begin, model_of}
use Rattle.worked.specs.WrongPrograms.{Act}
use Rattle.worked.proofs.Reflects.{Reflects, holds, fails, passed, failed, both, implies, same_number, is_empty, is_empty_law, is_nothing, is_nothing_law}
use Rattle.worked.proofs.FasterCalls.{cuts_applied, cuts_same, medium_seen, seen_same, is_restart, is_restart_law, faster, OurRestart, faster_same}

-- ---- whether an event may come, as a test

unfoldable pub may_leave : (s : Store) (l : AfterCut) → Bool
may_leave no_store l = false
may_leave (record_store sector) (torn_block bytes) = false
may_leave (record_store sector) old_record = true
may_leave (record_store sector) new_record = true
may_leave (block_store p stored) (torn_block bytes) = eqb (length bytes) (length stored)
may_leave (block_store p stored) old_record = false
may_leave (block_store p stored) new_record = false

may_leave_law : (s : Store) (l : AfterCut) → Reflects (MayLeave s l) (may_leave s l)
unfolding may_leave MayLeave
may_leave_law no_store l = fails (λ e. e)
may_leave_law (record_store sector) (torn_block bytes) = fails (λ e. e)
may_leave_law (record_store sector) old_record = holds tt
may_leave_law (record_store sector) new_record = holds tt
may_leave_law (block_store p stored) (torn_block bytes) = same_number (length bytes) (length stored)
may_leave_law (block_store p stored) old_record = fails (λ e. e)
may_leave_law (block_store p stored) new_record = fails (λ e. e)

unfoldable pub each_may_leave : (stores : List Placed) (left : List AfterCut) → Bool
each_may_leave [] [] = true
each_may_leave [] (l ∷ left) = false
each_may_leave (s ∷ stores) [] = false
each_may_leave (s ∷ stores) (l ∷ left) = may_leave s.store l && each_may_leave stores left

each_may_leave_law : (stores : List Placed) (left : List AfterCut) → Reflects (EachMayLeave stores left) (each_may_leave stores left)
unfolding each_may_leave EachMayLeave
each_may_leave_law [] [] = holds tt
each_may_leave_law [] (l ∷ left) = fails (λ e. e)
each_may_leave_law (s ∷ stores) [] = fails (λ e. e)
each_may_leave_law (s ∷ stores) (l ∷ left) = both (may_leave_law s.store l) (each_may_leave_law stores left)

unfoldable pub may_run : (c : Call) (s : System) → Bool
may_run c (up v d) = not (is_restart c) || is_empty d.pending
may_run c (down m) = is_restart c

-- with the stores that may not be down
unfoldable pub may_cut : (c : Option Call) (s : System) (stores : List Placed) (left : List AfterCut) → Bool
may_cut c (up v d) stores left = each_may_leave stores left
may_cut c (down m) stores left = is_nothing c && is_empty left

module _ (calls : (c : Call) → Act) where
  pub may_run_law : (c : Call) (s : System) → Reflects (Allowed calls s (runs c)) (may_run c s)
  unfolding may_run Allowed
  may_run_law c (up v d) = implies (is_restart_law c) (is_empty_law d.pending)
  may_run_law c (down m) = is_restart_law c

  pub may_cut_law : (c : Option Call) (s : System) (left : List AfterCut) → Reflects (Allowed calls s (cut c left)) (may_cut c s (stores_at calls c s) left)
  unfolding may_cut Allowed
  may_cut_law c (up v d) left = each_may_leave_law (stores_at calls c (up v d)) left
  may_cut_law c (down m) left = both (is_nothing_law c) (is_empty_law left)

-- ---- a list of events

-- after a call that saw the medium m
unfoldable pub after_call : (c : Call) (s : System) (m : List ℕ) (out : Outcome) → System
after_call c s m out =
    up out.reply.state
    (cond (settles c && accepted out.reply.answer) (record { landed = m; pending = [] })
    (record { landed = (drives_of s).landed; pending = also_pending (geometry (memory_of s)) out.store (drives_of s).pending }))

module _ (calls : (c : Call) → Act) where
  unfoldable pub stores_seen : (c : Option Call) (s : System) → List Placed
  stores_seen none s = (drives_of s).pending
  stores_seen (some c) s = placed (geometry (memory_of s)) (calls c (memory_of s) (observe (medium_seen s))).store ∷ (drives_of s).pending

  pub stores_same : (c : Option Call) (s : System) → stores_seen c s ≡ stores_at calls c s
  unfolding stores_seen stores_at outcome
  stores_same none s = refl
  stores_same (some c) s = rw (seen_same s) refl

  pub run_same : (c : Call) (s : System) → after_call c s (medium_seen s) (calls c (memory_of s) (observe (medium_seen s))) ≡ after calls s (runs c)
  unfolding after_call after outcome drives_after
  run_same c s = rw (seen_same s) refl

  pub cut_same : (c : Option Call) (left : List AfterCut) (s : System) → down (cuts_applied (stores_seen c s) left (drives_of s).landed) ≡ after calls s (cut c left)
  unfolding after
  cut_same c left s = ap down (rw (stores_same c s) (cuts_same (stores_at calls c s) left (drives_of s).landed))

-- what is heard of a call that comes to its end, with the medium that it saw and what it did, after what was heard before
abbrev pub Hearing : (X : Type 0) → Type 0
Hearing X = (c : Call) (m : List ℕ) (out : Outcome) (before : X) → X

-- what a list comes to
pub record Result (X : Type 0) : Type 0 where
  pub lawful : Bool
  pub fed : List Fed
  pub heard : X

module _ (calls : (c : Call) → Act) {X : Type 0} (hear : Hearing X) where
  -- what is heard of its calls
  unfoldable pub heard_all : (s : System) (es : List Event) (before : X) → X
  heard_all s [] before = before
  heard_all s (runs c ∷ es) before = heard_all (after calls s (runs c)) es (hear c (medium_of s) (outcome calls c s) before)
  heard_all s (cut c left ∷ es) before = heard_all (after calls s (cut c left)) es before

  unfoldable pub computed : (s : System) (es : List Event) (before : X) → Result X
  computed s [] before = record { lawful = true; fed = []; heard = before }
  computed s (runs c ∷ es) before =
      let m = medium_seen s in
      let out = calls c (memory_of s) (observe m) in
      let rest = computed (after_call c s m out) es (hear c m out before) in
      record { lawful = may_run c s && rest.lawful; fed = ended c (accepted out.reply.answer) ∷ rest.fed; heard = rest.heard }
  computed s (cut c left ∷ es) before =
      let stores = stores_seen calls c s in
      let rest = computed (down (cuts_applied stores left (drives_of s).landed)) es before in
      record { lawful = may_cut c s stores left && rest.lawful; fed = cut_in c (cut_left left) ∷ rest.fed; heard = rest.heard }

  pub fed_same : (s : System) (es : List Event) (before : X) → (computed s es before).fed ≡ fed_all calls s es
  unfolding computed fed_all fed outcome
  fed_same s [] before = refl
  fed_same s (runs c ∷ es) before =
      rw (run_same calls c s, seen_same s) (ap (λ (fs : List Fed). ended c (accepted (outcome calls c s).reply.answer) ∷ fs) (fed_same (after calls s (runs c)) es _))
  fed_same s (cut c left ∷ es) before =
      rw (cut_same calls c left s) (ap (λ (fs : List Fed). cut_in c (cut_left left) ∷ fs) (fed_same (after calls s (cut c left)) es before))

  pub heard_same : (s : System) (es : List Event) (before : X) → (computed s es before).heard ≡ heard_all s es before
  unfolding computed heard_all outcome
  heard_same s [] before = refl
  heard_same s (runs c ∷ es) before =
      ap₂ (λ (t : System) (x : X). (computed t es x).heard) (run_same calls c s) (ap (λ (m : List ℕ). hear c m (calls c (memory_of s) (observe m)) before) (seen_same s))
      ∙ heard_same (after calls s (runs c)) es (hear c (medium_of s) (outcome calls c s) before)
  heard_same s (cut c left ∷ es) before =
      ap (λ (t : System). (computed t es before).heard) (cut_same calls c left s) ∙ heard_same (after calls s (cut c left)) es before

  pub is_lawful : (s : System) (es : List Event) (before : X) → Reflects (Lawful calls s es) (computed s es before).lawful
  unfolding computed Lawful
  is_lawful s [] before = holds tt
  is_lawful s (runs c ∷ es) before = rw (run_same calls c s) (both (may_run_law calls c s) (is_lawful (after calls s (runs c)) es _))
  is_lawful s (cut c left ∷ es) before =
      rw (cut_same calls c left s, stores_same calls c s) (both (may_cut_law calls c s left) (is_lawful (after calls s (cut c left)) es before))

-- ---- what a computed result says

pub record Facts (calls : (c : Call) → Act) {X : Type 0} (hear : Hearing X) (s : System) (es : List Event) (before : X) (fs : List Fed) (x : X) : Type 0 where
  pub lawful : Lawful calls s es
  pub all_fed_law : fed_all calls s es ≡ fs
  pub all_heard : heard_all calls hear s es before ≡ x

abbrev pub lawful_result : {X : Type 0} (fs : List Fed) (x : X) → Result X
lawful_result fs x = record { lawful = true; fed = fs; heard = x }

module _ (calls : (c : Call) → Act) {X : Type 0} (hear : Hearing X) (s : System) (es : List Event) (before : X) (fs : List Fed) (x : X) where
  facts : computed calls hear s es before ≡ lawful_result fs x → Facts calls hear s es before fs x
  facts e =
      record {
        lawful = passed (is_lawful calls hear s es before) (ap (λ (r : Result X). r.lawful) e);
        all_fed_law = sym (fed_same calls hear s es before) ∙ ap (λ (r : Result X). r.fed) e;
        all_heard = sym (heard_same calls hear s es before) ∙ ap (λ (r : Result X). r.heard) e;
      }

  pub faster_facts : OurRestart calls → computed (faster calls) hear s es before ≡ lawful_result fs x → Facts calls hear s es before fs x
  faster_facts ours e = facts (subst (λ (c : (c : Call) → Act). computed c hear s es before ≡ lawful_result fs x) (faster_same calls ours) e)

-- a test that passes of a program whose restart is ours, computed with the faster one
abbrev pub Tested : (calls : (c : Call) → Act) (test : ((c : Call) → Act) → Bool) → Type 0
Tested calls test = OurRestart calls × (test (faster calls) ≡ true)

pub tested : (calls : (c : Call) → Act) (test : ((c : Call) → Act) → Bool) → Tested calls test → test calls ≡ true
tested calls test t = subst (λ (c : (c : Call) → Act). test c ≡ true) (faster_same calls t.0) t.1

-- and of one that is not lawful
pub not_lawful : (calls : (c : Call) → Act) {X : Type 0} (hear : Hearing X) (s : System) (es : List Event) (before : X) → OurRestart calls
    → (computed (faster calls) hear s es before).lawful ≡ false → Lawful calls s es → ⊥
not_lawful calls hear s es before ours e =
    failed (is_lawful calls hear s es before) (subst (λ (p : (c : Call) → Act). (computed p hear s es before).lawful ≡ false) (faster_same calls ours) e)

-- whether the first call that plain volume and tally are fed was accepted
unfoldable pub accepted_first : (fs : List Fed) → Bool
accepted_first [] = false
accepted_first (ended c ok ∷ fs) = ok
accepted_first (cut_in c left ∷ fs) = false

-- ---- parts of a list

module _ (calls : (c : Call) → Act) where
  -- what is fed of the first events
  pub fed_before : (s : System) (es rest : List Event) → fed_all calls s es ≡ take (length es) (fed_all calls s (es ++ rest))
  unfolding fed_all
  fed_before s [] rest = refl
  fed_before s (e ∷ es) rest = ap (λ (fs : List Fed). fed calls s e ∷ fs) (fed_before (after calls s e) es rest)

  -- and of those after them
  pub fed_after : (s : System) (es rest : List Event) → fed_all calls (after_all calls s es) rest ≡ drop (length es) (fed_all calls s (es ++ rest))
  unfolding fed_all after_all
  fed_after s [] rest = refl
  fed_after s (e ∷ es) rest = fed_after (after calls s e) es rest

  -- what is heard of two lists
  pub heard_both : {X : Type 0} (hear : Hearing X) (s : System) (es rest : List Event) (before : X)
      → heard_all calls hear s (es ++ rest) before ≡ heard_all calls hear (after_all calls s es) rest (heard_all calls hear s es before)
  unfolding heard_all after_all
  heard_both hear s [] rest before = refl
  heard_both hear s (runs c ∷ es) rest before = heard_both hear (after calls s (runs c)) es rest (hear c (medium_of s) (outcome calls c s) before)
  heard_both hear s (cut c left ∷ es) rest before = heard_both hear (after calls s (cut c left)) es rest before

-- the model, of what it is fed
abbrev pub model_fed : (a : Start) (fs : List Fed) → Model
model_fed a fs = (modelled fs (nothing_pending (start_model a.rows a.disks))).current

pub model_fed_law : (calls : (c : Call) → Act) (a : Start) (es : List Event) (fs : List Fed) → fed_all calls (begin a) es ≡ fs → model_of calls a es ≡ model_fed a fs
unfolding model_of
model_fed_law calls a es fs e = ap (model_fed a) e
