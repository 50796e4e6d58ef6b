-- Lists that are not lawful, and lists that are, from every accepted format: `not_empty`.
use Prim.Native.Nat.{ℕ, ◌*◌, ◌<◌}
use mathlib.Core.Bool.{Bool, true, false, not, ◌&&◌, false≢true}
use mathlib.Core.List.{List, [], ◌∷◌}
use mathlib.Core.Option.{Option, none, some}
use mathlib.Core.Path.{◌≡◌, refl, sym, ap, ◌∙◌, subst}
use native.Mathlib.Nat.{mul-pos}
use lib.ListN.{length}
use borrow.Author.Tests.{le-ltb, lt-leb, eq-eqb, not-true}
use Rattle.base.specs.Refusals.{refusal}
use Rattle.base.proofs.Booleans.{and_left, and_right}
use Rattle.layout.specs.Limits.{most_disks, most_rows}
use Rattle.layout.specs.Tally.{waiting}
use Rattle.medium.specs.declared.Geometry.{Geometry}
use Rattle.medium.specs.Medium.{Observations, observe, torn_block, MayLeave, Placed, EachMayLeave}
use Rattle.volume.specs.declared.Pending.{Pending}
use Rattle.volume.specs.declared.Volume.{Volume}
use Rattle.volume.specs.Answers.{number, accepted, reported}
use Rattle.volume.specs.Calls.{Outcome, refused, doing, too_short, format_table, format_outcome, write_table, write_effect, write_outcome, flushed_outcome}
use Rattle.volume.specs.Sound.{rows_hold, disks_hold}
use Rattle.volume.specs.States.{none_pending, zeros}
use Rattle.volume.proofs.Accepted.{format_accepted}
use Rattle.volume.proofs.Judged.{judged_cases}
use Rattle.volume.proofs.SoundLaws.{from_one}
use Rattle.promise.specs.Calls.{Call, write, restart, flushed, settles}
use Rattle.promise.specs.Lists.{Event, runs, cut, Drives, medium_of, memory_of, drives_of, outcome, call_outcome, drives_after, stores_at, after, Allowed, later, NoEarlyCut, Lawful}
use Rattle.promise.specs.Model.{Model, leaving, step_of, with_save, stepped, start_tally, start_plain, start_model, accepting, nothing_pending, following, model_after}
use Rattle.promise.specs.Promise.{Start, formatted, begin}
use Rattle.promise.proofs.EventSteps.{flushed_pending, flushed_live, settling_accepted}
use Rattle.promise.proofs.Steps.{Up}
use Rattle.promise.proofs.Theorem.{start_geometry, start, block_open, piece_whole}
use Rattle.worked.specs.Worked.{worked_start, unlawful, early_cut, NoneLawful, NotEmpty}
use Rattle.worked.proofs.Reflects.{failed}
use Rattle.worked.proofs.FasterCalls.{is_restart_law, faster}
use Rattle.worked.proofs.Computed.{computed, not_lawful}
use Rattle.worked.proofs.Computing.{computing}
use Rattle.worked.proofs.Worked.{our_restart, hear_nothing, worked}

-- ---- lists that are not lawful

-- none of these lists passes
unfoldable none_allowed : (lists : List (List Event)) → Bool
none_allowed [] = true
none_allowed (es ∷ lists) = not (computed (faster call_outcome) hear_nothing (begin worked_start) es tt).lawful && none_allowed lists

none_lawful : (lists : List (List Event)) → none_allowed lists ≡ true → NoneLawful lists
unfolding none_allowed NoneLawful
none_lawful [] t = tt
none_lawful (es ∷ lists) t =
    let passes = (computed (faster call_outcome) hear_nothing (begin worked_start) es tt).lawful in (
      not_lawful call_outcome hear_nothing (begin worked_start) es tt our_restart (not-true passes (and_left (not passes) (none_allowed lists) t)),
      none_lawful lists (and_right (not passes) (none_allowed lists) t),
    )

unlawful_computed : none_allowed unlawful ≡ true
unfolding computing none_allowed
unlawful_computed = refl

-- ---- from every accepted format

-- a save of an open block that is not waiting may be cut
module _ {g : Geometry} {v : Volume} {o : Observations} {k : Model} {told : Option ℕ} (u : Up g v o k told) (down : v.pending.records ≡ false)
    (x : ℕ) (piece torn : List ℕ)
    (below : x < k.plain.blocks) (idle : waiting k.tally x ≡ false) (whole : length piece ≡ g.size) (same : length torn ≡ g.size) where
  write_passes : refusal (write_table v x (length piece) o.byte_count) ≡ 0
  unfolding refusal write_table too_short
  write_passes =
      rw (
        u.consistent.is_sound,
        le-ltb _ _ u.consistent.room,
        lt-leb _ _ (block_open u x piece below whole),
        eq-eqb (length piece) v.size (piece_whole u x piece below whole),
        sym u.same_tally,
        idle,
        down,
      )

  write_torn : MayLeave (write_outcome v x piece o).store (torn_block torn)
  unfolding write_outcome write_effect doing MayLeave
  write_torn =
      judged_cases (λ (out : Outcome). MayLeave out.store (torn_block torn)) (write_table v x (length piece) o.byte_count)
      (λ n. refused v n piece) _ (λ _. same ∙ sym whole) (λ f. absurd (f write_passes))

-- a formatted volume has a block
pub some_block : (z s n : ℕ) (o : Observations) → accepted (format_outcome z s n o).reply.answer ≡ true → 0 < n * s
unfolding format_outcome refused accepted number rows_hold disks_hold
some_block z s n o =
    judged_cases (λ (out : Outcome). accepted out.reply.answer ≡ true → 0 < n * s) (format_table z s n o.byte_count) (λ k. refused zeros k []) _
    (λ e _. let f = format_accepted z s n o.byte_count e in mul-pos (from_one n most_disks f.disks_hold_law).0 (from_one s most_rows f.rows_hold_law).0)
    (λ f ok. absurd (false≢true ok))

-- flushed is no restart
no_restart : {P : Type 0} → flushed ≡ restart → P
no_restart e = absurd (failed (is_restart_law flushed) refl e)

module _ (a : Start) (ok : accepted (formatted a).reply.answer ≡ true) where
  abbrev formatted_state : Volume
  formatted_state = (formatted a).reply.state

  abbrev flushed_drives : Drives
  flushed_drives = drives_after call_outcome flushed (begin a)

  flushed_accepted : accepted (flushed_outcome formatted_state).reply.answer ≡ true
  unfolding call_outcome settles
  flushed_accepted = settling_accepted false _ _ _ _ _ (start a ok) flushed refl

  -- nothing is pending then
  settled : flushed_drives.pending ≡ []
  unfolding drives_after begin settles outcome call_outcome memory_of
  settled = rw flushed_accepted refl

  state_settled : (flushed_outcome formatted_state).reply.state.pending.records ≡ false
  unfolding none_pending
  state_settled = ap (λ (p : Pending). p.records) (flushed_pending false _ _ _ _ _ (start a ok))

  flushed_up : Up (start_geometry a) (flushed_outcome formatted_state).reply.state (observe (medium_of (after call_outcome (begin a) (runs flushed))))
      (start_model a.rows a.disks) (later none (reported (flushed_outcome formatted_state).reply.answer))
  unfolding begin after drives_after settles outcome call_outcome memory_of drives_of medium_of model_after following accepting step_of leaving stepped with_save nothing_pending
  flushed_up =
      let l = flushed_live false _ _ _ _ _ (start a ok) in
      rw flushed_accepted (rw flushed_accepted at l.up)

  pub every_call : (c : Call) → Lawful call_outcome (begin a) (runs flushed ∷ runs c ∷ [])
  unfolding begin Lawful Allowed after
  every_call c = (no_restart, ((λ e. settled), tt))

  pub a_cut : (piece torn : List ℕ) → length piece ≡ a.size → length torn ≡ a.size
      → Lawful call_outcome (begin a) (runs flushed ∷ cut (some (write 0 piece)) (torn_block torn ∷ []) ∷ runs restart ∷ [])
  unfolding begin Lawful Allowed after stores_at EachMayLeave outcome call_outcome memory_of drives_of start_model start_plain start_tally waiting formatted
  a_cut piece torn whole same = (
    no_restart,
    (
      (
        write_torn flushed_up state_settled 0 piece torn (some_block a.size a.rows a.disks _ ok) refl whole same,
        subst (λ (l : List Placed). EachMayLeave l []) (sym settled) tt,
      ),
      (refl, tt),
    ),
  )

-- ---- a list that is lawful and not covered

early_lawful : Lawful call_outcome (begin worked_start) early_cut
unfolding computing early_cut Lawful Allowed stores_at EachMayLeave MayLeave
early_lawful = ((tt, tt), tt)

not_covered : NoEarlyCut early_cut → ⊥
unfolding NoEarlyCut early_cut
not_covered e = e

pub not_empty : NotEmpty
not_empty =
    record {
      worked = worked;
      not_lawful = none_lawful unlawful unlawful_computed;
      early_lawful = early_lawful;
      not_covered = not_covered;
      every_call = every_call;
      a_cut = a_cut;
    }
