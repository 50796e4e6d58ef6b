-- Looking up the blocks of a sound state: a live spot lies in the medium, the reason told is true, address and holder are inverse to each
-- other, and after a finished growth 15 never occurs.
use Prim.Native.Nat.{ℕ, ◌-◌, ◌≤◌, ◌<◌}
use mathlib.Core.Path.{◌≡◌, refl, sym, ap, ◌∙◌}
use mathlib.Core.Bool.{Bool, true, false, cond, not, false≢true}
use mathlib.Core.List.{[], ◌∷◌}
use mathlib.Core.Logic.{◌≢◌, ⊎_elim}
use mathlib.Core.Option.{Option, none, some}
use native.Mathlib.Omega.{arith}
use lib.Dec.{eqb, leb}
use lib.ListN.{length}
use borrow.Author.Tests.{eqb-false, eq-eqb, ne_eqb, lt-leb, not-false}
use Rattle.std.specs.Prelude.{Ok, Err}
use Rattle.base.specs.declared.Refusal.{Refusal}
use Rattle.base.specs.Refusals.{refusal, refusal_with}
use Rattle.base.proofs.Booleans.{clash}
use Rattle.layout.specs.declared.Spot.{Spot}
use Rattle.layout.specs.History.{Within, history, earlier}
use Rattle.layout.specs.Laws.{ReasonTrue, LookUps, MovesTrue, LiveMoves}
use Rattle.layout.specs.Tally.{not_growing, growing, is_running, open_blocks, live_spot_of, live_block_of, growths_of, live_reason_of, live_move_count_of, live_address_of}
use Rattle.layout.proofs.HistoryCode.{history_length}
use Rattle.layout.proofs.Histories.{earlier_length}
use Rattle.layout.proofs.Theorems as layout
use Rattle.medium.specs.Medium.{bytes_needed, Inside}
use Rattle.medium.proofs.Theorems.{medium_laws}
use Rattle.volume.specs.declared.Volume.{Volume}
use Rattle.volume.specs.Answers.{address_number, spot_told, reason_told, moves_told, holder_number, block_told}
use Rattle.volume.specs.Calls.{address_table, address_reply, is_none, block_found, holder_table, holder_reply}
use Rattle.volume.specs.Sound.{sound}
use Rattle.volume.specs.States.{geometry, history_of, disks, mode_of, tally_of}
use Rattle.volume.proofs.Accepted.{address_accepted, holder_accepted}
use Rattle.volume.proofs.Judged.{Tells, accepted_when}
use Rattle.volume.proofs.RefusalLaws.{address_refuses, holder_refuses}
use Rattle.volume.proofs.SoundLaws.{sound_facts, some_old}

-- a state whose growth runs
running_number : (g : ℕ) → is_running (mode_of g) ≡ true → eqb g 0 ≡ false
unfolding mode_of
running_number g e = by (eqb g 0) e
  where
    by : (t : Bool) → is_running (cond t not_growing growing) ≡ true → t ≡ false
    by true e = absurd (false≢true e)
    by false e = refl

pub look_ups_of : (v : Volume) → sound v ≡ true → LookUps (tally_of v)
unfolding tally_of history_of
look_ups_of v e =
    layout.look_ups (tally_of v) (sound_facts v e).limits.rise
    (λ m. some_old v e (eqb-false v.growing 0 (running_number v.growing m)))

pub live_moves_of : (v : Volume) → sound v ≡ true → LiveMoves (tally_of v)
unfolding tally_of history_of
live_moves_of v e =
    layout.live_moves (tally_of v) (sound_facts v e).limits.rise
    (λ m. some_old v e (eqb-false v.growing 0 (running_number v.growing m)))

pub live_inside : (v : Volume) (x len : ℕ) → sound v ≡ true → x < open_blocks (tally_of v) → bytes_needed (geometry v) (disks v) ≤ len
    → Inside (geometry v) len (live_spot_of (tally_of v) x)
unfolding tally_of geometry disks
live_inside v x len e h k =
    let w = (look_ups_of v e).live_within x h in
    let i = medium_laws.inside (geometry v) (disks v) (live_spot_of (tally_of v) x) w.disk w.row in
    record { row = i.row; fits = omega (arith, i.fits) }

-- ---- address and holder

found_some : (v : Volume) (p : Spot) (x : ℕ) → sound v ≡ true → Within v.rows (history_of v) p → live_block_of (tally_of v) p ≡ some x
    → refusal (holder_table v p) ≡ 0
unfolding holder_table disks refusal
found_some v p x e w f =
    rw (e, lt-leb (disks v) p.disk w.disk, lt-leb v.rows p.row.0 w.row, f)

pub is_open : (v : Volume) (x : ℕ) → sound v ≡ true → x < open_blocks (tally_of v) → refusal (address_table v x) ≡ 0
unfolding address_table refusal
is_open v x e h = rw (e, lt-leb (open_blocks (tally_of v)) x h)

-- the reply of address, where its table refuses and where it does not
pub address_refused : (v : Volume) (x : ℕ) (r : Refusal) → Tells (refusal (address_table v x)) r
    → address_reply v x ≡ record { state = v; answer = Err r }
unfolding address_reply
address_refused v x r f = simp (ne_eqb (refusal (address_table v x)) 0 f.0, f.1)

pub address_found : (v : Volume) (x : ℕ) → refusal (address_table v x) ≡ 0
    → address_reply v x ≡ record { state = v; answer = Ok (live_address_of (tally_of v) x) }
unfolding address_reply
address_found v x e = accepted_when (address_table v x) (λ k. record { state = v; answer = Err (refusal_with k) }) _ e

-- the spot, the reason and the block that are told
spot_told_law : (v : Volume) (x : ℕ) → refusal (address_table v x) ≡ 0 → spot_told (address_reply v x).answer ≡ live_spot_of (tally_of v) x
unfolding spot_told live_address_of
spot_told_law v x e = rw (address_found v x e)

pub reason_told_law : (v : Volume) (x : ℕ) → refusal (address_table v x) ≡ 0 → reason_told (address_reply v x).answer ≡ live_reason_of (tally_of v) x
unfolding reason_told live_address_of
reason_told_law v x e = rw (address_found v x e)

pub address_reason : (v : Volume) (x : ℕ) → address_number (address_reply v x).answer ≡ 0
    → ReasonTrue v.rows (growths_of (tally_of v) x) x (reason_told (address_reply v x).answer)
unfolding tally_of
address_reason v x e =
    let r : refusal (address_table v x) ≡ 0 = sym (address_refuses v x).number_told ∙ e in
    let f = address_accepted v x r in
    rw (reason_told_law v x r) ((look_ups_of v f.is_sound).live_reason x f.block_open)

moves_told_law : (v : Volume) (x : ℕ) → refusal (address_table v x) ≡ 0 → moves_told (address_reply v x).answer ≡ live_move_count_of (tally_of v) x
unfolding moves_told live_address_of
moves_told_law v x e = rw (address_found v x e)

-- the growths that made a live spot are at most t
growths_made : (v : Volume) (x : ℕ) → sound v ≡ true → length (growths_of (tally_of v) x) - 1 ≤ v.growths
unfolding tally_of history_of
growths_made v x e =
    let h = history v.growths v.counts in
    let all = history_length v.growths v.counts in
    ⊎_elim (λ (q : growths_of (tally_of v) x ≡ h). rw q (omega (arith, all)))
    (λ (q : growths_of (tally_of v) x ≡ earlier h). rw q (omega (arith, all, earlier_length h)))
    ((look_ups_of v e).all_or_earlier x)

pub address_moves : (v : Volume) (x : ℕ) → address_number (address_reply v x).answer ≡ 0
    → (let answer = (address_reply v x).answer in
    MovesTrue v.rows (growths_of (tally_of v) x) x (reason_told answer) (moves_told answer) × (moves_told answer ≤ v.growths))
unfolding tally_of
address_moves v x e =
    let r : refusal (address_table v x) ≡ 0 = sym (address_refuses v x).number_told ∙ e in
    let f = address_accepted v x r in
    let true_moves = (live_moves_of v f.is_sound).live_moves_true x in
    rw (reason_told_law v x r, moves_told_law v x r) (true_moves, omega (arith, true_moves.most_growths, growths_made v x f.is_sound))

block_told_law : (v : Volume) (p : Spot) → refusal (holder_table v p) ≡ 0 → block_told (holder_reply v p).answer ≡ block_found (live_block_of (tally_of v) p)
unfolding holder_reply block_told
block_told_law v p e = rw (eq-eqb (refusal (holder_table v p)) 0 e)

pub holder_of_address : (v : Volume) (x : ℕ) → address_number (address_reply v x).answer ≡ 0
    → (let p = spot_told (address_reply v x).answer in (holder_number (holder_reply v p).answer ≡ 0) × (block_told (holder_reply v p).answer ≡ x))
unfolding tally_of
holder_of_address v x e =
    let r : refusal (address_table v x) ≡ 0 = sym (address_refuses v x).number_told ∙ e in
    let f = address_accepted v x r in
    let p = live_spot_of (tally_of v) x in
    let look = look_ups_of v f.is_sound in
    let b : live_block_of (tally_of v) p ≡ some x = look.block_of_live x f.block_open in
    let n : refusal (holder_table v p) ≡ 0 = found_some v p x f.is_sound (look.live_within x f.block_open) b in
    rw (spot_told_law v x r) ((holder_refuses v p).number_told ∙ n, block_told_law v p n ∙ ap block_found b)

pub address_of_holder : (v : Volume) (p : Spot) → holder_number (holder_reply v p).answer ≡ 0
    → (let x = block_told (holder_reply v p).answer in (address_number (address_reply v x).answer ≡ 0) × (spot_told (address_reply v x).answer ≡ p))
unfolding tally_of
address_of_holder v p e =
    let r : refusal (holder_table v p) ≡ 0 = sym (holder_refuses v p).number_told ∙ e in
    let f = holder_accepted v p r in
    let x = f.block_there_law.0 in
    let l = (look_ups_of v f.is_sound).live_of_block p x f.spot_within f.block_there_law.1 in
    let n : refusal (address_table v x) ≡ 0 = is_open v x f.is_sound l.0 in
    rw (block_told_law v p r ∙ ap block_found f.block_there_law.1)
    ((address_refuses v x).number_told ∙ n, spot_told_law v x n ∙ l.1)

-- 15 is told only of a spot where no block lives
fifteen : (a b c d : Bool) → refusal ((1, a) ∷ (14, b) ∷ (14, c) ∷ (15, d) ∷ []) ≡ 15 → (a ≡ false) × (d ≡ true)
unfolding refusal
fifteen true b c d e = absurd (omega arith)
fifteen false true c d e = absurd (omega arith)
fifteen false false true d e = absurd (omega arith)
fifteen false false false true e = (refl, refl)
fifteen false false false false e = absurd (omega arith)

none_there : (found : Option ℕ) → is_none found ≡ true → found ≡ none
none_there none e = refl
none_there (some x) e = clash e refl

pub at_rest_no_15 : (v : Volume) (p : Spot) → v.growing ≡ 0 → holder_number (holder_reply v p).answer ≢ 15
unfolding holder_table tally_of mode_of
at_rest_no_15 v p g e =
    let q = fifteen (not (sound v)) (leb (disks v) p.disk) (leb v.rows p.row.0) (is_none (live_block_of (tally_of v) p)) (sym (holder_refuses v p).number_told ∙ e) in
    (look_ups_of v (not-false (sound v) q.0)).each_spot_taken (rw g) p (none_there (live_block_of (tally_of v) p) q.1)
