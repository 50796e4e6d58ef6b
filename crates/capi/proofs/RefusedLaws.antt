-- What the exported functions leave: no call has the number of a wrong length, and a refused call leaves the words and the piece as they
-- were, zeros as figures and nothing stored.
use Prim.Native.Nat.{ℕ}
use mathlib.Core.Path.{◌≡◌, refl, ap, sym, ◌∙◌}
use mathlib.Core.Bool.{Bool, true, false, cond, not, false≢true}
use mathlib.Core.List.{List, [], ◌∷◌}
use mathlib.Core.Logic.{◌≢◌}
use native.Mathlib.Omega.{arith}
use lib.Dec.{eqb}
use lib.ListN.{length, take, replicate}
use Rattle.std.specs.Prelude.{Result, Ok, Err}
use Rattle.base.specs.declared.Refusal.{Refusal}
use Rattle.base.specs.Refusals.{refusal}
use Rattle.base.proofs.Booleans.{cond_cases, and_left}
use Rattle.base.proofs.Refusals.{all_numbers, never_told}
use Rattle.layout.specs.declared.Address.{Address}
use Rattle.layout.specs.declared.Block.{Block}
use Rattle.layout.specs.declared.Spot.{Spot}
use Rattle.layout.specs.Limits.{most_disks}
use Rattle.medium.specs.Medium.{Observations}
use Rattle.volume.specs.declared.Pending.{Pending}
use Rattle.volume.specs.declared.Volume.{Volume}
use Rattle.volume.specs.declared.Told.{Told}
use Rattle.volume.specs.Answers.{number, calls_told, block_copied, part_copied, address_number, holder_number, block_told}
use Rattle.volume.specs.Calls.{Outcome, refused, judged, format_table, format_outcome, restart_table, doubling_rows, grow_table_of, grow_table, grow_beyond_doubling_table, write_table, write_outcome, read_table, read_outcome, flushed_table, flushed_effect, flushed_outcome, doing, write_effect, read_effect, copy_table, checkpoint_table, advance_table, address_table, address_reply, holder_table, holder_reply}
use Rattle.volume.specs.Laws.{Refuses}
use Rattle.volume.specs.Records.{numbers_of}
use Rattle.volume.specs.States.{none_pending, pending_with, new_state, with_pending, zeros}
use Rattle.volume.proofs.Judged.{judged_cases}
use Rattle.volume.proofs.RecordCode.{eight_listed}
use Rattle.volume.proofs.Theorems.{volume_laws}
use Rattle.promise.specs.Calls.{Call, grow, grow_beyond_doubling, copy, checkpoint, advance, write, read, restart, flushed}
use Rattle.promise.specs.Lists.{call_outcome}
use Rattle.scene_load.specs.declared.Scene.{Scene}
use Rattle.scene_load.specs.Loads.{place_told, load_table, load_of, load_number}
use Rattle.scene_load.proofs.Theorems.{load_laws}
use Rattle.shelves.specs.Views.{ViewAnswer, shelves_table, view_table, view_answer, view_number}
use Rattle.shelves.proofs.Refusing.{view_told}
use Rattle.capi.specs.Exported.{Left, wrong_length, lengths_fit, state_fits, untouched, handed_back, looked_up, look_up_left, call_left, format_left, restart_left, grow_left, grow_beyond_doubling_left, copy_left, checkpoint_left, advance_left, write_left, read_left, flushed_left, address_left, holder_left, view_left, load_left}
use Rattle.capi.specs.Figures.{part_number, did_told, no_figures, calls_figures, advance_figures, address_figures, holder_figures, view_figures}
use Rattle.capi.specs.Laws.{RefusedLeft}
use Rattle.capi.specs.Words.{state_words, pending_word, words_of, state_from, are_state}
use Rattle.capi.proofs.WordLaws.{state_arrays, words_back, state_words_law}

-- ---- numbers

-- the number of a call is its table's
pub other_number : (table : List (ℕ × Bool)) (k : ℕ) → k ≡ refusal table → all_numbers (λ j. not (eqb j wrong_length)) table ≡ true → k ≢ wrong_length
other_number table k e h w = never_told wrong_length table (omega arith) h (sym e ∙ w)

pub format_number : (z s n : ℕ) (o : Observations) → number (format_outcome z s n o).reply.answer ≢ wrong_length
unfolding format_table
format_number z s n o = other_number (format_table z s n o.byte_count) _ (volume_laws.format_refuses z s n o).number_told refl

pub address_number_law : (v : Volume) (x : ℕ) → address_number (address_reply v x).answer ≢ wrong_length
unfolding address_table
address_number_law v x = other_number (address_table v x) _ (volume_laws.address_refuses v x).number_told refl

pub holder_number_law : (v : Volume) (p : Spot) → holder_number (holder_reply v p).answer ≢ wrong_length
unfolding holder_table
holder_number_law v p = other_number (holder_table v p) _ (volume_laws.holder_refuses v p).number_told refl

pub view_number_law : (v : Volume) (first second k x : ℕ) → view_number (view_answer v first second k x) ≢ wrong_length
unfolding view_table shelves_table
view_number_law v first second k x =
    other_number (view_table v first second k x) _ (view_told v first second k x) refl

pub load_number_law : (v : Volume) (scenes : List Scene) → load_number (load_of v scenes) ≢ wrong_length
unfolding load_table
load_number_law v scenes = other_number (load_table v scenes (length scenes)) _ (load_laws.load_refuses v scenes).number_told refl

pub call_number : (c : Call) (v : Volume) (o : Observations) → number (call_outcome c v o).reply.answer ≢ wrong_length
unfolding call_outcome grow_table_of doubling_rows copy_table checkpoint_table advance_table write_table read_table restart_table flushed_table
call_number (grow count) v o = other_number (grow_table v count o.byte_count) _ (volume_laws.grow_refuses true v count o).number_told refl
call_number (grow_beyond_doubling count) v o =
    other_number (grow_beyond_doubling_table v count o.byte_count) _ (volume_laws.grow_refuses false v count o).number_told refl
call_number (copy x) v o = other_number (copy_table v x o.byte_count) _ (volume_laws.copy_refuses v x o).number_told refl
call_number checkpoint v o = other_number (checkpoint_table v o.byte_count) _ (volume_laws.checkpoint_refuses v o).number_told refl
call_number advance v o = other_number (advance_table v o.byte_count) _ (volume_laws.advance_refuses v o).number_told refl
call_number (write x piece) v o =
    other_number (write_table v x (length piece) o.byte_count) _ (volume_laws.write_refuses v x piece o).number_told refl
call_number (read x piece) v o =
    other_number (read_table v x (length piece) o.byte_count) _ (volume_laws.read_refuses v x piece o).number_told refl
call_number restart v o = other_number (restart_table o) _ (volume_laws.restart_refuses o).number_told refl
call_number flushed v o = other_number (flushed_table v) _ (volume_laws.flushed_refuses v).number_told refl

-- ---- figures of refusals

calls_zero : (a : Result Told Refusal) → number a ≢ 0 → calls_figures a ≡ replicate 1 0
unfolding number calls_told
calls_zero (Err r) h = refl
calls_zero (Ok t) h = absurd (h refl)

advance_zero : (a : Result Told Refusal) → number a ≢ 0 → advance_figures a ≡ replicate 4 0
unfolding number calls_told did_told block_copied part_copied part_number
advance_zero (Err r) h = refl
advance_zero (Ok t) h = absurd (h refl)

address_zero : (a : Result Address Refusal) → number a ≢ 0 → address_figures a ≡ replicate 6 0
unfolding number address_figures
address_zero (Err r) h = refl
address_zero (Ok found) h = absurd (h refl)

holder_zero : (a : Result Block Refusal) → number a ≢ 0 → holder_figures a ≡ replicate 1 0
unfolding number block_told
holder_zero (Err r) h = refl
holder_zero (Ok x) h = absurd (h refl)

view_zero : (a : ViewAnswer) → view_number a ≢ 0 → view_figures a ≡ replicate 2 0
unfolding number view_figures
view_zero (Err r) h = refl
view_zero (Ok start) h = absurd (h refl)

-- ---- refused calls

-- a call that has refused a state
module _ (words : List ℕ) (figure_count : ℕ) (piece : List ℕ) (figures_of : Result Told Refusal → List ℕ)
    (zero_figures : (a : Result Told Refusal) → number a ≢ 0 → figures_of a ≡ replicate figure_count 0) where
  pub refused_left : {table : List (ℕ × Bool)} {v : Volume} {out : Outcome} (fits : Bool) (other : Left) → Refuses table v piece out
      → words_of v ≡ words → fits ≡ true → (cond fits (handed_back figures_of out) other).number ≢ 0
      → RefusedLeft words figure_count piece (cond fits (handed_back figures_of out) other)
  unfolding handed_back
  refused_left {table = table} {out = out} true other r same e h =
      let f : refusal table ≢ 0 = λ z. h (r.number_told ∙ z) in
      record {
        words_kept = ap words_of (r.state_kept f) ∙ same;
        figures_zero = zero_figures out.reply.answer h;
        piece_kept = r.piece_kept f;
        nothing_stored = r.nothing_stored f;
      }
  refused_left false other r same e h = absurd (false≢true e)

-- a look-up that has refused
look_up_refused : (words : List ℕ) (figure_count k : ℕ) (told figures : List ℕ) → (k ≢ 0 → told ≡ replicate figure_count 0)
    → state_fits words figure_count figures ≡ true → (look_up_left figure_count k told words figures).number ≢ 0
    → RefusedLeft words figure_count [] (look_up_left figure_count k told words figures)
unfolding look_up_left looked_up
look_up_refused words figure_count k told figures none e h =
    rw e (record { words_kept = refl; figures_zero = none (rw e at h); piece_kept = refl; nothing_stored = refl })

module _ (words : List ℕ) where
  -- words that fit are those of their state
  pub fits_back : (figure_count : ℕ) (figures : List ℕ) → state_fits words figure_count figures ≡ true → words_of (state_from words) ≡ words
  unfolding state_fits
  fits_back figure_count figures e =
      words_back words (state_words_law words (and_left (are_state words) (eqb (length figures) figure_count) e))

  module _ (figure_count : ℕ) (figures_of : Result Told Refusal → List ℕ) (zero_figures : (a : Result Told Refusal) → number a ≢ 0 → figures_of a ≡ replicate figure_count 0)
    where
      call_refused : {table : List (ℕ × Bool)} (c : Call) (figures piece : List ℕ) (o : Observations)
          → Refuses table (state_from words) piece (call_outcome c (state_from words) o)
          → state_fits words figure_count figures ≡ true → (call_left figure_count figures_of c words figures piece o).number ≢ 0
          → RefusedLeft words figure_count piece (call_left figure_count figures_of c words figures piece o)
      unfolding call_left
      call_refused c figures piece o r e =
          refused_left words figure_count piece figures_of zero_figures (state_fits words figure_count figures) (untouched words figures piece) r
          (fits_back figure_count figures e) e

  pub grow_refused : (count : ℕ) (figures : List ℕ) (o : Observations)
      → state_fits words 1 figures ≡ true → (grow_left words count figures o).number ≢ 0 → RefusedLeft words 1 [] (grow_left words count figures o)
  unfolding call_outcome
  grow_refused count figures o =
      call_refused 1 calls_figures calls_zero (grow count) figures [] o (volume_laws.grow_refuses true (state_from words) count o)

  pub grow_beyond_doubling_refused : (count : ℕ) (figures : List ℕ) (o : Observations)
      → state_fits words 1 figures ≡ true → (grow_beyond_doubling_left words count figures o).number ≢ 0
      → RefusedLeft words 1 [] (grow_beyond_doubling_left words count figures o)
  unfolding call_outcome
  grow_beyond_doubling_refused count figures o =
      call_refused 1 calls_figures calls_zero (grow_beyond_doubling count) figures [] o (volume_laws.grow_refuses false (state_from words) count o)

  pub copy_refused : (x : ℕ) (figures : List ℕ) (o : Observations)
      → state_fits words 1 figures ≡ true → (copy_left words x figures o).number ≢ 0 → RefusedLeft words 1 [] (copy_left words x figures o)
  unfolding call_outcome
  copy_refused x figures o = call_refused 1 calls_figures calls_zero (copy x) figures [] o (volume_laws.copy_refuses (state_from words) x o)

  pub checkpoint_refused : (figures : List ℕ) (o : Observations)
      → state_fits words 1 figures ≡ true → (checkpoint_left words figures o).number ≢ 0 → RefusedLeft words 1 [] (checkpoint_left words figures o)
  unfolding call_outcome
  checkpoint_refused figures o =
      call_refused 1 calls_figures calls_zero checkpoint figures [] o (volume_laws.checkpoint_refuses (state_from words) o)

  pub advance_refused : (figures : List ℕ) (o : Observations)
      → state_fits words 4 figures ≡ true → (advance_left words figures o).number ≢ 0 → RefusedLeft words 4 [] (advance_left words figures o)
  unfolding call_outcome
  advance_refused figures o =
      call_refused 4 advance_figures advance_zero advance figures [] o (volume_laws.advance_refuses (state_from words) o)

  pub write_refused : (x : ℕ) (piece : List ℕ) (o : Observations)
      → state_fits words 0 [] ≡ true → (write_left words x piece o).number ≢ 0 → RefusedLeft words 0 piece (write_left words x piece o)
  unfolding call_outcome
  write_refused x piece o =
      call_refused 0 no_figures (λ _ _. refl) (write x piece) [] piece o (volume_laws.write_refuses (state_from words) x piece o)

  pub read_refused : (x : ℕ) (piece : List ℕ) (o : Observations)
      → state_fits words 0 [] ≡ true → (read_left words x piece o).number ≢ 0 → RefusedLeft words 0 piece (read_left words x piece o)
  unfolding call_outcome
  read_refused x piece o =
      call_refused 0 no_figures (λ _ _. refl) (read x piece) [] piece o (volume_laws.read_refuses (state_from words) x piece o)

  pub flushed_refused : state_fits words 0 [] ≡ true → (flushed_left words).number ≢ 0 → RefusedLeft words 0 [] (flushed_left words)
  unfolding flushed_left
  flushed_refused e =
      refused_left words 0 [] no_figures (λ _ _. refl) (state_fits words 0 []) (untouched words [] [])
      (volume_laws.flushed_refuses (state_from words)) (fits_back 0 [] e) e

  pub address_refused : (x : ℕ) (figures : List ℕ)
      → state_fits words 6 figures ≡ true → (address_left words x figures).number ≢ 0 → RefusedLeft words 6 [] (address_left words x figures)
  address_refused x figures =
      let answer = (address_reply (state_from words) x).answer in look_up_refused words 6 (address_number answer) (address_figures answer) figures (address_zero answer)

  pub holder_refused : (p : Spot) (figures : List ℕ)
      → state_fits words 1 figures ≡ true → (holder_left words p figures).number ≢ 0 → RefusedLeft words 1 [] (holder_left words p figures)
  holder_refused p figures =
      let answer = (holder_reply (state_from words) p).answer in look_up_refused words 1 (holder_number answer) (holder_figures answer) figures (holder_zero answer)

  pub view_refused : (first second k x : ℕ) (figures : List ℕ)
      → state_fits words 2 figures ≡ true → (view_left words first second k x figures).number ≢ 0
      → RefusedLeft words 2 [] (view_left words first second k x figures)
  view_refused first second k x figures =
      let answer = view_answer (state_from words) first second k x in look_up_refused words 2 (view_number answer) (view_figures answer) figures (view_zero answer)

  pub load_refused : (scenes : List Scene) (figures : List ℕ)
      → state_fits words 17 figures ≡ true → (load_left words scenes figures).number ≢ 0
      → (load_left words scenes figures).figures ≡ place_told (load_of (state_from words) scenes) ∷ replicate most_disks 0
  unfolding look_up_left looked_up
  load_refused scenes figures e h =
      let told = load_laws.load_refuses (state_from words) scenes in
      let refuses = rw e at h in
      rw e (ap (place_told (load_of (state_from words) scenes) ∷◌) (told.no_numbers (λ z. refuses (told.number_told ∙ z))))

-- ---- restart, which hands back a state of zeros

zero_words : words_of zeros ≡ replicate state_words 0
unfolding words_of numbers_of pending_word zeros new_state none_pending
zero_words = refl

pub format_refused : (words : List ℕ) (z s n : ℕ) (o : Observations)
    → lengths_fit words 0 [] ≡ true → (format_left words z s n o).number ≢ 0 → RefusedLeft (replicate state_words 0) 0 [] (format_left words z s n o)
unfolding format_left
format_refused words z s n o =
    refused_left (replicate state_words 0) 0 [] no_figures (λ _ _. refl) (lengths_fit words 0 []) (untouched words [] [])
    (volume_laws.format_refuses z s n o) zero_words

pub restart_refused : (words figures : List ℕ) (o : Observations)
    → lengths_fit words 1 figures ≡ true → (restart_left words figures o).number ≢ 0
    → RefusedLeft (replicate state_words 0) 1 [] (restart_left words figures o)
unfolding restart_left
restart_refused words figures o =
    refused_left (replicate state_words 0) 1 [] calls_figures calls_zero (lengths_fit words 1 figures) (untouched words figures [])
    (volume_laws.restart_refuses o) zero_words

-- ---- write and flushed, which change the last word, and read, which hands back the state

-- what is pending is the last word
first_words : (v : Volume) (p : Pending) → length v.counts ≡ 8 → take 15 (words_of (with_pending v p)) ≡ take 15 (words_of v)
unfolding words_of with_pending numbers_of
first_words v p e = rw (eight_listed v.counts e)

-- write and flushed change what is pending and nothing else of the state
abbrev pub OnlyPending : (v u : Volume) → Type 0
OnlyPending v u = (p : Pending) × (u ≡ with_pending v p)

-- by whatever table
pub judged_write : (table : List (ℕ × Bool)) (v : Volume) (x : ℕ) (piece : List ℕ)
    → OnlyPending v (judged table (λ n. refused v n piece) (write_effect v x piece)).reply.state
unfolding write_effect doing refused with_pending
judged_write table v x piece =
    judged_cases (λ (out : Outcome). OnlyPending v out.reply.state) table (λ n. refused v n piece) (write_effect v x piece) (λ _. (_, refl))
    (λ _. (v.pending, refl))

pub write_pending : (v : Volume) (x : ℕ) (piece : List ℕ) (o : Observations) → OnlyPending v (write_outcome v x piece o).reply.state
unfolding write_outcome
write_pending v x piece o = judged_write (write_table v x (length piece) o.byte_count) v x piece

pub flushed_pending : (v : Volume) → OnlyPending v (flushed_outcome v).reply.state
unfolding flushed_outcome flushed_effect doing refused with_pending
flushed_pending v =
    judged_cases (λ (out : Outcome). OnlyPending v out.reply.state) (flushed_table v) (λ n. refused v n [])
    (flushed_effect v) (λ _. (_, refl)) (λ _. (v.pending, refl))

pub only_last : (v u : Volume) → length v.counts ≡ 8 → OnlyPending v u → take 15 (words_of u) ≡ take 15 (words_of v)
only_last v u e (p, same) = rw same (first_words v p e)

pub judged_read : (table : List (ℕ × Bool)) (v : Volume) (x : ℕ) (piece : List ℕ) (o : Observations)
    → (judged table (λ k. refused v k piece) (read_effect v x o)).reply.state ≡ v
unfolding read_effect doing refused with_pending pending_with
judged_read table v x piece o =
    judged_cases (λ (out : Outcome). out.reply.state ≡ v) table (λ k. refused v k piece) (read_effect v x o) (λ _. refl) (λ _. refl)

read_state : (v : Volume) (x : ℕ) (piece : List ℕ) (o : Observations) → (read_outcome v x piece o).reply.state ≡ v
unfolding read_outcome
read_state v x piece o = judged_read (read_table v x (length piece) o.byte_count) v x piece o

module _ (words : List ℕ) where
  pub counts_of : state_fits words 0 [] ≡ true → length (state_from words).counts ≡ 8
  unfolding state_fits
  counts_of e = (state_arrays words (state_words_law words (and_left (are_state words) (eqb (length {A = ℕ} []) 0) e)).count).counts_length

  pub write_keeps : (x : ℕ) (piece : List ℕ) (o : Observations) → take 15 (write_left words x piece o).words ≡ take 15 words
  unfolding call_left call_outcome handed_back untouched
  write_keeps x piece o =
      cond_cases (λ (left : Left). take 15 left.words ≡ take 15 words) (state_fits words 0 [])
      (λ e. only_last (state_from words) _ (counts_of e) (write_pending (state_from words) x piece o) ∙ ap (take 15) (fits_back words 0 [] e)) (λ _. refl)

  pub flushed_keeps : take 15 (flushed_left words).words ≡ take 15 words
  unfolding flushed_left handed_back untouched
  flushed_keeps =
      cond_cases (λ (left : Left). take 15 left.words ≡ take 15 words) (state_fits words 0 [])
      (λ e. only_last (state_from words) _ (counts_of e) (flushed_pending (state_from words)) ∙ ap (take 15) (fits_back words 0 [] e)) (λ _. refl)

  pub read_keeps : (x : ℕ) (piece : List ℕ) (o : Observations) → (read_left words x piece o).words ≡ words
  unfolding call_left call_outcome handed_back untouched
  read_keeps x piece o =
      cond_cases (λ (left : Left). left.words ≡ words) (state_fits words 0 [])
      (λ e. ap words_of (read_state (state_from words) x piece o) ∙ fits_back words 0 [] e) (λ _. refl)
