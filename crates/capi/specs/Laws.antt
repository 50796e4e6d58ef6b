-- What is proved of the words of a state and of the exported functions: `CapiLaws`. `proofs/Theorems.antt` has the proof.
use Rattle.std.specs.Prelude.{ℕ, ◌≤◌, ◌≡◌, true, cond, List, [], ◌∷◌, ◌≢◌, eqb, length, take, drop, get_or, replicate}
use Rattle.layout.specs.declared.Spot.{Spot}
use Rattle.layout.specs.Limits.{most_disks}
use Rattle.medium.specs.Medium.{Observations, no_store}
use Rattle.volume.specs.declared.Volume.{Volume}
use Rattle.volume.specs.Answers.{number, address_number, holder_number}
use Rattle.volume.specs.Calls.{format_outcome, address_reply, holder_reply}
use Rattle.promise.specs.Calls.{Call}
use Rattle.promise.specs.Lists.{call_outcome}
use Rattle.scene_load.specs.declared.Scene.{Scene}
use Rattle.scene_load.specs.Loads.{place_told, load_of, load_number}
use Rattle.move_table.specs.Entries.{disk_of_mark, offset}
use Rattle.move_table.specs.Tables.{IsMark}
use Rattle.shelves.specs.Views.{view_answer, view_number, view_of}
use Rattle.capi.specs.Exported.{Left, wrong_length, lengths_fit, state_fits, format_left, restart_left, grow_left, grow_beyond_doubling_left, copy_left, checkpoint_left, advance_left, write_left, read_left, flushed_left, address_left, holder_left, view_left, load_left, table_move_left}
use Rattle.capi.specs.Words.{state_words, words_of, state_from, most_pending}

-- the lengths that the types of the code give the arrays of a state
pub record Arrays (v : Volume) : Type 0 where
  pub counts_length : length v.counts ≡ 8

-- sixteen numbers, of which the last says what is pending
pub record Words (words : List ℕ) : Type 0 where
  pub count : length words ≡ state_words
  pub pending_most : get_or words 15 0 ≤ most_pending

-- what a refused call leaves: these words, so many zeros as figures, this piece, nothing stored
pub record RefusedLeft (words : List ℕ) (figure_count : ℕ) (piece : List ℕ) (left : Left) : Type 0 where
  pub words_kept : left.words ≡ words
  pub figures_zero : left.figures ≡ replicate figure_count 0
  pub piece_kept : left.piece ≡ piece
  pub nothing_stored : left.store ≡ no_store

-- the shelf that a figure of view names
abbrev pub shelf_named : (figure : ℕ) (first second : List ℕ) → List ℕ
shelf_named figure first second = cond (eqb figure 1) first second

pub record CapiLaws : Type 0 where
  -- the two conversions are inverse: every state is sixteen words, and such words are a state
  pub words_count : (v : Volume) → Arrays v → length (words_of v) ≡ state_words
  pub state_back : (v : Volume) → Arrays v → state_from (words_of v) ≡ v
  pub state_arrays : (words : List ℕ) → length words ≡ state_words → Arrays (state_from words)
  pub words_back : (words : List ℕ) → Words words → words_of (state_from words) ≡ words
  -- no call has the number of a wrong length
  pub format_number : (z s n : ℕ) (o : Observations) → number (format_outcome z s n o).reply.answer ≢ wrong_length
  pub call_number : (c : Call) (v : Volume) (o : Observations) → number (call_outcome c v o).reply.answer ≢ wrong_length
  pub address_number_law : (v : Volume) (x : ℕ) → address_number (address_reply v x).answer ≢ wrong_length
  pub holder_number_law : (v : Volume) (p : Spot) → holder_number (holder_reply v p).answer ≢ wrong_length
  pub view_number_law : (v : Volume) (first second k x : ℕ) → view_number (view_answer v first second k x) ≢ wrong_length
  pub load_number_law : (v : Volume) (scenes : List Scene) → load_number (load_of v scenes) ≢ wrong_length
  -- a refused call leaves the words and the piece as they were, has zeros as figures and stores nothing
  pub grow_refused : (words : List ℕ) (count : ℕ) (figures : List ℕ) (o : Observations)
      → state_fits words 1 figures ≡ true → (grow_left words count figures o).number ≢ 0 → RefusedLeft words 1 [] (grow_left words count figures o)
  pub grow_beyond_doubling_refused : (words : List ℕ) (count : ℕ) (figures : List ℕ) (o : Observations)
      → state_fits words 1 figures ≡ true → (grow_beyond_doubling_left words count figures o).number ≢ 0
      → RefusedLeft words 1 [] (grow_beyond_doubling_left words count figures o)
  pub copy_refused : (words : List ℕ) (x : ℕ) (figures : List ℕ) (o : Observations)
      → state_fits words 1 figures ≡ true → (copy_left words x figures o).number ≢ 0 → RefusedLeft words 1 [] (copy_left words x figures o)
  pub checkpoint_refused : (words figures : List ℕ) (o : Observations)
      → state_fits words 1 figures ≡ true → (checkpoint_left words figures o).number ≢ 0 → RefusedLeft words 1 [] (checkpoint_left words figures o)
  pub advance_refused : (words figures : List ℕ) (o : Observations)
      → state_fits words 4 figures ≡ true → (advance_left words figures o).number ≢ 0 → RefusedLeft words 4 [] (advance_left words figures o)
  pub format_refused : (words : List ℕ) (z s n : ℕ) (o : Observations)
      → lengths_fit words 0 [] ≡ true → (format_left words z s n o).number ≢ 0 → RefusedLeft (replicate state_words 0) 0 [] (format_left words z s n o)
  pub restart_refused : (words figures : List ℕ) (o : Observations)
      → lengths_fit words 1 figures ≡ true → (restart_left words figures o).number ≢ 0 → RefusedLeft (replicate state_words 0) 1 [] (restart_left words figures o)
  pub address_refused : (words : List ℕ) (x : ℕ) (figures : List ℕ)
      → state_fits words 6 figures ≡ true → (address_left words x figures).number ≢ 0 → RefusedLeft words 6 [] (address_left words x figures)
  pub holder_refused : (words : List ℕ) (p : Spot) (figures : List ℕ)
      → state_fits words 1 figures ≡ true → (holder_left words p figures).number ≢ 0 → RefusedLeft words 1 [] (holder_left words p figures)
  pub view_refused : (words : List ℕ) (first second k x : ℕ) (figures : List ℕ)
      → state_fits words 2 figures ≡ true → (view_left words first second k x figures).number ≢ 0
      → RefusedLeft words 2 [] (view_left words first second k x figures)
  -- a refused load has zeros as numbers, beside the place that it tells
  pub load_refused : (words : List ℕ) (scenes : List Scene) (figures : List ℕ)
      → state_fits words 17 figures ≡ true → (load_left words scenes figures).number ≢ 0
      → (load_left words scenes figures).figures ≡ place_told (load_of (state_from words) scenes) ∷ replicate most_disks 0
  pub write_refused : (words : List ℕ) (x : ℕ) (piece : List ℕ) (o : Observations)
      → state_fits words 0 [] ≡ true → (write_left words x piece o).number ≢ 0 → RefusedLeft words 0 piece (write_left words x piece o)
  pub read_refused : (words : List ℕ) (x : ℕ) (piece : List ℕ) (o : Observations)
      → state_fits words 0 [] ≡ true → (read_left words x piece o).number ≢ 0 → RefusedLeft words 0 piece (read_left words x piece o)
  pub flushed_refused : (words : List ℕ)
      → state_fits words 0 [] ≡ true → (flushed_left words).number ≢ 0 → RefusedLeft words 0 [] (flushed_left words)
  -- write and flushed leave all words but the last as they were; read leaves them all, which is why they are lent to be read only
  pub write_keeps : (words : List ℕ) (x : ℕ) (piece : List ℕ) (o : Observations) → take 15 (write_left words x piece o).words ≡ take 15 words
  pub flushed_keeps : (words : List ℕ) → take 15 (flushed_left words).words ≡ take 15 words
  pub read_keeps : (words : List ℕ) (x : ℕ) (piece : List ℕ) (o : Observations) → (read_left words x piece o).words ≡ words
  -- an accepted view: the block's bytes, as the view shows them, stand on the shelf told from the byte told on
  pub view_told : (words first second : List ℕ) (k x : ℕ) (figures : List ℕ) → state_fits words 2 figures ≡ true
      → (let left = view_left words (length first) (length second) k x figures in
      left.number ≡ 0
      → take (state_from words).size (drop (get_or left.figures 1 0) (shelf_named (get_or left.figures 0 0) first second))
      ≡ view_of (state_from words) first second k x)
  -- the table of moves tells of a mark the offset of its entry and its disk, and of no mark zeros
  pub table_move_told : (m n j : ℕ) (figures : List ℕ) → length figures ≡ 2 → IsMark m n j
      → (table_move_left m n j figures).figures ≡ offset m n j ∷ disk_of_mark m n j ∷ []
  pub table_move_none : (m n j : ℕ) (figures : List ℕ) → length figures ≡ 2 → (IsMark m n j → ⊥) → (table_move_left m n j figures).figures ≡ 0 ∷ 0 ∷ []
