-- What each exported function leaves: the number that it returns, the lent words of the state, the lent figures, its store and the lent
-- piece. It is the outcome of the state that the words hold: of the call that demand 3 speaks of, of format or a look-up, of a view or of a load.
-- The table of moves needs no state.
use Rattle.std.specs.Prelude.{ℕ, Bool, cond, ◌&&◌, List, [], eqb, length, Result}
use Rattle.base.specs.declared.Refusal.{Refusal}
use Rattle.layout.specs.declared.Spot.{Spot}
use Rattle.medium.specs.Medium.{Observations, Store, no_store}
use Rattle.volume.specs.declared.Told.{Told}
use Rattle.volume.specs.declared.Volume.{Volume}
use Rattle.volume.specs.Answers.{number, address_number, holder_number}
use Rattle.volume.specs.Calls.{Outcome, format_outcome, restart_outcome, flushed_outcome, address_reply, holder_reply}
use Rattle.volume.specs.Sound.{sound}
use Rattle.volume.specs.States.{zeros}
use Rattle.promise.specs.Calls.{Call, grow, grow_beyond_doubling, copy, checkpoint, advance, write, read}
use Rattle.promise.specs.Lists.{call_outcome}
use Rattle.scene_load.specs.declared.Scene.{Scene}
use Rattle.scene_load.specs.Loads.{load_of, load_number}
use Rattle.move_table.specs.Entries.{place_of}
use Rattle.shelves.specs.Views.{view_answer, view_number}
use Rattle.capi.specs.Figures.{no_figures, calls_figures, advance_figures, address_figures, holder_figures, view_figures, load_figures, table_move_figures}
use Rattle.capi.specs.Words.{state_words, words_of, state_from, are_state}

pub record Left : Type 0 where
  pub number : ℕ
  pub words : List ℕ
  pub figures : List ℕ
  pub store : Store
  pub piece : List ℕ

-- the number where the lent words are no state's or the lent figures have the wrong length; no call has it
abbrev pub wrong_length : ℕ
wrong_length = 100

-- do the words of a state and so many figures fit the lent slices; are the words a state's besides
unfoldable pub lengths_fit : (words : List ℕ) (figure_count : ℕ) (figures : List ℕ) → Bool
lengths_fit words figure_count figures = eqb (length words) state_words && eqb (length figures) figure_count

unfoldable pub state_fits : (words : List ℕ) (figure_count : ℕ) (figures : List ℕ) → Bool
state_fits words figure_count figures = are_state words && eqb (length figures) figure_count

-- nothing is touched
unfoldable pub untouched : (words figures piece : List ℕ) → Left
untouched words figures piece = record { number = wrong_length; words = words; figures = figures; store = no_store; piece = piece }

-- what a call hands back, in words and figures
unfoldable pub handed_back : (figures_of : Result Told Refusal → List ℕ) (o : Outcome) → Left
handed_back figures_of o =
    record {
      number = number o.reply.answer;
      words = words_of o.reply.state;
      figures = figures_of o.reply.answer;
      store = o.store;
      piece = o.piece;
    }

-- what a call leaves that only tells: the words as they were, and nothing stored
unfoldable pub looked_up : (number : ℕ) (figures words : List ℕ) → Left
looked_up number figures words = record { number = number; words = words; figures = figures; store = no_store; piece = [] }

-- ---- the calls, each with its own count of figures

unfoldable pub format_left : (words : List ℕ) (z s n : ℕ) (o : Observations) → Left
format_left words z s n o = cond (lengths_fit words 0 []) (handed_back no_figures (format_outcome z s n o)) (untouched words [] [])

unfoldable pub restart_left : (words figures : List ℕ) (o : Observations) → Left
restart_left words figures o =
    cond (lengths_fit words 1 figures) (handed_back calls_figures (restart_outcome o)) (untouched words figures [])

-- a call of demand 3 on the state that the words hold
unfoldable pub call_left : (figure_count : ℕ) (figures_of : Result Told Refusal → List ℕ) (c : Call) (words figures piece : List ℕ) (o : Observations) → Left
call_left figure_count figures_of c words figures piece o =
    cond (state_fits words figure_count figures) (handed_back figures_of (call_outcome c (state_from words) o)) (untouched words figures piece)

abbrev pub grow_left : (words : List ℕ) (count : ℕ) (figures : List ℕ) (o : Observations) → Left
grow_left words count figures o = call_left 1 calls_figures (grow count) words figures [] o

abbrev pub grow_beyond_doubling_left : (words : List ℕ) (count : ℕ) (figures : List ℕ) (o : Observations) → Left
grow_beyond_doubling_left words count figures o = call_left 1 calls_figures (grow_beyond_doubling count) words figures [] o

abbrev pub copy_left : (words : List ℕ) (x : ℕ) (figures : List ℕ) (o : Observations) → Left
copy_left words x figures o = call_left 1 calls_figures (copy x) words figures [] o

abbrev pub checkpoint_left : (words figures : List ℕ) (o : Observations) → Left
checkpoint_left words figures o = call_left 1 calls_figures checkpoint words figures [] o

abbrev pub advance_left : (words figures : List ℕ) (o : Observations) → Left
advance_left words figures o = call_left 4 advance_figures advance words figures [] o

abbrev pub write_left : (words : List ℕ) (x : ℕ) (piece : List ℕ) (o : Observations) → Left
write_left words x piece o = call_left 0 no_figures (write x piece) words [] piece o

abbrev pub read_left : (words : List ℕ) (x : ℕ) (piece : List ℕ) (o : Observations) → Left
read_left words x piece o = call_left 0 no_figures (read x piece) words [] piece o

-- a look-up on the state that the words hold: its number, and the figures that it tells
unfoldable pub look_up_left : (figure_count number : ℕ) (told words figures : List ℕ) → Left
look_up_left figure_count number told words figures =
    cond (state_fits words figure_count figures) (looked_up number told words) (untouched words figures [])

abbrev pub address_left : (words : List ℕ) (x : ℕ) (figures : List ℕ) → Left
address_left words x figures =
    let answer = (address_reply (state_from words) x).answer in look_up_left 6 (address_number answer) (address_figures answer) words figures

abbrev pub holder_left : (words : List ℕ) (p : Spot) (figures : List ℕ) → Left
holder_left words p figures =
    let answer = (holder_reply (state_from words) p).answer in look_up_left 1 (holder_number answer) (holder_figures answer) words figures

-- Document 02, W5. Of the shelves it is told how many bytes they have.
abbrev pub view_left : (words : List ℕ) (first second k x : ℕ) (figures : List ℕ) → Left
view_left words first second k x figures =
    let answer = view_answer (state_from words) first second k x in look_up_left 2 (view_number answer) (view_figures answer) words figures

-- Document 02, W4: "flushed tells us that all earlier stores are down"
unfoldable pub flushed_left : (words : List ℕ) → Left
flushed_left words = cond (state_fits words 0 []) (handed_back no_figures (flushed_outcome (state_from words))) (untouched words [] [])

-- Document 02, W2. The scenes are walked with the state of zeros where the words are no state's.
abbrev pub state_taken : (words : List ℕ) → Volume
state_taken words = cond (are_state words) (state_from words) zeros

abbrev pub load_left : (words : List ℕ) (scenes : List Scene) (figures : List ℕ) → Left
load_left words scenes figures =
    let load = load_of (state_from words) scenes in look_up_left 17 (load_number load) (load_figures load) words figures

-- "1: state not sound", asked alone
abbrev pub soundness_left : (words : List ℕ) → Left
soundness_left words = look_up_left 0 (cond (sound (state_from words)) 0 1) [] words []

-- Document 02, W9. No state is lent, and every number is taken.
unfoldable pub table_move_left : (m n j : ℕ) (figures : List ℕ) → Left
table_move_left m n j figures = cond (eqb (length figures) 2) (looked_up 0 (table_move_figures (place_of m n j)) []) (untouched [] figures [])
