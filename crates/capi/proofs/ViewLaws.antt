-- What the figures of an accepted view say: where the block's bytes stand.
use Prim.Native.Nat.{ℕ}
use mathlib.Core.Path.{◌≡◌, refl}
use mathlib.Core.Bool.{true}
use mathlib.Core.List.{List}
use lib.ListN.{length, take, drop, get_or}
use Rattle.std.specs.Prelude.{Ok, Err}
use Rattle.shelves.specs.declared.ViewStart.TheVariants.{First, Second}
use Rattle.shelves.specs.Laws.{Stands}
use Rattle.shelves.specs.Views.{ViewAnswer, view_answer, view_number, part_shown, view_of}
use Rattle.shelves.proofs.Theorems.{view_laws}
use Rattle.volume.specs.declared.Volume.{Volume}
use Rattle.volume.specs.Answers.{number}
use Rattle.capi.specs.Exported.{state_fits, looked_up, look_up_left, view_left}
use Rattle.capi.specs.Figures.{view_figures}
use Rattle.capi.specs.Laws.{shelf_named}
use Rattle.capi.specs.Words.{state_from}

module _ (v : Volume) (first second : List ℕ) (k x : ℕ) where
  part_named : (a : ViewAnswer) → Stands v (length first) (length second) k x a → view_number a ≡ 0
      → take v.size (drop (get_or (view_figures a) 1 0) (shelf_named (get_or (view_figures a) 0 0) first second)) ≡ part_shown v.size first second a
  unfolding Stands number view_figures part_shown
  part_named (Err r) s h = absurd (s h)
  part_named (Ok (First at)) s h = refl
  part_named (Ok (Second at)) s h = refl

pub view_told : (words first second : List ℕ) (k x : ℕ) (figures : List ℕ) → state_fits words 2 figures ≡ true
    → (let left = view_left words (length first) (length second) k x figures in
    left.number ≡ 0
    → take (state_from words).size (drop (get_or left.figures 1 0) (shelf_named (get_or left.figures 0 0) first second))
    ≡ view_of (state_from words) first second k x)
unfolding look_up_left looked_up view_of
view_told words first second k x figures e h =
    let v = state_from words in
    let a = view_answer v (length first) (length second) k x in
    rw e (part_named v first second k x a (view_laws.stands v (length first) (length second) k x) (rw e at h))
