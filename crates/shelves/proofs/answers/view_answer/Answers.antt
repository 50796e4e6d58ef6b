-- `view_answer` meets its contract: at rest, and while a growth runs.
use mathlib.Core.Path.{◌≡◌, refl}
use mathlib.Core.Bool.{true}
use Rattle.std.proofs.lemmas.Result.{err_from_is_err_and}
use Rattle.volume.specs.Sound.{sound}
use Rattle.volume.specs.States.{geometry}
use Rattle.shelves.proofs.AnswersCode.{shelves_refused, state_sound, block_refused, start_asked, view_found}
use Rattle.shelves.proofs.answers.view_answer.Goals as goal
use Rattle.shelves.proofs.answers.view_answer.Goals.{In_ok-check_shelves}

pub returns-in_err-check_shelves : goal.returns-in_err-check_shelves
returns-in_err-check_shelves c =
    let p = err_from_is_err_and c.from_residual.result c.from_residual.ensures.1 in
    rw (p.1, p.2) (shelves_refused _ _ _ _ _ _ c.in_err-check_shelves.ensures)

is_sound : (c : In_ok-check_shelves) → sound c.args.v ≡ true
is_sound c = state_sound _ _ _ _ c.args.x.0 _ c.in_ok-check_shelves.ensures

pub open_spot-requires : goal.open_spot-requires
open_spot-requires c = is_sound (goal.at.open_spot-requires c).In_ok-check_shelves

pub returns-in_err-p : goal.returns-in_err-p
returns-in_err-p c =
    let p = err_from_is_err_and c.from_residual-in_err-p.result c.from_residual-in_err-p.ensures.1 in
    let e = c.in_err-p.ensures.refused in
    rw (p.1, p.2, e.0) (block_refused _ _ _ _ _ _ c.in_ok-check_shelves.ensures e.1)

pub start_on_shelf-requires : goal.start_on_shelf-requires
unfolding geometry
start_on_shelf-requires c =
    let found = c.in_ok-p.ensures.found in
    let asked = start_asked _ (is_sound (goal.at.start_on_shelf-requires c).In_ok-check_shelves) _ found.1 _ refl _ found.0 in
    record { size_nonzero = asked.0; p_bound = asked.1 }

pub returns-then-v-eq0 : goal.returns-then-v-eq0
unfolding geometry
returns-then-v-eq0 c =
    let found = c.in_ok-p.ensures.found in
    view_found _ _ _ _ _ _ c.in_ok-check_shelves.ensures found.1 _ found.0 _ _ refl c.start_on_shelf.ensures

pub open_spot-requires-2 : goal.open_spot-requires-2
open_spot-requires-2 c = is_sound (goal.at.open_spot-requires-2 c).In_ok-check_shelves

pub returns-in_err-p-2 : goal.returns-in_err-p-2
returns-in_err-p-2 c =
    let p = err_from_is_err_and c.from_residual-in_err-p-2.result c.from_residual-in_err-p-2.ensures.1 in
    let e = c.in_err-p-2.ensures.refused in
    rw (p.1, p.2, e.0) (block_refused _ _ _ _ _ _ c.in_ok-check_shelves.ensures e.1)

pub start_on_shelf-requires-2 : goal.start_on_shelf-requires-2
unfolding geometry
start_on_shelf-requires-2 c =
    let found = c.in_ok-p-2.ensures.found in
    let asked = start_asked _ (is_sound (goal.at.start_on_shelf-requires-2 c).In_ok-check_shelves) _ found.1 _ refl _ found.0 in
    record { size_nonzero = asked.0; p_bound = asked.1 }

pub returns : goal.returns
unfolding geometry
returns c =
    let found = c.in_ok-p-2.ensures.found in
    view_found _ _ _ _ _ _ c.in_ok-check_shelves.ensures found.1 _ found.0 _ _ refl c.start_on_shelf-2.ensures
