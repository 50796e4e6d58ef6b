-- `load_of` meets its contract. All that it knows of `empty_load` and `with_scene` is that each meets its contract.
use mathlib.Core.Path.{◌≡◌, sym, ◌∙◌}
use native.Mathlib.Omega.{arith}
use lib.ListN.{length}
use Rattle.std.proofs.lemmas.Result.{err_from_is_err_and}
use Rattle.scene_load.specs.Loads.{load_of}
use Rattle.scene_load.proofs.ScenesCode.{none_taken, next_load, load_usable, stays_refused}
use Rattle.scene_load.proofs.scenes.load_of.Goals as goal

pub returns-in_err-served : goal.returns-in_err-served
unfolding load_of
returns-in_err-served c =
    let p = err_from_is_err_and c.from_residual.result c.from_residual.ensures.1 in
    rw (p.1, p.2) (stays_refused _ _ 0 _ _ (omega arith) (c.in_err-served.ensures ∙ none_taken _ _))

pub loop-place-init : goal.loop-place-init
loop-place-init c = c.in_ok-served.ensures ∙ none_taken _ _

pub with_scene-requires : goal.with_scene-requires
with_scene-requires c = load_usable _ _ _ _ c.loop-place.invariant

pub returns-in_err-with_scene : goal.returns-in_err-with_scene
unfolding load_of
returns-in_err-with_scene c =
    let p = err_from_is_err_and c.from_residual-in_err-with_scene.result c.from_residual-in_err-with_scene.ensures.1 in
    rw (p.1, p.2) (stays_refused _ _ _ _ _ (omega arith) (sym c.in_err-with_scene.ensures.refused.0 ∙ next_load _ _ _ _ c.loop-place.invariant))

pub loop-place-preserved : goal.loop-place-preserved
loop-place-preserved c = sym c.in_ok-with_scene.ensures.counted ∙ next_load _ _ _ _ c.loop-place.invariant

pub returns : goal.returns
unfolding load_of
returns c =
    let e : c.loop-place.place ≡ length c.args.scenes.now = omega arith in
    rw e at c.loop-place.invariant
