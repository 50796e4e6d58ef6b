-- `streterva_load` meets its contract.
use Rattle.capi.proofs.ExportedCode.{load_left_law}
use Rattle.capi.proofs.loads.streterva_load.Goals as goal

pub returns : goal.returns
returns c =
    let a = c.args in
    load_left_law a.state.now a.scenes.now a.figures.now _ _ _ _ c.state_or_zeros-v.ensures c.load_of-load.ensures c.hand_load.ensures
