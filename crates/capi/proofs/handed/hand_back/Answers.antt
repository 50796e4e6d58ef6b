-- `hand_back` meets its contract.
use Rattle.capi.proofs.WordsCode.{one_set}
use Rattle.capi.proofs.handed.hand_back.Goals as goal

pub returns : goal.returns
returns c =
    let told = one_set c.args.figures.now _ _ c.requires.figures_len c.calls_told.ensures in
    record { value = c.number.ensures; words_after = c.put_state.ensures; figures_after = told }
