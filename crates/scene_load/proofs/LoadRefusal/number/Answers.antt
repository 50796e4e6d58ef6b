-- `number` meets its contract.
use Rattle.base.specs.Refusals.{refusal_number}
use Rattle.scene_load.specs.Loads.{load_refusal_number}
use Rattle.scene_load.proofs.LoadRefusal.number.Goals as goal

pub returns-in-NotSound : goal.returns-in-NotSound
unfolding refusal_number load_refusal_number
returns-in-NotSound c = rw c.in-NotSound.is c.number.ensures

pub returns-in-NoSuchScene : goal.returns-in-NoSuchScene
unfolding refusal_number load_refusal_number
returns-in-NoSuchScene c = rw c.in-NoSuchScene.is c.number-in-NoSuchScene.ensures
