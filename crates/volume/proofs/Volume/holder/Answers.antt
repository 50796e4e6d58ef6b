-- `holder` meets its contract.
use Rattle.volume.proofs.HolderCode.{holder_reply_law}
use Rattle.volume.proofs.Volume.holder.Goals as goal

pub returns : goal.returns
returns c = holder_reply_law _ _ _ c.holder_answer-answer.ensures
