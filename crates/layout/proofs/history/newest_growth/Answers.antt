-- `newest_growth` meets its contract.
use Rattle.std.proofs.Common.{◌-◌, arith}
use Rattle.layout.proofs.HistoryCode.{count_up, newest_is}
use Rattle.layout.proofs.history.newest_growth.Goals as goal

pub overflow_sub-result : goal.overflow_sub-result
overflow_sub-result c = omega (arith, count_up (c.args.t - 1) c.args.t c.args.counts.now (omega arith) c.requires.2)

pub returns : goal.returns
returns c = newest_is (c.args.t - 1) c.args.t c.args.counts.now (omega arith)
