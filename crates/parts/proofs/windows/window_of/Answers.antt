-- `window_of` meets its contract: there are no more windows than rows.
use Rattle.std.proofs.Common.{arith}
use Rattle.layout.proofs.WindowsCode.{windows_most}
use Rattle.parts.proofs.windows.window_of.Goals as goal

pub invariant_of-result : goal.invariant_of-result
invariant_of-result c =
    let h = c.args.h in
    let growth = c.newest_growth-growth.result in
    let few = windows_most growth.old growth.added h.rows growth.within_limits.added in
    record {
      number_most = omega (arith, c.window_count.ensures, few, h.within_limits.rows_most);
    }
