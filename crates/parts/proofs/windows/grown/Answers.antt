-- `grown` meets its contract.
use Rattle.std.proofs.Common.{sym, ◌∙◌, le_refl, arith}
use Rattle.layout.proofs.HistoryCode.{limits_made}
use Rattle.parts.proofs.windows.grown.Goals as goal

pub invariant_of-result : goal.invariant_of-result
invariant_of-result c =
    record {
      within_limits =
          limits_made _ _ _ c.args.counts.now (omega arith) (omega arith) (omega arith) (le_refl _) (le_refl _)
          (sym c.counts_rise.ensures ∙ c.if-not-counts_rise.false) (omega arith);
    }
