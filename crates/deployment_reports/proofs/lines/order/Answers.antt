use Rattle.std.proofs.Common.{rules}
use Rattle.std.proofs.lemmas.Fn.{always_returns_same}
use Rattle.deployment_reports.proofs.LineLemmas.{ordered_by}
use Rattle.deployment_reports.proofs.lines.order.Goals as goal

pub returns-clause-sorted : goal.returns-clause-sorted
returns-clause-sorted c =
    ordered_by _ _ c.sort_by.ensures.sorted (always_returns_same _ _ _ (λ a r f called. (search rules, search rules)))
