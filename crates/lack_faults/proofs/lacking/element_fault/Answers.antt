use Rattle.std.proofs.Common.{sym, subst}
use Rattle.lack_faults.specs.Lacks.{IsLackAt}
use Rattle.lack_faults.proofs.LackLemmas.{element_lacks}
use Rattle.lack_faults.proofs.lacking.element_fault.Goals as goal

pub lack_fault-requires-clause-lack : goal.lack_fault-requires-clause-lack
lack_fault-requires-clause-lack c =
    subst (λ p. IsLackAt c.args.table.now p c.args.lack) (sym c.in-Ok.ensures)
    (element_lacks c.args.table.now c.requires.filled c.args.opener c.args.element c.args.lack c.requires.laid
    c.requires.lack)
