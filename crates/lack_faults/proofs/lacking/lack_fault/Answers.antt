use Rattle.std.proofs.Common.{subst}
use Rattle.lack_faults.specs.Lacks.{IsLackAt}
use Rattle.lack_faults.proofs.LackLemmas.{no_value_fault}
use Rattle.lack_faults.proofs.lacking.lack_fault.Goals as goal

pub returns-in-NoValue : goal.returns-in-NoValue
returns-in-NoValue c = λ mode held.
    no_value_fault c.args.table.now c.requires.filled c.args.path mode held
    (subst (IsLackAt c.args.table.now c.args.path) c.in-NoValue.is c.requires.lack)
