use Rattle.std.proofs.Common.{subst}
use Rattle.scope_faults.specs.Faults.{IsOutputLook}
use Rattle.scope_faults.proofs.OutputLemmas.{told_lack, nothing_lack}
use Rattle.scope_faults.proofs.outputs.lack_of.Goals as goal

pub returns-in-Told : goal.returns-in-Told
returns-in-Told c = λ t u h. told_lack t u (subst (IsOutputLook t u) c.in-Told.is h)

pub returns-in-Nothing : goal.returns-in-Nothing
returns-in-Nothing c = λ t u h. nothing_lack t u (subst (IsOutputLook t u) c.in-Nothing.is h)

pub returns-in-Lacks : goal.returns-in-Lacks
returns-in-Lacks c = λ t u h. subst (IsOutputLook t u) c.in-Lacks.is h
