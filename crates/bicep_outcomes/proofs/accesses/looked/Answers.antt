use Rattle.std.proofs.Common.{◌∙◌}
use Rattle.std.proofs.lemmas.Result.{IfOk-weaker}
use Rattle.bicep_outcomes.proofs.accesses.looked.Goals as goal

pub returns-in-Ok : goal.returns-in-Ok
returns-in-Ok c =
    rw c.in-Ok.is (c.made.ensures _ (IfOk-weaker c.copy_of.result _ _ (λ v h. h ∙ c.look.ensures) c.copy_of.ensures))
