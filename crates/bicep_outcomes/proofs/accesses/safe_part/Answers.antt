use Rattle.std.proofs.Common.{◌∙◌}
use Rattle.std.proofs.lemmas.Result.{IfOk-weaker}
use Rattle.bicep_outcomes.proofs.AccessLemmas.{tried_one}
use Rattle.bicep_outcomes.proofs.accesses.safe_part.Goals as goal

pub returns : goal.returns
returns c = IfOk-weaker c.try_get-part.result _ _ (λ v h. h ∙ tried_one _ _) c.try_get-part.ensures
