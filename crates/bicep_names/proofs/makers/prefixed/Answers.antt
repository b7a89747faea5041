use Rattle.bicep_resolved.specs.View.{source_of}
use Rattle.bicep_resolved.proofs.ViewLemmas.{source_of-Prefix}
use Rattle.bicep_found.proofs.FoundLemmas.{box_ok, box_err}
use Rattle.bicep_names.proofs.makers.prefixed.Goals as goal

pub returns-in-Ok : goal.returns-in-Ok
returns-in-Ok c =
    λ f p. box_ok source_of source_of _ _ c.in-Ok.operand f _ c.in-Ok.ensures p (source_of-Prefix _ _ _)

pub returns-in-Err : goal.returns-in-Err
returns-in-Err c = λ f p. box_err source_of source_of _ _ _ f c.in-Err.ensures p
