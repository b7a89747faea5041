use Rattle.bicep_resolved.specs.View.{source_of}
use Rattle.bicep_resolved.proofs.ViewLemmas.{source_of-Binary}
use Rattle.bicep_found.proofs.FoundLemmas.{made_ok, made_err}
use Rattle.bicep_names.proofs.makers.binary.Goals as goal

pub returns-in-Ok : goal.returns-in-Ok
returns-in-Ok c =
    λ f g p q.
    made_ok source_of source_of source_of _ _ _ c.in-Ok.first c.in-Ok.second f g _ c.in-Ok.ensures p q
    (source_of-Binary _ _ _)

pub returns-in-Err : goal.returns-in-Err
returns-in-Err c = λ f g p q. made_err source_of source_of source_of _ _ _ _ f g c.in-Err.ensures p q
