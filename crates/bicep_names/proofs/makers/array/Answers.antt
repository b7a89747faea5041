use Rattle.bicep_resolved.specs.View.{source_of}
use Rattle.bicep_resolved.proofs.ViewLemmas.{source_of-Array}
use Rattle.bicep_names.specs.Parts.{sources_of}
use Rattle.bicep_found.proofs.FoundLemmas.{one_ok, one_err}
use Rattle.bicep_names.proofs.makers.array.Goals as goal

pub returns-in-Ok : goal.returns-in-Ok
returns-in-Ok c = λ f p. one_ok sources_of source_of _ _ c.in-Ok.items f _ c.in-Ok.is p (source_of-Array _ _)

pub returns-in-Err : goal.returns-in-Err
returns-in-Err c = λ f p. one_err sources_of source_of _ _ c.in-Err.stop f c.in-Err.is p
