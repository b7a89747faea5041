use Rattle.bicep_resolved.specs.View.{source_of, value_of}
use Rattle.bicep_resolved.proofs.ViewLemmas.{value_of-Plain}
use Rattle.bicep_found.proofs.FoundLemmas.{one_ok, one_err}
use Rattle.bicep_names.proofs.makers.plain.Goals as goal

pub returns-in-Ok : goal.returns-in-Ok
returns-in-Ok c = λ f p. one_ok source_of value_of _ _ c.in-Ok.value f _ c.in-Ok.is p (value_of-Plain _)

pub returns-in-Err : goal.returns-in-Err
returns-in-Err c = λ f p. one_err source_of value_of _ _ c.in-Err.stop f c.in-Err.is p
