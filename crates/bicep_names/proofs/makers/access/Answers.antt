use Rattle.bicep_resolved.specs.View.{source_of}
use Rattle.bicep_found.proofs.FoundLemmas.{then_gives, then_err}
use Rattle.bicep_names.proofs.makers.access.Goals as goal

pub returns-in-Ok : goal.returns-in-Ok
returns-in-Ok c = λ f p. then_gives source_of source_of _ _ c.in-Ok.whole f _ c.in-Ok.is p c.accessed.ensures

pub returns-in-Err : goal.returns-in-Err
returns-in-Err c = λ f p. then_err source_of source_of _ _ c.in-Err.stop f c.in-Err.is p
