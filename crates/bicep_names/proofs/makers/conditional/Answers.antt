use Rattle.bicep_resolved.specs.View.{source_of}
use Rattle.bicep_resolved.proofs.ViewLemmas.{source_of-Conditional}
use Rattle.bicep_found.proofs.FoundLemmas.{three_ok, three_err}
use Rattle.bicep_names.proofs.makers.conditional.Goals as goal

pub returns-in-Ok : goal.returns-in-Ok
returns-in-Ok c =
    λ f g h p q r.
    three_ok source_of source_of _ _ _ _ c.in-Ok.condition c.in-Ok.yes c.in-Ok.no f g h _ c.in-Ok.ensures p q r
    (source_of-Conditional _ _ _)

pub returns-in-Err : goal.returns-in-Err
returns-in-Err c = λ f g h p q r. three_err source_of source_of _ _ _ _ _ f g h c.in-Err.ensures p q r
