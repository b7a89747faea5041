use Rattle.std.proofs.Common.{option_map}
use Rattle.bicep_resolved.specs.View.{value_of, property_of}
use Rattle.bicep_found.proofs.FoundLemmas.{one_gives, one_err}
use Rattle.bicep_names.proofs.makers.property.Goals as goal

pub returns-in-Ok : goal.returns-in-Ok
returns-in-Ok c =
    λ f p. one_gives value_of (option_map property_of) _ _ c.in-Ok.value f _ c.in-Ok.is p c.property_with.ensures

pub returns-in-Err : goal.returns-in-Err
returns-in-Err c = λ f p. one_err value_of (option_map property_of) _ _ c.in-Err.stop f c.in-Err.is p
