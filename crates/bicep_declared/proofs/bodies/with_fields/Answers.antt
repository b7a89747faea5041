use Rattle.std.proofs.Common.{refl}
use Rattle.bicep_names.specs.Parts.{properties_of}
use Rattle.bicep_found.proofs.FoundLemmas.{one_ok, one_err}
use Rattle.bicep_declared.specs.View.{body_tree}
use Rattle.bicep_declared.proofs.bodies.with_fields.Goals as goal

pub returns-in-Ok : goal.returns-in-Ok
returns-in-Ok c = λ f p. one_ok properties_of body_tree _ _ c.in-Ok.fields f _ c.in-Ok.is p refl

pub returns-in-Err : goal.returns-in-Err
returns-in-Err c = λ f p. one_err properties_of body_tree _ _ c.in-Err.stop f c.in-Err.is p
