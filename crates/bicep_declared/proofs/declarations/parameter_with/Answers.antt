use Rattle.std.proofs.Common.{refl}
use Rattle.std.specs.Prelude.{option_map}
use Rattle.bicep_resolved.specs.View.{source_of}
use Rattle.bicep_found.proofs.FoundLemmas.{one_ok, one_err}
use Rattle.bicep_declared.specs.View.{declared_tree}
use Rattle.bicep_declared.proofs.declarations.parameter_with.Goals as goal

pub returns-in-Ok : goal.returns-in-Ok
returns-in-Ok c = one_ok source_of (option_map declared_tree) _ _ c.in-Ok.default _ _ c.in-Ok.is c.resolve.ensures refl

pub returns-in-Err : goal.returns-in-Err
returns-in-Err c = one_err source_of (option_map declared_tree) _ _ c.in-Err.stop _ c.in-Err.is c.resolve.ensures
