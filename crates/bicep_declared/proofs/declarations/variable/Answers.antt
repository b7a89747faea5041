use Rattle.std.proofs.Common.{refl}
use Rattle.std.specs.Prelude.{option_map}
use Rattle.bicep_resolved.specs.View.{value_of}
use Rattle.bicep_found.proofs.FoundLemmas.{one_ok, one_err}
use Rattle.bicep_declared.specs.View.{declared_tree}
use Rattle.bicep_declared.proofs.declarations.variable.Goals as goal

pub returns-in-Ok : goal.returns-in-Ok
returns-in-Ok c =
    one_ok value_of (option_map declared_tree) _ _ c.in-Ok.value _ _ c.in-Ok.is c.resolve_value.ensures refl

pub returns-in-Err : goal.returns-in-Err
returns-in-Err c = one_err value_of (option_map declared_tree) _ _ c.in-Err.stop _ c.in-Err.is c.resolve_value.ensures
