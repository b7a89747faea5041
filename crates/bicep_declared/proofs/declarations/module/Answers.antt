use Rattle.std.proofs.Common.{refl}
use Rattle.std.specs.Prelude.{option_map}
use Rattle.bicep_found.proofs.FoundLemmas.{one_ok, one_err}
use Rattle.bicep_declared.specs.View.{body_tree, declared_tree}
use Rattle.bicep_declared.proofs.declarations.module.Goals as goal

pub returns-in-Ok : goal.returns-in-Ok
returns-in-Ok c = one_ok body_tree (option_map declared_tree) _ _ c.in-Ok.body _ _ c.in-Ok.is c.body_of.ensures refl

pub returns-in-Err : goal.returns-in-Err
returns-in-Err c = one_err body_tree (option_map declared_tree) _ _ c.in-Err.stop _ c.in-Err.is c.body_of.ensures
