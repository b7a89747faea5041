use Rattle.std.specs.Prelude.{option_map}
use Rattle.bicep_found.proofs.FoundLemmas.{one_gives, one_err}
use Rattle.bicep_declared.specs.View.{body_tree, declared_tree}
use Rattle.bicep_declared.proofs.declarations.resource_of.Goals as goal

pub returns-in-Ok : goal.returns-in-Ok
returns-in-Ok c =
    λ f p. one_gives body_tree (option_map declared_tree) _ _ c.in-Ok.body f _ c.in-Ok.is p c.resource_with.ensures

pub returns-in-Err : goal.returns-in-Err
returns-in-Err c = λ f p. one_err body_tree (option_map declared_tree) _ _ c.in-Err.stop f c.in-Err.is p
