use Rattle.std.proofs.Common.{refl}
use Rattle.std.specs.Prelude.{Ok}
use Rattle.bicep_found.proofs.FoundLemmas.{pair_gives, pair_err}
use Rattle.bicep_declared.specs.Declare.{file}
use Rattle.bicep_declared.specs.View.{declarations_tree, outputs_tree, file_tree}
use Rattle.bicep_declared.proofs.files.joined.Goals as goal

pub returns-in-Ok : goal.returns-in-Ok
returns-in-Ok c =
    λ f g p q.
    pair_gives declarations_tree outputs_tree file_tree file _ _ c.in-Ok.declarations c.in-Ok.outputs f g
    (Ok (record { declarations = c.in-Ok.declarations; outputs = c.in-Ok.outputs })) c.in-Ok.ensures p q refl

pub returns-in-Err : goal.returns-in-Err
returns-in-Err c =
    λ f g p q. pair_err declarations_tree outputs_tree file_tree _ _ _ c.in-Err.stop f g c.in-Err.ensures p q
