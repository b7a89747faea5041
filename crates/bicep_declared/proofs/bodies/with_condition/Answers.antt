use Rattle.std.proofs.Common.{refl}
use Rattle.std.specs.Prelude.{Ok, Some, None}
use Rattle.bicep_resolved.specs.View.{source_of}
use Rattle.bicep_names.specs.Parts.{properties_of}
use Rattle.bicep_found.proofs.FoundLemmas.{pair_gives, pair_err}
use Rattle.bicep_declared.specs.Declare.{body_if}
use Rattle.bicep_declared.specs.View.{body_tree}
use Rattle.bicep_declared.proofs.bodies.with_condition.Goals as goal

pub returns-in-Ok : goal.returns-in-Ok
returns-in-Ok c =
    λ f g p q.
    pair_gives source_of properties_of body_tree (body_if c.args.at) _ _ c.in-Ok.condition c.in-Ok.fields f g
    (Ok (record { each = None; condition = Some c.in-Ok.condition; at = c.args.at; fields = c.in-Ok.fields }))
    c.in-Ok.ensures p q refl

pub returns-in-Err : goal.returns-in-Err
returns-in-Err c = λ f g p q. pair_err source_of properties_of body_tree _ _ _ c.in-Err.stop f g c.in-Err.ensures p q
