use Rattle.std.proofs.Common.{ap, sym}
use Rattle.std.specs.Prelude.{Ok}
use Rattle.bicep_resolved.specs.View.{source_of}
use Rattle.bicep_names.specs.Parts.{properties_of}
use Rattle.bicep_found.specs.Found.{found}
use Rattle.bicep_found.proofs.FoundLemmas.{pair_gives, pair_err}
use Rattle.bicep_declared.specs.Declare.{body_each}
use Rattle.bicep_declared.specs.View.{body_tree}
use Rattle.bicep_declared.proofs.bodies.with_loop.Goals as goal

pub returns-in-Ok : goal.returns-in-Ok
returns-in-Ok c =
    λ f g p q.
    pair_gives source_of properties_of body_tree (body_each c.args.place c.args.at) _ _ c.in-Ok.over c.in-Ok.fields
    f g (Ok c.repeated.result) c.in-Ok.ensures p q (ap (λ x. found x) (sym c.repeated.ensures))

pub returns-in-Err : goal.returns-in-Err
returns-in-Err c = λ f g p q. pair_err source_of properties_of body_tree _ _ _ c.in-Err.stop f g c.in-Err.ensures p q
