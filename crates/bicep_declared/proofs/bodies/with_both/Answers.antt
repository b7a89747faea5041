use Rattle.std.proofs.Common.{ap, sym}
use Rattle.std.specs.Prelude.{Ok}
use Rattle.bicep_resolved.specs.View.{source_of}
use Rattle.bicep_names.specs.Parts.{properties_of}
use Rattle.bicep_found.specs.Found.{found, both}
use Rattle.bicep_found.proofs.FoundLemmas.{pairs_give, pair_gives, pair_err}
use Rattle.bicep_declared.specs.Declare.{body_each_if}
use Rattle.bicep_declared.specs.View.{body_tree}
use Rattle.bicep_declared.proofs.bodies.with_both.Goals as goal

pub returns-in-Ok : goal.returns-in-Ok
returns-in-Ok c =
    λ f g h p q r.
    pair_gives source_of (λ x. (source_of x.0, properties_of x.1)) body_tree (body_each_if c.args.place c.args.at) _ _
    c.in-Ok.over c.in-Ok.rest f (both g h) (Ok c.repeated_if.result) c.in-Ok.ensures p
    (pairs_give source_of properties_of _ _ c.pair-rest.result g h c.pair-rest.ensures q r)
    (ap (λ x. found x) (sym c.repeated_if.ensures))

pub returns-in-Err : goal.returns-in-Err
returns-in-Err c =
    λ f g h p q r.
    pair_err source_of (λ x. (source_of x.0, properties_of x.1)) body_tree _ _ _ c.in-Err.stop f (both g h)
    c.in-Err.ensures p (pairs_give source_of properties_of _ _ c.pair-rest.result g h c.pair-rest.ensures q r)
