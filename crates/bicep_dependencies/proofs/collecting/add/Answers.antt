use Rattle.std.proofs.Common.{ap, ◌∙◌}
use Rattle.bicep_dependencies.specs.Dependencies.{has}
use Rattle.bicep_dependencies.proofs.HasLemmas.{has_insert}
use Rattle.bicep_dependencies.proofs.collecting.add.Goals as goal

pub returns-in-Ok : goal.returns-in-Ok
returns-in-Ok c =
    λ n. ap (λ ks. has ks n) c.in-Ok.ensures.keys ∙ has_insert c.args.out.now.keys c.args.number n
