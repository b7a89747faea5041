use Rattle.std.proofs.Common.{List, Bool, subst, ◌∙◌}
use Rattle.std.specs.Prelude.{IfOk}
use Rattle.deploy_core.specs.Opens.{IsFilled}
use Rattle.deploy_core.proofs.opening.first_agenda.Goals as goal

pub new-requires : goal.new-requires
new-requires g c = c.in_ok-kinds.ensures.few

pub returns : goal.returns
returns g c =
    subst (λ (ks : List Bool). IfOk c.filled.result (IsFilled ks c.args.needs.now))
    (c.in_ok-agenda.ensures.kinds ∙ c.in_ok-kinds.ensures.kinds) c.filled.ensures
