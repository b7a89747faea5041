use Rattle.std.proofs.Common.{ap, subst, ◌∙◌}
use Rattle.arm_expr.specs.Tree.{call}
use Rattle.arm_expr.proofs.ViewLemmas.{tree_of-Call}
use Rattle.emitted_parts.specs.Built.{Are}
use Rattle.emitted_parts.proofs.calls.call_of.Goals as goal

pub returns-in-Ok : goal.returns-in-Ok
returns-in-Ok c = λ ts h.
    tree_of-Call c.args.name c.in-Ok.arguments ∙ ap (call c.args.name) (subst (Are ts) c.in-Ok.is h)
