use Rattle.arm_expr.proofs.ViewLemmas.{popped}
use Rattle.arm_expr.proofs.parser.close.Goals as goal

pub returns : goal.returns
returns c = popped c.pop.result _ _ _ _ c.pop.ensures.items c.args.stack.now.ok.0 c.pop.ensures.cases
