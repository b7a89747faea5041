use Rattle.arm_expr.specs.View.{tree_of}
use Rattle.arm_env.specs.Sight.{here}
use Rattle.expression_values.specs.Meaning.{value}
use Rattle.arm_eval.proofs.titled.titled_value_of.Goals as goal

pub returns : goal.returns
returns g c =
    c.resolved.ensures (value (here c.args.around.now) (tree_of c.args.e.now)) c.value_of-found.ensures
