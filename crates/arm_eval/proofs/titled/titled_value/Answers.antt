use Rattle.arm_value.specs.View.{json}
use Rattle.arm_env.specs.Sight.{here}
use Rattle.arm_eval.specs.Trees.{tree_value}
use Rattle.arm_eval.proofs.titled.titled_value.Goals as goal

pub returns : goal.returns
returns g c =
    c.resolved.ensures (tree_value (json c.args.tree.now) (here c.args.around.now)) c.tree_value-found.ensures
