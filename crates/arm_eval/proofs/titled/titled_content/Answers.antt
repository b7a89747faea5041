use Rattle.arm_env.specs.Sight.{here}
use Rattle.arm_eval.specs.Outputs.{content_value}
use Rattle.arm_eval.specs.Words.{content_of}
use Rattle.arm_eval.proofs.titled.titled_content.Goals as goal

pub returns : goal.returns
returns g c =
    c.resolved.ensures (content_value (content_of c.args.content.now) (here c.args.around.now))
    c.content_value-found.ensures
