use Rattle.arm_value.specs.View.{json}
use Rattle.arm_env.specs.Sight.{here}
use Rattle.arm_eval.specs.Looped.{looped}
use Rattle.arm_eval.proofs.titled.titled_looped.Goals as goal

pub returns : goal.returns
returns g c =
    c.resolved.ensures (looped c.args.name.now (json c.args.count.now) (json c.args.input.now) (here c.args.around.now))
    c.looped_value-found.ensures
