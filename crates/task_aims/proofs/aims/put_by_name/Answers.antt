use Rattle.std.proofs.Common.{ap}
use Rattle.arm_value.specs.View.{json}
use Rattle.task_aims.proofs.AimLemmas.{named_so}
use Rattle.task_aims.proofs.aims.put_by_name.Goals as goal

pub returns : goal.returns
returns c =
    named_so c.args.place.now c.args.listed.now c.args.name.now c.in-Text.name (ap json c.in-Text.is)
    c.put_named.result c.put_named.ensures
