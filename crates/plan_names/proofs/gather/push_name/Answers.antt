use Rattle.std.proofs.Common.{ap}
use Rattle.arm_value.specs.View.{json}
use Rattle.plan_names.proofs.GatherLemmas.{name_pushed, no_name}
use Rattle.plan_names.proofs.gather.push_name.Goals as goal

pub returns-in-Ok : goal.returns-in-Ok
returns-in-Ok c =
    name_pushed c.args.asked.place.now c.args.asked.text.now c.args.kind.now c.in-Text.name c.args.keys.now.items _
    (json c.args.name.now) (ap json c.in-Text.is) c.in-Ok.ensures

pub returns-in_default : goal.returns-in_default
returns-in_default c = no_name c.args.asked.place.now c.args.kind.now c.args.name.now c.in_default.not-Text
