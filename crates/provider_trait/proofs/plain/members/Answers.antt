use Rattle.std.proofs.Common.{ap}
use Rattle.arm_value.specs.View.{json}
use Rattle.provider_trait.proofs.PlainLemmas.{copied_members}
use Rattle.provider_trait.proofs.plain.members.Goals as goal

pub returns-in-Object : goal.returns-in-Object
returns-in-Object c = copied_members c.copy.result c.in-Object.members (json c.args.value.now)
    (ap json c.in-Object.is) c.copy.ensures
