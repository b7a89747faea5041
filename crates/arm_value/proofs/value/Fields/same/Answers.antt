use Rattle.arm_value.proofs.SameLemmas.{decides_equal_members}
use Rattle.arm_value.proofs.value.Fields.same.Goals as goal

pub returns-clause-equal : goal.returns-clause-equal
returns-clause-equal c =
    decides_equal_members c.members_are_same.result c.args.self.now c.args.other.now c.members_are_same.ensures
