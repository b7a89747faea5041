use Rattle.arm_value.proofs.SameLemmas.{decides_equal_items}
use Rattle.arm_value.proofs.value.Items.same.Goals as goal

pub returns-clause-equal : goal.returns-clause-equal
returns-clause-equal c =
    decides_equal_items c.items_are_same.result c.args.self.now c.args.other.now c.items_are_same.ensures
