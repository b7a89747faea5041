use Rattle.arm_value.specs.View.{json}
use Rattle.arm_value.proofs.SameLemmas.{decides_equal}
use Rattle.arm_value.proofs.value.Value.same.Goals as goal

pub returns-clause-equal : goal.returns-clause-equal
returns-clause-equal c =
    decides_equal c.are_same.result (json c.args.self.now) (json c.args.other.now) c.are_same.ensures
