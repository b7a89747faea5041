use Rattle.arm_functions.proofs.UnionLaw.{later_value_stands}
use Rattle.arm_functions.proofs.laws.union_keeps_later_values.Goals as goal

pub returns : goal.returns
returns c = later_value_stands
