use Rattle.std.proofs.Common.{map}
use Rattle.arm_value.specs.View.{json}
use Rattle.plan_table.specs.Found.{scope_at}
use Rattle.dependency_faults.proofs.CheckLemmas.{MetBefore}
use Rattle.dependency_faults.proofs.check.check_values.Given as goal

abbrev pub invariant-elements : goal.invariant-elements
invariant-elements l = MetBefore l.table (scope_at l.table l.opener.frame).position (map json l.values) l.number
