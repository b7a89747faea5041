use Rattle.std.proofs.Common.{◌≡◌, map, drop, Some}
use Rattle.arm_env.specs.Sight.{declared_of}
use Rattle.plan_sight.specs.Sites.{offered_outputs, outputs_in}
use Rattle.plan_table.specs.Found.{scope_at}
use Rattle.plan_sight.specs.Ready.{told_in}
use Rattle.plan_nested.proofs.OutputLemmas.{listed_rest}
use Rattle.plan_nested.proofs.outputs.outputs_of.Given as goal

abbrev pub invariant-loop-output : goal.invariant-loop-output
invariant-loop-output l =
    listed_rest l.table (scope_at l.table l.frame).position (map declared_of l.listed.items)
    (drop l.output-index l.outputs)
    ≡ told_in l.table (offered_outputs (scope_at l.table l.frame).position
    (outputs_in (Some (scope_at l.table l.frame).template)))
