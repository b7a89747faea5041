use Rattle.std.proofs.Common.{◌≡◌, ◌++◌, drop}
use Rattle.template_written.specs.Parts.{plain_variables}
use Rattle.template_writer.proofs.variables.write_plain.Given as goal

abbrev pub invariant-loop-variable : goal.invariant-loop-variable
invariant-loop-variable l =
    plain_variables l.variable-items ≡ l.members ++ plain_variables (drop l.variable-index l.variable-items)
