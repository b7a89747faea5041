use Rattle.std.proofs.Common.{◌≡◌, ◌++◌, drop}
use Rattle.template_written.specs.Parts.{variable_loops}
use Rattle.template_writer.proofs.variables.write_loops.Given as goal

abbrev pub invariant-loop-variable : goal.invariant-loop-variable
invariant-loop-variable l =
    variable_loops l.variable-items ≡ l.loops ++ variable_loops (drop l.variable-index l.variable-items)
