use Rattle.std.proofs.Common.{◌≡◌, ◌++◌, drop}
use Rattle.deployment_reports.specs.Lines.{shown}
use Rattle.deployment_reports.proofs.lines.add_all_shown.Given as goal

abbrev pub invariant-loop-output : goal.invariant-loop-output
invariant-loop-output l =
    l.lines.items ++ shown (drop l.output-index l.outputs) ≡ l.initial.lines.items ++ shown l.outputs
