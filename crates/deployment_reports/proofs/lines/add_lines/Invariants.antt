use Rattle.std.proofs.Common.{◌≡◌, ◌++◌, drop}
use Rattle.deployment_reports.specs.Lines.{text_of}
use Rattle.deployment_reports.proofs.lines.add_lines.Given as goal

abbrev pub invariant-loop-line : goal.invariant-loop-line
invariant-loop-line l = l.text ++ text_of (drop l.line-index l.lines) ≡ l.initial.text ++ text_of l.lines
