use Rattle.std.proofs.Common.{◌≡◌, map, drop}
use Rattle.resolved_program.specs.Faults.{first_in, first_from}
use Rattle.resolved_program.specs.View.{file_view}
use Rattle.bicep_checks.specs.Faults.{state_place, either}
use Rattle.bicep_checks.specs.Steps.{AreFree}
use Rattle.bicep_checks.proofs.circles.all_walked.Given as goal

-- where the rest has no circle, there is none; and what was found before, else the rest decides
abbrev pub invariant-loop-number : goal.invariant-loop-number
invariant-loop-number l = record {
  free : AreFree (map file_view (drop l.number l.files)) → AreFree (map file_view l.files);
  place : first_in state_place (map file_view l.files)
      ≡ either l.first (first_from state_place l.number (map file_view (drop l.number l.files)));
}
