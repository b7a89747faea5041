use Rattle.std.proofs.Common.{◌≡◌, map, drop}
use Rattle.resolved_program.specs.Faults.{first_in, first_from}
use Rattle.resolved_program.specs.View.{file_view}
use Rattle.bicep_checks.specs.Faults.{link_place}
use Rattle.bicep_checks.proofs.places.first_link_place.Given as goal

-- the rest decides
abbrev pub invariant-loop-number : goal.invariant-loop-number
invariant-loop-number l =
    first_in link_place (map file_view l.files)
    ≡ first_from link_place l.number (map file_view (drop l.number l.files))
