use Rattle.std.proofs.Common.{◌≡◌, map, drop}
use Rattle.bicep_program.specs.Program.{program_file}
use Rattle.resolved_program.specs.Faults.{first_in, first_from}
use Rattle.bicep_types.specs.Faults.{metadata_place}
use Rattle.bicep_types.proofs.metadata.first_metadata.Given as goal

-- the rest decides
abbrev pub invariant-loop-number : goal.invariant-loop-number
invariant-loop-number l =
    first_in metadata_place (map program_file l.files)
    ≡ first_from metadata_place l.number (map program_file (drop l.number l.files))
