use Rattle.std.proofs.Common.{◌≡◌, ◌++◌, map, drop}
use Rattle.bicep_program.specs.Program.{program_file}
use Rattle.bicep_arguments.specs.View.{parameters_tree}
use Rattle.bicep_checks.specs.Faults.{parameters_of}
use Rattle.bicep_checks.proofs.arguments.all_parameters.Given as goal

-- the rest goes on from what is listed
abbrev pub invariant-loop-file : goal.invariant-loop-file
invariant-loop-file l =
    map parameters_tree l.parameters.items ++ map parameters_of (map program_file (drop l.file-index l.files))
    ≡ map parameters_of (map program_file l.files)
