use Rattle.std.proofs.Common.{◌≡◌, map, drop}
use Rattle.bicep_program.specs.Program.{program_file}
use Rattle.resolved_program.specs.Faults.{first_in, first_from}
use Rattle.bicep_arguments.specs.View.{parameters_tree}
use Rattle.bicep_checks.specs.Steps.{argument_by}
use Rattle.bicep_checks.proofs.arguments.first_argument.Given as goal

-- the rest decides
abbrev pub invariant-loop-number : goal.invariant-loop-number
invariant-loop-number l =
    let f = argument_by (map parameters_tree l.parameters) in
    first_in f (map program_file l.files) ≡ first_from f l.number (map program_file (drop l.number l.files))
