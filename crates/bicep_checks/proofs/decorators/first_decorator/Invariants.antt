use Rattle.std.proofs.Common.{◌≡◌, map, drop}
use Rattle.bicep_program.specs.Program.{program_file}
use Rattle.resolved_program.specs.Faults.{first_in, first_from}
use Rattle.bicep_checks.specs.Faults.{decorator_in}
use Rattle.bicep_checks.proofs.decorators.first_decorator.Given as goal

-- the rest decides
abbrev pub invariant-loop-number : goal.invariant-loop-number
invariant-loop-number l =
    first_in decorator_in (map program_file l.files)
    ≡ first_from decorator_in l.number (map program_file (drop l.number l.files))
