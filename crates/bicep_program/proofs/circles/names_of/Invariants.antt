use Rattle.std.proofs.Common.{◌≡◌, take, map}
use Rattle.bicep_program.specs.Program.{program_file}
use Rattle.bicep_program.specs.Graphs.{name_at}
use Rattle.bicep_program.proofs.circles.names_of.Given as goal

abbrev pub invariant-loop-number : goal.invariant-loop-number
invariant-loop-number l = l.names ≡ map (name_at (map program_file l.files)) (take l.number-index l.numbers)
