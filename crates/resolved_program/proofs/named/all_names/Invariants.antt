use Rattle.std.proofs.Common.{map, drop}
use Rattle.bicep_program.specs.Program.{program_file}
use Rattle.resolved_program.specs.View.{named_view}
use Rattle.resolved_program.proofs.NamedLemmas.{IsListed}
use Rattle.resolved_program.proofs.named.all_names.Given as goal

-- the names of the files so far are listed, and the rest decides
abbrev pub invariant-loop-number : goal.invariant-loop-number
invariant-loop-number l =
    IsListed (map program_file l.files) (map program_file (drop l.number l.files)) l.number
    (map named_view l.all.named.items) l.all.outputs.items
