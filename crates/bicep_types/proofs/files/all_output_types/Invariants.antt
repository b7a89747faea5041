use Rattle.std.proofs.Common.{◌≡◌, ◌++◌, map, drop}
use Rattle.bicep_program.specs.Program.{program_file}
use Rattle.bicep_typing.specs.Names.{listed}
use Rattle.bicep_types.specs.Program.{all_output_types}
use Rattle.bicep_types.proofs.files.all_output_types.Given as goal

-- the rest goes on from what is listed
abbrev pub invariant-loop-file : goal.invariant-loop-file
invariant-loop-file l =
    map listed l.outputs.items ++ all_output_types (map program_file (drop l.file-index l.files))
    ≡ all_output_types (map program_file l.files)
