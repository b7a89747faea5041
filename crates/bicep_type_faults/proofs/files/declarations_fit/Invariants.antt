use Rattle.std.proofs.Common.{◌≡◌, map, drop}
use Rattle.bicep_declared.specs.View.{declared_tree}
use Rattle.bicep_program.specs.Program.{program_file}
use Rattle.bicep_typing.specs.Names.{types_in}
use Rattle.bicep_type_faults.specs.Entries.{kind_of}
use Rattle.bicep_type_faults.specs.Files as spec
use Rattle.bicep_type_faults.proofs.files.declarations_fit.Given as goal

-- the rest decides
abbrev pub invariant-loop-entry : goal.invariant-loop-entry
invariant-loop-entry l =
    spec.declarations_fit (map program_file l.files) (types_in l.symbols l.outputs) (map kind_of l.entries)
    (map declared_tree l.declarations)
    ≡ spec.declarations_fit (map program_file l.files) (types_in l.symbols l.outputs)
    (map kind_of (drop l.entry-index l.entries)) (map declared_tree l.rest)
