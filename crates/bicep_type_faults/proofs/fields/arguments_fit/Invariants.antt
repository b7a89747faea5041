use Rattle.std.proofs.Common.{◌≡◌, map, drop, option_map}
use Rattle.bicep_tree.specs.View.{file_of}
use Rattle.bicep_resolved.specs.View.{property_of, properties}
use Rattle.bicep_typing.specs.Names.{types_in}
use Rattle.bicep_type_faults.specs.Files as spec
use Rattle.bicep_type_faults.proofs.fields.arguments_fit.Given as goal

-- the rest decides
abbrev pub invariant-loop-argument : goal.invariant-loop-argument
invariant-loop-argument l =
    spec.arguments_fit (types_in l.symbols l.outputs) (option_map (λ f. file_of f.now) l.file)
    (properties (map property_of l.arguments))
    ≡ spec.arguments_fit (types_in l.symbols l.outputs) (option_map (λ f. file_of f.now) l.file)
    (properties (map property_of (drop l.argument-index l.arguments)))
