use Rattle.std.proofs.Common.{◌≡◌, map, drop}
use Rattle.bicep_declared.specs.View.{output_tree}
use Rattle.bicep_typing.specs.Names.{types_in}
use Rattle.bicep_type_faults.specs.Files as spec
use Rattle.bicep_type_faults.proofs.files.outputs_fit.Given as goal

-- the rest decides
abbrev pub invariant-loop-output : goal.invariant-loop-output
invariant-loop-output l =
    spec.outputs_fit (types_in l.symbols l.outputs) (map output_tree l.all)
    ≡ spec.outputs_fit (types_in l.symbols l.outputs) (map output_tree (drop l.output-index l.all))
