use Rattle.std.proofs.Common.{◌≡◌, map, drop}
use Rattle.bicep_resolved.specs.View.{source_of, sources}
use Rattle.bicep_typing.specs.Names.{types_in}
use Rattle.bicep_type_faults.specs.Places as spec
use Rattle.bicep_type_faults.proofs.places.all_linked_fit.Given as goal

-- the rest decides
abbrev pub invariant-loop-e : goal.invariant-loop-e
invariant-loop-e l =
    spec.all_linked_fit (types_in l.symbols l.outputs) (sources (map source_of l.all))
    ≡ spec.all_linked_fit (types_in l.symbols l.outputs) (sources (map source_of (drop l.e-index l.all)))
