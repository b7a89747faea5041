use Rattle.std.proofs.Common.{◌≡◌, map, drop}
use Rattle.bicep_resolved.specs.View.{property_of, properties}
use Rattle.bicep_typing.specs.Names.{types_in}
use Rattle.bicep_type_faults.specs.Files as spec
use Rattle.bicep_type_faults.proofs.fields.resource_fields_fit.Given as goal

-- the rest decides
abbrev pub invariant-loop-field : goal.invariant-loop-field
invariant-loop-field l =
    spec.resource_fields_fit (types_in l.symbols l.outputs) (properties (map property_of l.fields))
    ≡ spec.resource_fields_fit (types_in l.symbols l.outputs)
    (properties (map property_of (drop l.field-index l.fields)))
