use Rattle.std.proofs.Common.{◌≡◌, map, drop, codes}
use Rattle.bicep_resolved.specs.View.{property_of, properties}
use Rattle.bicep_resolved.specs.Source.{field_named}
use Rattle.emitted_modules.proofs.fields.params_field.Given as goal

-- none of the fields before has that name
abbrev pub invariant-loop-field : goal.invariant-loop-field
invariant-loop-field l =
    field_named (codes "params") (properties (map property_of l.fields))
    ≡ field_named (codes "params") (properties (map property_of (drop l.field-index l.fields)))
