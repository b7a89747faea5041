use Rattle.std.proofs.Common.{◌≡◌, map, drop}
use Rattle.bicep_resolved.specs.View.{property_of, properties}
use Rattle.bicep_placed.specs.Files as spec
use Rattle.bicep_placed.proofs.files.bad_names.Given as goal

-- the rest decides
abbrev pub invariant-loop-field : goal.invariant-loop-field
invariant-loop-field l =
    spec.bad_names (properties (map property_of l.fields))
    ≡ spec.bad_names (properties (map property_of (drop l.field-index l.fields)))
