use Rattle.std.proofs.Common.{◌≡◌, map, drop}
use Rattle.bicep_resolved.specs.View.{source_of, sources}
use Rattle.bicep_placed.specs.Links as spec
use Rattle.bicep_placed.proofs.links.bad_dependencies.Given as goal

-- the rest decides
abbrev pub invariant-loop-e : goal.invariant-loop-e
invariant-loop-e l =
    spec.bad_dependencies (sources (map source_of l.es))
    ≡ spec.bad_dependencies (sources (map source_of (drop l.e-index l.es)))
