use Rattle.std.proofs.Common.{map, drop}
use Rattle.bicep_resolved.specs.View.{property_of, properties}
use Rattle.emitted_expressions.specs.Sight.{frames_of}
use Rattle.emitted_resources.specs.Filled.{emission_sight}
use Rattle.emitted_modules.specs.Arguments.{ArgumentsFit}
use Rattle.emitted_modules.proofs.ArgumentLemmas.{AreBegun}
use Rattle.emitted_modules.proofs.arguments.arguments.Given as goal

-- what is built and what is left are the whole, and what is left is within the limits
abbrev pub invariant-loop-member : goal.invariant-loop-member
invariant-loop-member l =
    let w = emission_sight l.table in
    let fs = frames_of l.turns in
    let left = properties (map property_of (drop l.member-index l.members)) in
    AreBegun w fs left (properties (map property_of l.members)) l.all × ArgumentsFit w fs left
