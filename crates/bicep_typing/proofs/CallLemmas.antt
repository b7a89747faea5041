-- How many arguments a call has, and what is at a number in a list.
use Rattle.std.proofs.Common.{◌≡◌, suc, List, [], ◌∷◌, length, map, refl, ap}
use Rattle.std.proofs.lemmas.Option.{slice_get-map}
use Rattle.bicep_resolved.specs.declared.source.Source.{Source}
use Rattle.bicep_resolved.specs.View.{source_of, sources}
use Rattle.bicep_typing.specs.Typing.{count}

pub counted : (es : List Source) → count (sources (map source_of es)) ≡ length es
counted [] = refl
counted (e ∷ es) = ap suc (counted es)

pub ruleset gets = (slice_get-map)
