-- Items of lists by their places.
use Rattle.std.proofs.lemmas.Option.{slice_get-map}

pub ruleset places = (slice_get-map)
