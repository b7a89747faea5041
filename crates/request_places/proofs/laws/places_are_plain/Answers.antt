use Rattle.request_places.proofs.PlainLemmas.{are_plain}
use Rattle.request_places.proofs.laws.places_are_plain.Goals as goal

pub returns : goal.returns
returns c = are_plain
