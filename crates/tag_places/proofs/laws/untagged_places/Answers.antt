use Rattle.tag_places.proofs.PlaceLemmas.{untagged}
use Rattle.tag_places.proofs.laws.untagged_places.Goals as goal

pub returns : goal.returns
returns c = untagged
