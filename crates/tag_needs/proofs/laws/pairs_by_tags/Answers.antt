use Rattle.tag_needs.proofs.PairLemmas.{listed_where_shared}
use Rattle.tag_needs.proofs.laws.pairs_by_tags.Goals as goal

pub returns : goal.returns
returns c = λ asks tags i j a t h k. listed_where_shared asks tags i j a t h k
