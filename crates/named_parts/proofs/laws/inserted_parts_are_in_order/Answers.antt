use Rattle.named_parts.proofs.OrderLemmas.{in_order}
use Rattle.named_parts.proofs.laws.inserted_parts_are_in_order.Goals as goal

pub returns : goal.returns
returns g c = λ a xs h n. in_order g.T.Named.name_of a xs h n
