use Rattle.named_parts.proofs.FoundLemmas.{one_inserted}
use Rattle.named_parts.proofs.laws.inserted_parts_are_found.Goals as goal

pub returns : goal.returns
returns g c = λ a xs. one_inserted a g.T.Named.name_of xs
