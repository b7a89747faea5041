use Rattle.emitted_declarations.proofs.IdLemmas.{id_like}
use Rattle.emitted_declarations.proofs.laws.ids_are_of_parts.Goals as goal

pub returns : goal.returns
returns c = λ x around kind h ps r i. id_like x around kind ps r h i
