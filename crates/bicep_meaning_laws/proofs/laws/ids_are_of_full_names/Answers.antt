use Rattle.bicep_meaning_laws.proofs.IdLemmas.{id_is_of_name}
use Rattle.bicep_meaning_laws.proofs.laws.ids_are_of_full_names.Goals as goal

pub returns : goal.returns
returns c = λ here w k n fs i e. id_is_of_name here w k n fs i e
