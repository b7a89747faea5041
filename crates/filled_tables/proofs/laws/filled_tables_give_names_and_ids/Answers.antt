use Rattle.filled_tables.proofs.FilledLemmas.{name_given, id_given}
use Rattle.filled_tables.proofs.laws.filled_tables_give_names_and_ids.Goals as goal

pub returns : goal.returns
returns c = record {
  names = λ s filled sound n fs run. name_given s filled sound n fs run;
  ids = λ s filled sound n fs run. id_given s filled sound n fs run;
}
