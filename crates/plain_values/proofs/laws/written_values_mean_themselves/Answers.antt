use Rattle.plain_values.proofs.TextsLemmas.{written_means}
use Rattle.plain_values.proofs.laws.written_values_mean_themselves.Goals as goal

pub returns : goal.returns
returns c = written_means
