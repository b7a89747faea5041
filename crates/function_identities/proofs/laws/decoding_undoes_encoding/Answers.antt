use Rattle.function_identities.proofs.LawLemmas.{back, alone}
use Rattle.function_identities.proofs.laws.decoding_undoes_encoding.Goals as goal

pub returns-clause-back : goal.returns-clause-back
returns-clause-back c = back

pub returns-clause-alone : goal.returns-clause-alone
returns-clause-alone c = alone
