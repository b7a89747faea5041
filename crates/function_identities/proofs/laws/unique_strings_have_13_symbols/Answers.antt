use Rattle.function_identities.proofs.SeedLemmas.{unique_length, unique_symbol}
use Rattle.function_identities.proofs.laws.unique_strings_have_13_symbols.Goals as goal

pub returns-clause-length : goal.returns-clause-length
returns-clause-length c = unique_length

pub returns-clause-symbols : goal.returns-clause-symbols
returns-clause-symbols c = unique_symbol
