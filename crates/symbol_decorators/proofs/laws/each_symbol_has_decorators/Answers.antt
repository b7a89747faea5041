use Rattle.symbol_decorators.proofs.LengthLemmas.{as_many}
use Rattle.symbol_decorators.proofs.laws.each_symbol_has_decorators.Goals as goal

pub returns : goal.returns
returns c = as_many
