use Rattle.symbol_decorators.proofs.SizeLemmas.{not_empty}
use Rattle.symbol_decorators.proofs.laws.batches_are_not_empty.Goals as goal

pub returns : goal.returns
returns c = not_empty
