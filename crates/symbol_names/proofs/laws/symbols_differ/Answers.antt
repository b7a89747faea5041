use Rattle.symbol_names.proofs.NameLemmas.{symbols_apart}
use Rattle.symbol_names.proofs.laws.symbols_differ.Goals as goal

pub returns : goal.returns
returns c = λ f e n m x y g h k. symbols_apart f e n m x y g h k
